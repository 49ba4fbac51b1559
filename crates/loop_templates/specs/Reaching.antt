-- Which bodies are reachable from some, and which names occur in them (docs/ANALYSER.md, "Loops"): through blocks, calls, quoted names,
-- and what `call.type$` enters.
use Rattle.std.specs.Prelude.{ℕ, zero, suc, Bool, true, false, ◌&&◌, not, if◌then◌else◌, List, [], ◌∷◌, ◌++◌, length, map, replicate, Option, None, Some, slice_get, slice_set, flat_map, fold}
use Rattle.std.specs.List.{filter}
use Rattle.std.specs.Option.{option_map_or, unwrap_or}
use Rattle.lin_facts.specs.declared.row.Term.{Term}
use Rattle.lin_facts.specs.declared.row.Term.TheVariants.{Value, Length, Names, Pos}
use Rattle.name_table.specs.Names.{kind_at}
use Rattle.name_table.specs.declared.builtin.Builtin.TheVariants as op
use Rattle.name_table.specs.declared.names.Kind.{Kind}
use Rattle.name_table.specs.declared.names.Kind.TheVariants.{Builtin, Wizard, Field, IntEntry, IntGlobal, StrEntry, StrGlobal}
use Rattle.name_table.specs.declared.names.NameId.{NameId}
use Rattle.name_table.specs.declared.style.Body.{Body}
use Rattle.name_table.specs.declared.style.BodyId.{BodyId}
use Rattle.name_table.specs.declared.style.Style.{Style}
use Rattle.name_table.specs.declared.style.Token.{Token}
use Rattle.name_table.specs.declared.style.Token.TheVariants.{Int, Str, Quote, Call, Block}
use Rattle.name_table.specs.declared.style.TokenAt.{TokenAt}
use Rattle.bst_meaning.specs.StyleParts.{kind_of}
use Rattle.bst_meaning.specs.declared.value.Target.{Target}
use Rattle.bst_meaning.specs.declared.value.Target.TheVariants.{Named, Block as BlockTarget}
use Rattle.sym_state.specs.WellMade.{ids_from, is_field}
use Rattle.loop_templates.specs.Bound.{all_bound}
use Rattle.loop_templates.specs.declared.cases.Bound.{Bound}

-- a mark for each of some things, by its number
abbrev pub Marks : Type 0
Marks = List Bool

-- the mark of a number
abbrev pub is_marked : Marks → ℕ → Bool
is_marked marks k = unwrap_or (slice_get marks k) false

-- a number is marked
abbrev pub with_mark : Marks → ℕ → Marks
with_mark marks k = slice_set marks k true

-- the body of a function that the style defines
abbrev pub own_body : Option Kind → List BodyId
own_body (Some (Wizard body)) = body ∷ []
own_body _ = []

-- the bodies that a name of a kind enters, where these are the functions that `call.type$` enters
abbrev pub bodies_entered : Style → List NameId → Option Kind → List BodyId
bodies_entered style types (Some (Builtin op.CallType)) = flat_map (λ name. own_body (kind_of style name)) types
bodies_entered style types found = own_body found

-- the bodies that a target enters
abbrev pub roots_of : Style → List NameId → Target → List BodyId
roots_of style types (Named name) = bodies_entered style types (kind_of style name)
roots_of style types (BlockTarget body) = body ∷ []

-- the bodies behind a token, entered there or quoted
abbrev pub bodies_behind : Style → List NameId → Token → List BodyId
bodies_behind style types (Int n) = []
bodies_behind style types (Str text) = []
bodies_behind style types (Quote name) = bodies_entered style types (kind_of style name)
bodies_behind style types (Call name) = bodies_entered style types (kind_of style name)
bodies_behind style types (Block body) = body ∷ []

-- bodies are marked
abbrev pub with_bodies : List BodyId → Marks → Marks
with_bodies bodies marks = fold (λ m body. with_mark m body.0) marks bodies

-- those behind a body's tokens
abbrev pub with_behind : Style → List NameId → List TokenAt → Marks → Marks
with_behind style types tokens marks = fold (λ m at. with_bodies (bodies_behind style types at.token) m) marks tokens

-- behind each body that is marked, where bodies are numbered from here: so far one step leads
abbrev pub one_further : Style → List NameId → ℕ → List Body → Marks → Marks
one_further style types k [] marks = marks
one_further style types k (body ∷ bodies) marks =
    one_further style types (suc k) bodies (if is_marked marks k then with_behind style types body.tokens marks else marks)

-- so many steps
abbrev pub further : Style → List NameId → ℕ → Marks → Marks
further style types zero marks = marks
further style types (suc n) marks = further style types n (one_further style types 0 style.bodies marks)

-- the bodies that are reachable from some: each step that marks anything marks one body more, so there are no more steps than bodies
abbrev pub reached : Style → List NameId → List BodyId → Marks
reached style types roots = further style types (length style.bodies) (with_bodies roots (replicate (length style.bodies) false))

-- the name that a token calls or quotes
abbrev pub named_in : Token → List NameId
named_in (Quote name) = name ∷ []
named_in (Call name) = name ∷ []
named_in _ = []

-- the name that it quotes
abbrev pub quoted_in : Token → List NameId
quoted_in (Quote name) = name ∷ []
quoted_in _ = []

-- the names that tokens name in this way are marked
abbrev pub with_names : (Token → List NameId) → List TokenAt → Marks → Marks
with_names names tokens marks = fold (λ m at. fold (λ n name. with_mark n name.0) m (names at.token)) marks tokens

-- those of the bodies that are reached, where bodies are numbered from here
abbrev pub names_from : (Token → List NameId) → Marks → ℕ → List Body → Marks → Marks
names_from names reach k [] marks = marks
names_from names reach k (body ∷ bodies) marks =
    names_from names reach (suc k) bodies (if is_marked reach k then with_names names body.tokens marks else marks)

-- those of a style
abbrev pub names_in : (Token → List NameId) → Style → Marks → Marks
names_in names style reach = names_from names reach 0 style.bodies (replicate (length style.names) false)

-- which names occur in the bodies that are reached, and which of them are quoted there
pub record Occurring : Type 0 where
  pub named : Marks
  pub quoted : Marks

-- those of the bodies that are reachable from some
abbrev pub occurring : Style → List NameId → List BodyId → Occurring
occurring style types roots =
    let reach = reached style types roots in record { named = names_in named_in style reach; quoted = names_in quoted_in style reach }

-- those of all bodies
abbrev pub occurring_anywhere : Style → Occurring
occurring_anywhere style =
    let all = replicate (length style.bodies) true in record { named = names_in named_in style all; quoted = names_in quoted_in style all }

-- an integer variable that is bound
abbrev pub is_integer : Bound → Kind → Bool
is_integer bound IntGlobal = bound.globals
is_integer bound IntEntry = bound.entry
is_integer bound _ = false

-- a string variable that has one
abbrev pub is_string : Bool → Kind → Bool
is_string at_entry StrGlobal = true
is_string at_entry StrEntry = at_entry
is_string at_entry _ = false

-- the names of a kind that occur
abbrev pub occurring_of : (Kind → Bool) → Style → Marks → List NameId
occurring_of test style named = filter (λ name. is_marked named name.0) (ids_from test 0 style.names)

-- a name isn't a string variable that is quoted, which counts as written
abbrev pub stays : Style → Marks → Bool → NameId → Bool
stays style quoted at_entry name = not (is_marked quoted name.0 && option_map_or (is_string at_entry) (kind_of style name) false)

-- a field or a string variable
abbrev pub has_length : Bool → Kind → Bool
has_length at_entry Field = at_entry
has_length at_entry kind = is_string at_entry kind

-- the strings that occur and stay what they are: the fields, and the variables that aren't written
abbrev pub strings_of : Style → Occurring → Bool → List NameId
strings_of style found at_entry =
    filter (stays style found.quoted at_entry) (occurring_of (has_length at_entry) style found.named)

-- the value of each integer variable that occurs
abbrev pub values_over : Style → Occurring → Bound → List Term
values_over style found bound = map (λ name. Value name.0) (occurring_of (is_integer bound) style found.named)

-- the terms over the names that occur, in the order of terms, where a name stands for its symbol: the value of each integer variable,
-- the length and the names of each string that stays
abbrev pub terms_over : Style → Occurring → Bool → List Term
terms_over style found at_entry =
    let strings = strings_of style found at_entry in
    values_over style found (all_bound at_entry)
    ++ (map (λ name. Length name.0) strings ++ map (λ name. Names name.0) strings)

-- the terms of what commands leave: those values, and behind them the number of visited entries where it may stand
abbrev pub command_terms : Style → Occurring → Bound → Bool → List Term
command_terms style found bound has_pos = values_over style found bound ++ (if has_pos then Pos ∷ [] else [])
