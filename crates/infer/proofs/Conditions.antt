-- The default condition: its lines, and that it keeps the limits and the order.
use Rattle.std.proofs.Common.{◌≡◌, ℕ, zero, suc, ◌+◌, ◌≤◌, Bool, true, false, cond, List, [], ◌∷◌, ◌++◌, drop, Option, Some, is_some, slice_get, lit≤, refl, sym, ap, subst, ◌∙◌, add-one, append_assoc, arith}
use Rattle.std.specs.Prelude.{nat_lt}
use Rattle.std.specs.List.{list_all}
use Rattle.std.specs.Option.{option_map}
use Rattle.std.specs.Cmp.Lexicographic.{slice_cmp}
use Rattle.std.specs.Ordering.{is_lt, nat_cmp}
use Rattle.std.proofs.lemmas.Bool.{and_from}
use Rattle.std.proofs.lemmas.Bool.Decides.{nat_tests}
use Rattle.name_table.specs.Names.{kind_at, text_at}
use Rattle.name_table.specs.Sound.{Each}
use Rattle.name_table.specs.TypeTarget.{type_function}
use Rattle.name_table.specs.declared.names.Kind.{Kind}
use Rattle.name_table.specs.declared.names.Kind.TheVariants.{Field}
use Rattle.name_table.specs.declared.names.NameId.{NameId}
use Rattle.name_table.specs.declared.style.Style.{Style}
use Rattle.bst_meaning.specs.declared.condition.Cond.{Cond}
use Rattle.bst_meaning.specs.declared.condition.NamesLine.{NamesLine}
use Rattle.cert_format.specs.CondText.{IsCond, IsNamesLine, is_below, is_chain}
use Rattle.cert_format.specs.Items.{is_field, is_type}
use Rattle.cert_format.proofs.Plain.{each_append, each_of}
use Rattle.infer.specs.DefaultCond.{default_cond, defined_types, holds_names, names_line, names_lines, standard_types}
use Rattle.infer.proofs.Chains.{chain_cons, chain_filtered, each_filtered}

-- the lines from one name on
pub lines_from : (id i : ℕ) (names : List (List ℕ × Kind)) (name : List ℕ) (kind : Kind) → text_at (record { 0 = i }) names ≡ Some name
    → kind_at (record { 0 = i }) names ≡ Some kind → names_lines id (drop i names) ≡ names_line id name kind ++ names_lines (suc id) (drop (suc i) names)
lines_from id i [] name kind text is = absurd (cc)
lines_from id zero (entry ∷ names) name kind text is =
    let one : entry.0 ≡ name = cc in
    let two : entry.1 ≡ kind = cc in
    ap (λ (n : List ℕ). names_line id n entry.1 ++ names_lines (suc id) names) one ∙ ap (λ (k : Kind). names_line id name k ++ names_lines (suc id) names) two
lines_from id (suc i) (entry ∷ names) name kind text is = lines_from id i names name kind text is

-- one name more
pub next_line : (id : ℕ) (names : List (List ℕ × Kind)) (name : List ℕ) (kind : Kind) (lines more : List NamesLine) → text_at (record { 0 = id }) names ≡ Some name
    → kind_at (record { 0 = id }) names ≡ Some kind → more ≡ lines ++ names_line id name kind → lines ++ names_lines id (drop id names) ≡ names_lines 0 names
    → more ++ names_lines (id + 1) (drop (id + 1) names) ≡ names_lines 0 names
next_line id names name kind lines more text is put so_far =
    ap (λ (n : ℕ). more ++ names_lines n (drop n names)) (add-one id)
    ∙ ap (λ (l : List NamesLine). l ++ names_lines (suc id) (drop (suc id) names)) put
    ∙ append_assoc lines (names_line id name kind) (names_lines (suc id) (drop (suc id) names))
    ∙ sym (ap (λ (l : List NamesLine). lines ++ l) (lines_from id id names name kind text is)) ∙ so_far

-- the first of some names that are left
record First (id : ℕ) (all : List (List ℕ × Kind)) (entry : List ℕ × Kind) (rest : List (List ℕ × Kind)) : Type 0 where
  there : slice_get all id ≡ Some entry
  behind : drop (suc id) all ≡ rest

first_left : (id : ℕ) (all : List (List ℕ × Kind)) (entry : List ℕ × Kind) (rest : List (List ℕ × Kind)) → drop id all ≡ entry ∷ rest → First id all entry rest
first_left zero [] entry rest e = absurd (cc)
first_left (suc id) [] entry rest e = absurd (cc)
first_left zero (first ∷ all) entry rest e =
    let one : first ≡ entry = cc in
    let two : all ≡ rest = cc in
    record { there = ap (λ (x : List ℕ × Kind). Some x) one; behind = two }
first_left (suc id) (first ∷ all) entry rest e =
    let later = first_left id all entry rest e in record { there = later.there; behind = later.behind }

-- the line of a field is within its limit
line_kept : (all : List (List ℕ × Kind)) (id : ℕ) (name : List ℕ) (kind : Kind) → kind_at (record { 0 = id }) all ≡ Some kind
    → Each (IsNamesLine all) (names_line id name kind)
line_kept all id name Field is =
    let field : is_field (kind_at (record { 0 = id }) all) ≡ true = ap is_field is in
    elim (holds_names name) as (λ t. Each (IsNamesLine all) (cond t (record { field = record { 0 = id }; most = 1000 } ∷ []) [])) [
      | true ↦ ((field, lit≤ tt), tt)
      | false ↦ tt
    ]
line_kept all id name _ is = tt

lines_kept : (all : List (List ℕ × Kind)) (id : ℕ) (rest : List (List ℕ × Kind)) → drop id all ≡ rest → Each (IsNamesLine all) (names_lines id rest)
lines_kept all id [] e = tt
lines_kept all id (entry ∷ rest) e =
    let first = first_left id all entry rest e in
    each_append (IsNamesLine all) (names_line id entry.0 entry.1) (names_lines (suc id) rest)
    (line_kept all id entry.0 entry.1 (ap (λ (o : Option (List ℕ × Kind)). option_map (λ x. x.1) o) first.there)) (lines_kept all (suc id) rest first.behind)

-- a line stands before another
abbrev stands_before : NamesLine → NamesLine → Bool
stands_before a b = is_below a.field b.field

-- lines upwards from this id on
record Rise (id : ℕ) (lines : List NamesLine) : Type 0 where
  chain : is_chain stands_before lines ≡ true
  from : Each (λ line. id ≤ line.field.0) lines

all_after : (id : ℕ) (most : ℕ) (lines : List NamesLine) → Each (λ line. suc id ≤ line.field.0) lines
    → list_all (stands_before (record { field = record { 0 = id }; most = most })) lines ≡ true
all_after id most [] from = refl
all_after id most (line ∷ lines) from =
    and_from (nat_lt id line.field.0) (list_all (stands_before (record { field = record { 0 = id }; most = most })) lines) (is_after line.field.0 from.0)
    (all_after id most lines from.1)
  where
    is_after : (n : ℕ) → suc id ≤ n → nat_lt id n ≡ true
    is_after n above = grind (arith, nat_tests)

lower_from : (id : ℕ) (lines : List NamesLine) → Each (λ line. suc id ≤ line.field.0) lines → Each (λ line. id ≤ line.field.0) lines
lower_from id [] from = tt
lower_from id (line ∷ lines) from = let here = from.0 in (omega (arith, here), lower_from id lines from.1)

line_rises : (id : ℕ) (name : List ℕ) (kind : Kind) (lines : List NamesLine) → Rise (suc id) lines → Rise id (names_line id name kind ++ lines)
line_rises id name Field lines rise =
    let line : NamesLine = record { field = record { 0 = id }; most = 1000 } in
    elim (holds_names name) as (λ t. Rise id (cond t (line ∷ []) [] ++ lines)) [
      | true ↦ record {
        chain = chain_cons stands_before line lines (all_after id 1000 lines rise.from) rise.chain;
        from = (omega arith, lower_from id lines rise.from);
      }
      | false ↦ record { chain = rise.chain; from = lower_from id lines rise.from }
    ]
line_rises id name _ lines rise = record { chain = rise.chain; from = lower_from id lines rise.from }

lines_rise : (id : ℕ) (names : List (List ℕ × Kind)) → Rise id (names_lines id names)
lines_rise id [] = record { chain = refl; from = tt }
lines_rise id (entry ∷ names) = line_rises id entry.0 entry.1 (names_lines (suc id) names) (lines_rise (suc id) names)

-- the default condition keeps the limits and the order
default_kept : (style : Style) → IsCond style.names (default_cond style)
default_kept style =
    let defined : List ℕ → Bool = λ name. is_some (type_function name style) in
    record {
      entries = lit≤ tt;
      key = lit≤ tt;
      preamble = lit≤ tt;
      length = lit≤ tt;
      bounds = lines_kept style.names 0 style.names refl;
      names_rise = (lines_rise 0 style.names).chain;
      fields = tt;
      nonblank_rise = refl;
      types = each_filtered defined (λ name. is_type name ≡ true) standard_types (each_of is_type standard_types refl);
      types_rise = chain_filtered (λ a b. is_lt (slice_cmp nat_cmp a b)) defined standard_types refl;
    }

-- and so does a condition with its parts
pub kept_as : (style : Style) (names : List NamesLine) (nonblank : List NameId) (types : List (List ℕ)) → names ≡ names_lines 0 style.names → nonblank ≡ []
    → types ≡ defined_types style standard_types
    → IsCond style.names
    (record { entries = 10000; key = 250; preamble = 20000; length = 10000; names = names; nonblank = nonblank; types = types; other = true })
kept_as style names nonblank types one two three =
    let same : (let made : Cond = record { entries = 10000; key = 250; preamble = 20000; length = 10000; names = names; nonblank = nonblank; types = types; other = true }
    in made) ≡ default_cond style = cc in
    subst (IsCond style.names) (sym same) (default_kept style)
