-- The table of the functions that stand before READ, made from the last command to the first, and what is read in it.
use Rattle.std.proofs.Common.{◌≡◌, ◌∙◌, ℕ, ◌+◌, ◌-◌, ◌<◌, ◌≤◌, Bool, true, false, ◌&&◌, ◌||◌, if◌then◌else◌, cond, List, [], ◌∷◌, None, Option, Some, ap, arith, drop, get_or, length, nat_eq, replicate, refl, sym}
use Rattle.std.specs.Option.{option_and_then, option_map, option_map_or}
use Rattle.std.specs.Cmp.Lexicographic.{same_text}
use Rattle.std.proofs.lemmas.Bool.{eq-eqb, eqb-true}
use Rattle.std.proofs.lemmas.List.{drop_more, get_or-replicate, length-replicate}
use Rattle.std.proofs.lemmas.Option.{same_Some}
use Rattle.name_table.specs.declared.names.Kind.{Kind}
use Rattle.name_table.specs.declared.names.NameId.{NameId}
use Rattle.name_table.specs.declared.style.CommandAt.{CommandAt}
use Rattle.name_table.specs.declared.style.Style.{Style}
use Rattle.name_table.specs.Names.{id_of, later, same_name, text_at}
use Rattle.name_table.specs.TypeTarget.{has_read, is_function, stands_before_read, type_function}
use Rattle.bst_step.specs.Prepared.{AreDefined, finds_itself}

-- a name that is found has the bytes by which it was looked for
text_found : (name : List ℕ) (names : List (List ℕ × Kind)) (id : NameId) → id_of name names ≡ Some id → text_at id names ≡ Some name
text_found name [] id found = absurd (cc)
text_found name (first ∷ rest) id found = by (same_name name first.0) (id_of name rest) refl refl found (text_found name rest)
  where
    by : (here : Bool) (there : Option NameId) → same_name name first.0 ≡ here → id_of name rest ≡ there
        → cond here (Some (record { 0 = 0 })) (option_map later there) ≡ Some id
        → ((i : NameId) → id_of name rest ≡ Some i → text_at i rest ≡ Some name) → text_at id (first ∷ rest) ≡ Some name
    by true there same is found more =
        ap (λ (i : NameId). text_at i (first ∷ rest)) (sym (same_Some (record { 0 = 0 }) id found))
        ∙ ap (λ (bytes : List ℕ). Some bytes) (sym (same_text name first.0 (sym same)))
    by false None same is found more = absurd (cc)
    by false (Some i) same is found more =
        ap (λ (i : NameId). text_at i (first ∷ rest)) (sym (same_Some (later i) id found)) ∙ more i is

-- so its bytes are found under its id
finds_found : (name : List ℕ) (names : List (List ℕ × Kind)) (id : NameId) → id_of name names ≡ Some id → finds_itself id names ≡ true
finds_found name names id found =
    ap (λ (o : Option (List ℕ)). option_map_or (λ text. option_map_or (λ i. nat_eq i.0 id.0) (id_of text names) false) o false) (text_found name names id found)
    ∙ ap (λ (o : Option NameId). option_map_or (λ i. nat_eq i.0 id.0) o false) found
    ∙ eq-eqb id.0 id.0 refl

-- what is read in the table
pub found_there : (style : Style) (name : List ℕ) (id : NameId) (stands : Bool) → id_of name style.names ≡ Some id
    → (stands_before_read id style.commands && finds_itself id style.names) ≡ stands → (if stands then Some id else None) ≡ type_function name style
found_there style name id stands found is =
    sym (ap (λ (o : Option NameId). option_and_then (λ i. if stands_before_read i style.commands then Some i else None) o) found
    ∙ ap (λ (b : Bool). if b then Some id else None)
    (sym (and_true (stands_before_read id style.commands) (finds_itself id style.names) (finds_found name style.names id found)) ∙ is))
  where
    and_true : (a b : Bool) → b ≡ true → (a && b) ≡ a
    and_true true b is = is
    and_true false b is = refl

-- what is read in the table at an id whose name is known
pub known_there : (style : Style) (name text : List ℕ) (id : NameId) → (stands_before_read id style.commands && finds_itself id style.names) ≡ true
    → text_at id style.names ≡ Some text → text ≡ name → type_function name style ≡ Some id
known_there style name text id is here same = by (stands_before_read id style.commands) refl is
  where
    same_id : (o : Option NameId) → option_map_or (λ i. nat_eq i.0 id.0) o false ≡ true → o ≡ Some id
    same_id None is = absurd (cc)
    same_id (Some i) is = ap (λ (n : ℕ). Some (record { 0 = n })) (eqb-true i.0 id.0 is)

    found : finds_itself id style.names ≡ true → id_of name style.names ≡ Some id
    found finds =
        ap (λ (bytes : List ℕ). id_of bytes style.names) (sym same)
        ∙ same_id (id_of text style.names)
        (sym (ap (λ (o : Option (List ℕ)). option_map_or (λ bytes. option_map_or (λ i. nat_eq i.0 id.0) (id_of bytes style.names) false) o false) here) ∙ finds)

    by : (stands : Bool) → stands_before_read id style.commands ≡ stands → (stands && finds_itself id style.names) ≡ true
        → type_function name style ≡ Some id
    by true stands finds = sym (found_there style name id true (found finds) (ap (λ (b : Bool). b && finds_itself id style.names) stands ∙ finds))
    by false stands finds = absurd (cc)

-- behind the last command nothing is defined
pub none_defined : (n : ℕ) (names : List (List ℕ × Kind)) → AreDefined (replicate n false) names []
none_defined n names id other within = get_or-replicate n id false other (omega (arith, within, length-replicate n false))

-- a command in front of no READ defines nothing
unread : (a b r : Bool) → r ≡ false → ((a && r) || b) ≡ b
unread true b r is = ap (λ (x : Bool). x || b) is
unread false b r is = refl

pub nothing_noted : (table : List Bool) (names : List (List ℕ × Kind)) (first : CommandAt) (rest : List CommandAt) → has_read rest ≡ false
    → AreDefined table names rest → AreDefined table names (first ∷ rest)
nothing_noted table names first rest unready defined id other within =
    defined id other within
    ∙ ap (λ (b : Bool). b && finds_itself (record { 0 = id }) names)
    (sym (unread (is_function (record { 0 = id }) first.command) (stands_before_read (record { 0 = id }) rest) (has_read rest) unready))

-- whether READ is among the commands with one more in front
pub read_before : (a b : Bool) → b ≡ true → b ≡ (a || b)
read_before true b is = is
read_before false b is = refl

pub read_here : (a b : Bool) → b ≡ false → a ≡ (a || b)
read_here true b is = refl
read_here false b is = sym is

-- one command more
pub one_earlier : (commands : List CommandAt) (at : ℕ) (first : CommandAt) → 0 < at → at ≤ length commands → first ≡ get_or commands (at - 1) first
    → drop (at - 1) commands ≡ first ∷ drop at commands
one_earlier commands at first some within is =
    let next : at - 1 + 1 ≡ at = omega (arith, some) in
    drop_more commands (at - 1) first (omega (arith, some, within))
    ∙ ap (λ (f : CommandAt). f ∷ drop (at - 1 + 1) commands) (sym is)
    ∙ ap (λ (k : ℕ). first ∷ drop k commands) next
