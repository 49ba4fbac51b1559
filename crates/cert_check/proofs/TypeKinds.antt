-- What `call.type$` may enter: a function of the style, or `skip$`, of those that the condition admits.
use Rattle.std.proofs.Common.{◌≡◌, ℕ, zero, suc, ◌<◌, Bool, true, false, cond, nat_eq, List, [], ◌∷◌, ◌++◌, length, codes, is_none, Option, None, Some, refl, sym, ap, subst, ◌∙◌, arith, inl, inr, ◌⊎◌}
use Rattle.std.specs.Prelude.{◌&&◌, ◌||◌, slice_index_or}
use Rattle.std.specs.List.{list_any}
use Rattle.std.specs.Option.{option_and_then, option_map_or}
use Rattle.std.proofs.lemmas.Bool.{and_parts}
use Rattle.std.proofs.lemmas.Bool.Decides.{nat_tests}
use Rattle.name_table.specs.Names.{id_of, kind_at}
use Rattle.name_table.specs.Opening.{skip}
use Rattle.name_table.specs.Sound.{Each, IsCommandSound, IsSound}
use Rattle.name_table.specs.TypeTarget.{has_read, is_function, stands_before_read, target_of, type_function}
use Rattle.name_table.specs.declared.builtin.Builtin.TheVariants as op
use Rattle.name_table.specs.declared.names.Kind.{Kind}
use Rattle.name_table.specs.declared.names.Kind.TheVariants as kind
use Rattle.name_table.specs.declared.names.NameId.{NameId}
use Rattle.name_table.specs.declared.style.BodyId.{BodyId}
use Rattle.name_table.specs.declared.style.Command.{Command}
use Rattle.name_table.specs.declared.style.Command.TheVariants.{Function}
use Rattle.name_table.specs.declared.style.CommandAt.{CommandAt}
use Rattle.name_table.specs.declared.style.Style.{Style}
use Rattle.name_table.specs.declared.style.TypeTarget.TheVariants.{Function as FunctionTarget, Default, Skip}
use Rattle.bst_meaning.specs.Builtins.{type_entered}
use Rattle.bst_meaning.specs.Condition.{TypeIsAdmitted}
use Rattle.bst_meaning.specs.StyleParts.{kind_of}
use Rattle.bst_meaning.specs.declared.condition.Cond.{Cond}
use Rattle.refinements.specs.Covered.{IsAmong}
use Rattle.cert_check.specs.Walks.{default_function, has_other_types, listed_functions, type_functions}

-- the name of a function of the style
abbrev pub IsDefined : Style → NameId → Type 0
IsDefined style name = (body : BodyId) × (kind_of style name ≡ Some (kind.Wizard body))

command_defines : (style : Style) (id : NameId) (command : Command) → IsCommandSound style.names command → is_function id command ≡ true → IsDefined style id
command_defines style id (Function other) sound e =
    (sound.0, ap (λ (n : ℕ). kind_at (record { 0 = n }) style.names) (same id.0 other.0 e) ∙ sound.1)
  where
    same : (a b : ℕ) → nat_eq a b ≡ true → a ≡ b
    same a b e = grind (arith, nat_tests)
command_defines style id _ sound e = absurd (cc)

commands_define : (style : Style) (id : NameId) (commands : List CommandAt) → Each (λ at. IsCommandSound style.names at.command) commands
    → stands_before_read id commands ≡ true → IsDefined style id
commands_define style id [] sound e = absurd (cc)
commands_define style id (first ∷ rest) sound e =
    elim (is_function id first.command && has_read rest) as (λ (t : Bool). (is_function id first.command && has_read rest) ≡ t
    → (t || stands_before_read id rest) ≡ true → IsDefined style id) [
      | true ↦ λ is found. command_defines style id first.command sound.0 (and_parts (is_function id first.command) (has_read rest) is).0
      | false ↦ λ is found. commands_define style id rest sound.1 found
    ] refl e

-- what a type names is defined
type_defined : (style : Style) (name : List ℕ) (id : NameId) → IsSound style → type_function name style ≡ Some id → IsDefined style id
type_defined style name id sound e = by_id (id_of name style.names) e
  where
    by_test : (i : NameId) (t : Bool) → stands_before_read i style.commands ≡ t → (let found : Option NameId = cond t (Some i) None in found) ≡ Some id
        → IsDefined style id
    by_test i true is e =
        let same : i ≡ id = cc in
        commands_define style id style.commands sound.commands (subst (λ (j : NameId). stands_before_read j style.commands ≡ true) same is)
    by_test i false is e = absurd (cc)

    by_id : (found : Option NameId) → option_and_then (λ i. cond (stands_before_read i style.commands) (Some i) None) found ≡ Some id → IsDefined style id
    by_id None e = absurd (cc)
    by_id (Some i) e = by_test i (stands_before_read i style.commands) refl e

-- a function of the style, or `skip$`
abbrev pub IsTyped : Style → NameId → Type 0
IsTyped style name = IsDefined style name ⊎ (kind_of style name ≡ Some (kind.Builtin op.Skip))

skip_typed : (style : Style) → IsSound style → kind_of style skip ≡ Some (kind.Builtin op.Skip)
skip_typed style sound = ap (λ (names : List (List ℕ × Kind)). kind_at skip names) sound.names

default_typed : (style : Style) → IsSound style → IsTyped style (default_function style)
default_typed style sound = by_found (type_function (codes "default.type") style) refl
  where
    by_found : (found : Option NameId) → type_function (codes "default.type") style ≡ found → IsTyped style (option_map_or (λ id. id) found skip)
    by_found (Some id) is = inl (type_defined style (codes "default.type") id sound is)
    by_found None is = inr (skip_typed style sound)

-- what is entered for a type that the style doesn't define
other_entered : (style : Style) (name : List ℕ) → type_function name style ≡ None → type_entered (target_of name style) ≡ default_function style
other_entered style name is =
    ap (λ (o : Option NameId). type_entered (option_map_or FunctionTarget o (option_map_or Default (type_function (codes "default.type") style) Skip))) is
    ∙ by_found (type_function (codes "default.type") style)
  where
    by_found : (found : Option NameId) → type_entered (option_map_or Default found Skip) ≡ option_map_or (λ id. id) found skip
    by_found (Some id) = refl
    by_found None = refl

own_entered : (style : Style) (name : List ℕ) (id : NameId) → type_function name style ≡ Some id → type_entered (target_of name style) ≡ id
own_entered style name id is =
    ap (λ (o : Option NameId). type_entered (option_map_or FunctionTarget o (option_map_or Default (type_function (codes "default.type") style) Skip))) is

pub type_typed : (style : Style) (name : List ℕ) → IsSound style → IsTyped style (type_entered (target_of name style))
type_typed style name sound = by_found (type_function name style) refl
  where
    by_found : (found : Option NameId) → type_function name style ≡ found → IsTyped style (type_entered (target_of name style))
    by_found (Some id) is = subst (IsTyped style) (sym (own_entered style name id is)) (inl (type_defined style name id sound is))
    by_found None is = subst (IsTyped style) (sym (other_entered style name is)) (default_typed style sound)

-- a name that is contained is among them
contained : (x : List ℕ) (xs : List (List ℕ)) (k : ℕ) → k < length xs → slice_index_or xs k x ≡ x → IsAmong x xs
contained x [] k less e = absurd (omega (arith, less))
contained x (y ∷ xs) zero less e = inl (sym e)
contained x (y ∷ xs) (suc k) less e = inr (contained x xs k (omega (arith, less)) e)

-- among the functions of listed types
listed_among : (style : Style) (names : List (List ℕ)) (name : List ℕ) (id : NameId) → IsAmong name names → type_function name style ≡ Some id
    → IsAmong id (listed_functions style names)
listed_among style [] name id there is = absurd there
listed_among style (first ∷ names) name id (inl same) is =
    subst (λ (o : Option NameId). IsAmong id (option_map_or (λ i. i ∷ listed_functions style names) o (listed_functions style names)))
    (sym (ap (λ (n : List ℕ). type_function n style) (sym same) ∙ is)) (inl refl)
listed_among style (first ∷ names) name id (inr later) is = later_among (type_function first style) (listed_among style names name id later is)
  where
    later_among : (found : Option NameId) → IsAmong id (listed_functions style names)
        → IsAmong id (option_map_or (λ i. i ∷ listed_functions style names) found (listed_functions style names))
    later_among (Some i) among = inr among
    later_among None among = among

-- a listed type that the style doesn't define
undefined_listed : (style : Style) (names : List (List ℕ)) (name : List ℕ) → IsAmong name names → type_function name style ≡ None
    → list_any (λ n. is_none (type_function n style)) names ≡ true
undefined_listed style [] name there is = absurd there
undefined_listed style (first ∷ names) name (inl same) is =
    ap (λ (o : Option NameId). is_none o || list_any (λ n. is_none (type_function n style)) names) (ap (λ (n : List ℕ). type_function n style) (sym same) ∙ is)
undefined_listed style (first ∷ names) name (inr later) is = either (is_none (type_function first style)) _ (undefined_listed style names name later is)
  where
    either : (a b : Bool) → b ≡ true → (a || b) ≡ true
    either true b e = refl
    either false b e = e

among_first : (x : NameId) (xs ys : List NameId) → IsAmong x xs → IsAmong x (xs ++ ys)
among_first x [] ys among = absurd among
among_first x (y ∷ xs) ys (inl is) = inl is
among_first x (y ∷ xs) ys (inr later) = inr (among_first x xs ys later)

among_last : (x : NameId) (xs ys : List NameId) → IsAmong x ys → IsAmong x (xs ++ ys)
among_last x [] ys among = among
among_last x (y ∷ xs) ys among = inr (among_last x xs ys among)

-- what is entered for an admitted type is among the functions that are walked
pub type_among : (style : Style) (admits : Cond) (name : List ℕ) → TypeIsAdmitted style admits name
    → IsAmong (type_entered (target_of name style)) (type_functions style admits)
type_among style admits name admitted = by_found (type_function name style) refl admitted
  where
    others : List NameId
    others = cond (has_other_types style admits) (default_function style ∷ []) []

    other_among : has_other_types style admits ≡ true → type_function name style ≡ None
        → IsAmong (type_entered (target_of name style)) (type_functions style admits)
    other_among has is =
        subst (λ (id : NameId). IsAmong id (type_functions style admits)) (sym (other_entered style name is))
        (among_last (default_function style) (listed_functions style admits.types) others
        (subst (λ (t : Bool). IsAmong (default_function style) (cond t (default_function style ∷ []) [])) (sym has) (inl refl)))

    either : (a b : Bool) → b ≡ true → (a || b) ≡ true
    either true b e = refl
    either false b e = e

    by_found : (found : Option NameId) → type_function name style ≡ found → TypeIsAdmitted style admits name
        → IsAmong (type_entered (target_of name style)) (type_functions style admits)
    by_found (Some id) is (inl there) =
        subst (λ (i : NameId). IsAmong i (type_functions style admits)) (sym (own_entered style name id is))
        (among_first id (listed_functions style admits.types) others (listed_among style admits.types name id (contained name admits.types there.0 there.1 there.2) is))
    by_found (Some id) is (inr other) = let none = other.0 in absurd (cc)
    by_found None is (inl there) = other_among (either admits.other _ (undefined_listed style admits.types name (contained name admits.types there.0 there.1 there.2) is)) is
    by_found None is (inr other) = other_among (ap (λ (t : Bool). t || list_any (λ n. is_none (type_function n style)) admits.types) other.1) is
