-- Each state that a used unit leaves follows the state that came to it.
use Rattle.std.proofs.Common.{◌≡◌, ℕ, ◌+◌, Bool, true, false, cond, nat_eq, List, [], ◌∷◌, map, Option, None, Some, Ok, refl, ap, subst, ◌∙◌, arith}
use Rattle.std.specs.List.{All, AllByRecursion, list_all}
use Rattle.std.specs.Option.{option_map_or}
use Rattle.std.proofs.lemmas.List.Elements.{All-head, All-tail, All-weaker}
use Rattle.name_table.specs.declared.names.Kind.{Kind}
use Rattle.name_table.specs.declared.names.Kind.TheVariants as kind
use Rattle.name_table.specs.declared.names.NameId.{NameId}
use Rattle.name_table.specs.declared.style.Style.{Style}
use Rattle.bst_meaning.specs.StyleParts.{kind_of}
use Rattle.sym_state.specs.State.{State}
use Rattle.sym_state.specs.Changes.{symbol_at}
use Rattle.sym_state.specs.WellMade.{HasSmallFields, WellMade, ids_from, is_field, is_variable}
use Rattle.sym_state.specs.declared.hint.Hint.{Hint}
use Rattle.sym_state.specs.declared.piece.Piece.{Piece}
use Rattle.sym_state.specs.declared.symbol.Bind.{Bind}
use Rattle.sym_state.specs.declared.symbol.Sym.{Sym}
use Rattle.cert_check.specs.Certified.{IsPostOf}
use Rattle.cert_check.specs.Uses.{Passage, comes_by, left_state}
use Rattle.cert_check.specs.Walks.{Scope, may_write}
use Rattle.cert_check.proofs.Followed.{Follows}
use Rattle.cert_check.proofs.Having.{all_ids}
use Rattle.cert_check.proofs.LeftFramed.{left_framed}
use Rattle.cert_check.proofs.LeftMade.{left_made}
use Rattle.cert_check.proofs.Passing.{IsPassed, kept_places}
use Rattle.cert_check.proofs.Symbols.{same_name}

-- what holds of each name that is bound holds of one that has a symbol
named_has : (P : NameId → Type 0) (binds : List Bind) (names : List NameId) (name : NameId) (s : Sym) → map (λ b. b.name) binds ≡ names
    → AllByRecursion P names → symbol_at name binds ≡ Some s → P name
named_has P [] names name s e all found = absurd (cc)
named_has P (b ∷ binds) [] name s e all found = absurd (cc)
named_has P (b ∷ binds) (first ∷ names) name s e all found =
    let head : first ≡ b.name = cc in
    let tail : map (λ b. b.name) binds ≡ names = cc in
    elim (nat_eq b.name.0 name.0) as (λ (t : Bool). nat_eq b.name.0 name.0 ≡ t → cond t (Some b.sym) (symbol_at name binds) ≡ Some s → P name) [
      | true ↦ λ is there. subst P (head ∙ same_name b.name name is) all.0
      | false ↦ λ is there. named_has P binds names name s tail all.1 there
    ] refl found

-- no field is a variable, whether an entry is visited or not
not_field : (unit_entry at_entry : Bool) (found : Option Kind) → option_map_or (is_variable unit_entry) found false ≡ true
    → option_map_or (is_field at_entry) found false ≡ true → ⊥
not_field unit_entry at_entry None e f = cc
not_field unit_entry at_entry (Some kind.Field) e f = cc
not_field unit_entry at_entry (Some _) e f = cc

-- a variable isn't among the fields
variable_unbound : (style : Style) (state : State) (unit_entry : Bool) (name : NameId) → WellMade style state
    → option_map_or (is_variable unit_entry) (kind_of style name) false ≡ true → symbol_at name state.fields ≡ None
variable_unbound style state unit_entry name made variable = by_symbol (symbol_at name state.fields) refl
  where
    IsField : NameId → Type 0
    IsField other = option_map_or (is_field state.at_entry) (kind_of style other) false ≡ true

    fields : AllByRecursion IsField (ids_from (is_field state.at_entry) 0 style.names)
    fields = all_ids IsField (is_field state.at_entry) 0 style.names (λ i k is passes.
        let here : i ≡ 0 + i = omega arith in
        subst (λ (n : ℕ). IsField (record { 0 = n })) here (ap (λ (o : Option Kind). option_map_or (is_field state.at_entry) o false) is ∙ passes))

    by_symbol : (o : Option Sym) → symbol_at name state.fields ≡ o → o ≡ None
    by_symbol None is = refl
    by_symbol (Some s) is = absurd (not_field unit_entry state.at_entry (kind_of style name) variable
        (named_has IsField state.fields (ids_from (is_field state.at_entry) 0 style.names) name s made.binds_fields fields is))

-- nor are those that a unit writes
pub written_unbound : (style : Style) (state : State) (unit_entry : Bool) (names : List NameId) → WellMade style state
    → All (λ name. option_map_or (is_variable unit_entry) (kind_of style name) false ≡ true) names
    → AllByRecursion (λ name. symbol_at name state.fields ≡ None) names
written_unbound style state unit_entry [] made all = tt
written_unbound style state unit_entry (name ∷ names) made all = (
  variable_unbound style state unit_entry name made
      (All-head (λ (name : NameId). option_map_or (is_variable unit_entry) (kind_of style name) false ≡ true) name names all),
  written_unbound style state unit_entry names made
      (All-tail (λ (name : NameId). option_map_or (is_variable unit_entry) (kind_of style name) false ≡ true) name names all),
)

-- the state that a unit leaves by one of its posts follows the state that came to it
pub post_follows : (scope : Scope) (unit : Passage) (kept : ℕ) (pre : Piece) (posts : List Piece) (state : State) (post : Piece) (hints left : List Hint)
    → HasSmallFields scope.cert.cond → IsPassed scope.style unit kept pre posts → IsPostOf scope.style unit kept post → WellMade scope.style state
    → comes_by unit scope.cert.cond pre state hints ≡ Ok left → list_all (may_write scope.writes) unit.writes ≡ true
    → Follows scope state (left_state scope.style scope.cert.cond unit pre kept state post)
post_follows scope unit kept pre posts state post hints left small is one made came may =
    left_framed scope unit pre kept state post may (written_unbound scope.style state unit.entry unit.writes made one.placed.writes)
    (left_made scope.style scope.cert.cond unit pre post kept state hints left small made (kept_places scope.style unit kept pre posts is) one.fits came)

-- so do all of them
pub posts_follow : (scope : Scope) (unit : Passage) (kept : ℕ) (pre : Piece) (posts : List Piece) (state : State) (hints left : List Hint)
    → HasSmallFields scope.cert.cond → IsPassed scope.style unit kept pre posts → WellMade scope.style state
    → comes_by unit scope.cert.cond pre state hints ≡ Ok left → list_all (may_write scope.writes) unit.writes ≡ true
    → All (λ post. Follows scope state (left_state scope.style scope.cert.cond unit pre kept state post)) posts
posts_follow scope unit kept pre posts state hints left small is made came may =
    All-weaker (IsPostOf scope.style unit kept) (λ post. Follows scope state (left_state scope.style scope.cert.cond unit pre kept state post))
    (λ post one. post_follows scope unit kept pre posts state post hints left small is one made came may) posts is.each
