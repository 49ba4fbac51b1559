-- A used summary leaves a state that follows the one that came to it, where that is well made.
use Rattle.std.proofs.Common.{◌≡◌, ℕ, suc, ◌+◌, Bool, true, false, nat_eq, List, [], ◌∷◌, ◌++◌, map, Option, None, Some, refl, sym, ap, ◌∙◌, arith}
use Rattle.std.specs.List.{AllByRecursion, list_all}
use Rattle.std.proofs.lemmas.Bool.{and_parts}
use Rattle.std.proofs.lemmas.Bool.Decides.{nat_tests}
use Rattle.name_table.specs.declared.names.NameId.{NameId}
use Rattle.sym_state.specs.State.{State}
use Rattle.sym_state.specs.Changes.{symbol_at}
use Rattle.sym_state.specs.Entailing.{under}
use Rattle.sym_state.specs.Renaming.{bind_renamed, sym_renamed}
use Rattle.sym_state.specs.Starting.{seat, seats, unbound}
use Rattle.sym_state.specs.WellMade.{WellMade}
use Rattle.sym_state.specs.declared.piece.Piece.{Piece}
use Rattle.sym_state.specs.declared.symbol.Bind.{Bind}
use Rattle.sym_state.specs.declared.symbol.Sym.{Sym}
use Rattle.cert_check.specs.Uses.{Passage, facts_left, left_state, new_symbols, own_count, own_places, post_match, rows_left}
use Rattle.cert_check.specs.Walks.{Scope, may_write}
use Rattle.cert_check.proofs.Followed.{Follows}
use Rattle.cert_check.proofs.Leaving.{entry_bound, facts_bound, fields_bound, others_bound, rows_bound, whole_bound}
use Rattle.cert_check.proofs.LeftMade.{binds_next}

-- what holds of each name holds of the names of their seats
pub seats_all : (P : NameId → Type 0) (binds : List Bind) (first : ℕ) (names : List NameId) → AllByRecursion P names
    → AllByRecursion (λ b. P b.name) (seats binds first names)
seats_all P binds first [] all = tt
seats_all P binds first (name ∷ names) all = by_seat (symbol_at name binds) (λ n. seats_all P binds n names all.1)
  where
    by_seat : (o : Option Sym) → ((n : ℕ) → AllByRecursion (λ b. P b.name) (seats binds n names))
        → AllByRecursion (λ b. P b.name) (seat o name first (λ n. seats binds n names))
    by_seat (Some s) later = (all.0, later first)
    by_seat None later = (all.0, later (suc first))

same_number : (a b : ℕ) → nat_eq a b ≡ true → a ≡ b
same_number a b e = grind (arith, nat_tests)

-- a name that may not be written is none of those that may
differs : (scope : Scope) (name other : NameId) → may_write scope.writes name ≡ false → may_write scope.writes other ≡ true → nat_eq other.0 name.0 ≡ false
differs scope name other not may = by_test (nat_eq other.0 name.0) refl
  where
    by_test : (t : Bool) → nat_eq other.0 name.0 ≡ t → t ≡ false
    by_test false is = refl
    by_test true is =
        sym may ∙ ap (λ (n : ℕ). may_write scope.writes (record { 0 = n })) (same_number other.0 name.0 is) ∙ not

all_differ : (scope : Scope) (name : NameId) (names : List NameId) → may_write scope.writes name ≡ false → list_all (may_write scope.writes) names ≡ true
    → AllByRecursion (λ other. nat_eq other.0 name.0 ≡ false) names
all_differ scope name [] not may = tt
all_differ scope name (other ∷ names) not may =
    let parts = and_parts (may_write scope.writes other) (list_all (may_write scope.writes) names) may in
    (differs scope name other not parts.0, all_differ scope name names not parts.1)

pub left_framed : (scope : Scope) (unit : Passage) (pre : Piece) (kept : ℕ) (state : State) (post : Piece) → list_all (may_write scope.writes) unit.writes ≡ true
    → AllByRecursion (λ name. symbol_at name state.fields ≡ None) unit.writes
    → WellMade scope.style (left_state scope.style scope.cert.cond unit pre kept state post)
    → Follows scope state (left_state scope.style scope.cert.cond unit pre kept state post)
unfolding left_state
left_framed scope unit pre kept state post may fields made =
    let count : ℕ = own_count post kept in
    let name : ℕ → ℕ = post_match (own_places unit state post kept count state.next) state pre in
    let binds : List Bind = map (bind_renamed name) post.vars in
    let first : ℕ = state.next + new_symbols unit state post kept count in
    let written : List Bind = seats binds first unit.writes in
    let n : ℕ = first + unbound binds unit.writes in
    let told : State = record state {
      stack = under state pre ++ map (sym_renamed name) post.stack;
      facts = state.facts ++ facts_left scope.style scope.cert.cond name written post;
      rows = state.rows ++ rows_left scope.style scope.cert.cond name written post;
      next = n;
    } in
    let next = binds_next written told in
    record {
      made = made;
      grows = record {
        whole = whole_bound written told;
        at_entry = entry_bound written told;
        fields = fields_bound written told (seats_all (λ name. symbol_at name state.fields ≡ None) binds first unit.writes fields);
        next = omega (arith, next);
        facts = (_, facts_bound written told);
        rows = (_, rows_bound written told);
      };
      vars = λ name not. others_bound written told name (seats_all (λ other. nat_eq other.0 name.0 ≡ false) binds first unit.writes (all_differ scope name unit.writes not may));
    }
