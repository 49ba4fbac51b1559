-- The operands of a test that has cases, and where its state stands.
use Rattle.std.proofs.Common.{◌≡◌, Bool, true, false, List, [], ◌∷◌, ◌++◌, reverse, Ok, refl, ap, subst, ◌∙◌}
use Rattle.std.specs.List.{AllByRecursion}
use Rattle.lin_facts.specs.Rows.{Holds}
use Rattle.lin_facts.specs.declared.row.Row.{Row}
use Rattle.name_table.specs.declared.builtin.Builtin.{Builtin}
use Rattle.bst_meaning.specs.declared.value.Value.{Value}
use Rattle.bst_meaning.specs.Builtins.{built_in}
use Rattle.bst_meaning.specs.Effect.{pushed}
use Rattle.bst_meaning.specs.Machine.{context_of}
use Rattle.bst_meaning.specs.Operands.{truth}
use Rattle.sym_state.specs.declared.hint.Hint.{Hint}
use Rattle.sym_state.specs.State.{State}
use Rattle.sym_state.specs.declared.symbol.Fact.{Fact}
use Rattle.sym_state.specs.declared.symbol.Sym.{Sym}
use Rattle.sym_state.specs.Cases.{Cases, both, decided, weighed_both, with_case, with_truth}
use Rattle.sym_state.specs.Demands.{One, Two}
use Rattle.sym_state.specs.Facts.{FactHolds}
use Rattle.sym_state.specs.Symbols.{numbers}
use Rattle.sym_state.proofs.Below.{one_below, two_below}
use Rattle.sym_state.proofs.Frames.{value_list}
use Rattle.sym_state.proofs.Pushing.{stack_of_tops, without}
use Rattle.sym_state.proofs.Resulting.{Fits}
use Rattle.sym_state.proofs.Spots.{Spot}
use Rattle.refinements.specs.Covered.{OneCovers}
use Rattle.refinements.proofs.Covering.{At, answer_covers, decided_covers, decided_is, first_is, first_kept, second_is, second_kept}

abbrev pub Found : Spot → Builtin → Cases → Type 0
Found p op cases = OneCovers p.style p.admits p.list p.v p.state p.c p.below p.place op cases.states

abbrev pub AtSpot : Spot → List Sym → Builtin → Bool → Type 0
AtSpot p rest op t = At p.style p.admits p.list p.v p.state p.c p.below rest op t

abbrev pub taken_one : Sym → List Sym → State → One
taken_one a rest state = record { operand = a; rest = without rest state }

abbrev pub taken_two : Sym → Sym → List Sym → State → Two
taken_two a b rest state = record { lower = a; upper = b; rest = without rest state }

-- the machine at an operand, or at two
pub at_one : (p : Spot) (op : Builtin) (a : Sym) (rest : List Sym) (t : Bool) → reverse p.state.stack ≡ a ∷ rest
    → built_in op (context_of p.style p.c) (p.v.value a.0 ∷ (value_list p.v rest ++ p.below)) ≡ pushed (truth t) (value_list p.v rest ++ p.below)
    → AtSpot p rest op t
at_one p op a rest t tops gives = record {
  made = p.made;
  stands = p.stands;
  old = (one_below p.style p.state a rest p.made tops).others;
  gives = ap (λ (l : List Value). built_in op (context_of p.style p.c) l)
      (stack_of_tops p.style p.admits p.list p.v p.state p.c p.below (a ∷ rest) p.stands tops) ∙ gives;
}

pub at_two : (p : Spot) (op : Builtin) (a b : Sym) (rest : List Sym) (x y : Value) (t : Bool) → reverse p.state.stack ≡ b ∷ (a ∷ rest)
    → p.v.value a.0 ≡ x → p.v.value b.0 ≡ y
    → built_in op (context_of p.style p.c) (y ∷ (x ∷ (value_list p.v rest ++ p.below))) ≡ pushed (truth t) (value_list p.v rest ++ p.below)
    → AtSpot p rest op t
at_two p op a b rest x y t tops x_is y_is gives = record {
  made = p.made;
  stands = p.stands;
  old = (two_below p.style p.state a b rest p.made tops).others;
  gives = ap (λ (l : List Value). built_in op (context_of p.style p.c) l)
      (stack_of_tops p.style p.admits p.list p.v p.state p.c p.below (b ∷ (a ∷ rest)) p.stands tops)
      ∙ ap (λ (z : Value). built_in op (context_of p.style p.c) (z ∷ (p.v.value a.0 ∷ (value_list p.v rest ++ p.below)))) y_is
      ∙ ap (λ (z : Value). built_in op (context_of p.style p.c) (y ∷ (z ∷ (value_list p.v rest ++ p.below)))) x_is
      ∙ gives;
}

-- a decided test, one whose cases take no hint, and one whose cases take hints: the machine gives the truth of t
pub decided_found : (p : Spot) (op : Builtin) (rest : List Sym) (t answer : Bool) (hints : List Hint) (cases : Cases) → AtSpot p rest op t
    → t ≡ answer → decided answer (without rest p.state) hints ≡ Ok cases → Found p op cases
decided_found p op rest t answer hints cases at is e = record {
  after = with_truth answer (without rest p.state);
  among = decided_is answer (without rest p.state) hints cases e;
  covers = decided_covers p.style p.admits p.list p.v p.state p.c p.below p.place rest op answer (subst (λ (b : Bool). AtSpot p rest op b) is at);
}

pub both_found : (p : Spot) (op : Builtin) (rest : List Sym) (t : Bool) (holds refuted : List Fact) (hints : List Hint) (cases : Cases)
    → AtSpot p rest op t → Fits p.style p.state.next holds [] → Fits p.style p.state.next refuted []
    → (t ≡ true → AllByRecursion (FactHolds p.style p.v) holds) → (t ≡ false → AllByRecursion (FactHolds p.style p.v) refuted)
    → both holds refuted (without rest p.state) hints ≡ Ok cases → Found p op cases
both_found p op rest true holds refuted hints cases at fits others granted denied e = record {
  after = with_truth true (with_case holds [] (without rest p.state));
  among = first_is holds refuted (without rest p.state) hints cases e;
  covers = answer_covers p.style p.admits p.list p.v p.state p.c p.below p.place rest op true holds [] at fits (granted refl) tt;
}
both_found p op rest false holds refuted hints cases at fits others granted denied e = record {
  after = with_truth false (with_case refuted [] (without rest p.state));
  among = second_is holds refuted (without rest p.state) hints cases e;
  covers = answer_covers p.style p.admits p.list p.v p.state p.c p.below p.place rest op false refuted [] at others (denied refl) tt;
}

-- the state of a case that is weighed
abbrev weighed_state : Spot → List Sym → Bool → List Row → State
weighed_state p rest t rows = with_truth t (with_case [] rows (without rest p.state))

pub weighed_found : (p : Spot) (op : Builtin) (rest : List Sym) (t : Bool) (holds refuted : List Row) (hints : List Hint) (cases : Cases)
    → AtSpot p rest op t → Fits p.style p.state.next [] holds → Fits p.style p.state.next [] refuted
    → (t ≡ true → AllByRecursion (Holds (numbers p.v)) holds) → (t ≡ false → AllByRecursion (Holds (numbers p.v)) refuted)
    → weighed_both p.admits (weighed_state p rest true holds) (weighed_state p rest false refuted) hints ≡ Ok cases
    → Found p op cases
weighed_found p op rest true holds refuted hints cases at fits others granted denied e =
    let covers = answer_covers p.style p.admits p.list p.v p.state p.c p.below p.place rest op true [] holds at fits tt (granted refl) in record {
      after = weighed_state p rest true holds;
      among = first_kept p.style p.admits covers.assignment (weighed_state p rest true holds) (weighed_state p rest false refuted) hints cases covers.stands.satisfied e;
      covers = covers;
    }
weighed_found p op rest false holds refuted hints cases at fits others granted denied e =
    let covers = answer_covers p.style p.admits p.list p.v p.state p.c p.below p.place rest op false [] refuted at others tt (denied refl) in record {
      after = weighed_state p rest false refuted;
      among = second_kept p.style p.admits covers.assignment (weighed_state p rest true holds) (weighed_state p rest false refuted) hints cases covers.stands.satisfied e;
      covers = covers;
    }
