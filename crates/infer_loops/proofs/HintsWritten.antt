-- Hints that may be written pass the test of them, and no others do.
use Rattle.std.proofs.Common.{◌≡◌, ℕ, ◌+◌, ◌≤◌, Bool, true, false, cond, ◌&&◌, nat_le, List, [], ◌∷◌, ◌++◌, length, flat_map, map, refl, sym, ap, ◌∙◌, subst, arith}
use Rattle.std.specs.List.{All, list_all}
use Rattle.std.specs.Cmp.Derive.{both_true}
use Rattle.std.proofs.lemmas.Bool.{and_parts}
use Rattle.std.proofs.lemmas.Bool.Decides.{nat_tests}
use Rattle.name_table.specs.Sound.{Each}
use Rattle.name_table.specs.declared.style.Style.{Style}
use Rattle.bst_meaning.specs.declared.condition.Cond.{Cond}
use Rattle.lin_facts.specs.declared.row.Row.{Row}
use Rattle.cert_format.specs.CertText.{IsHint, IsProof, IsUse, reference_number}
use Rattle.cert_format.specs.declared.items.TheConstants.{MOST_NUMBER}
use Rattle.cert_format.specs.declared.limits.TheConstants.{MOST}
use Rattle.cert_format.proofs.Plain.{each_append}
use Rattle.sym_state.specs.Entailing.{match_of}
use Rattle.sym_state.specs.Renaming.{row_renamed}
use Rattle.sym_state.specs.State.{State}
use Rattle.sym_state.specs.declared.hint.Hint.{Hint}
use Rattle.sym_state.specs.declared.hint.Hint.TheVariants as hint
use Rattle.sym_state.specs.declared.piece.Piece.{Piece}
use Rattle.sym_state.specs.declared.proof.Proof.{Proof}
use Rattle.sym_state.specs.declared.proof.Use.{Use}
use Rattle.straight_hints.specs.declared.finding.Finding.TheVariants.{Straight}
use Rattle.straight_hints.proofs.Written.{rows_written}
use Rattle.loop_templates.specs.Candidates.{entailing, entailing_one}
use Rattle.loop_templates.specs.Skeletons.{same_skeleton, skeleton}
use Rattle.loop_templates.specs.declared.candidates.Added.{Added}
use Rattle.infer_loops.specs.Invariants.{is_hint, is_positive, is_proof, is_use}

within : (n m : ℕ) → nat_le n m ≡ true → n ≤ m
within n m e = grind (arith, nat_tests)

passes : (n m : ℕ) → n ≤ m → nat_le n m ≡ true
passes n m less = grind (arith, nat_tests)

-- a test tells whether something holds
record Tells (P : Type 0) (test : Bool) : Type 0 where
  passes : P → test ≡ true
  holds : test ≡ true → P

number_told : (n m : ℕ) → Tells (n ≤ m) (nat_le n m)
number_told n m = record { passes = passes n m; holds = within n m }

both_told : {P Q : Type 0} (a b : Bool) → Tells P a → Tells Q b → Tells (P × Q) (a && b)
both_told a b first second = record {
  passes = λ both. both_true (first.passes both.0) (second.passes both.1);
  holds = λ e. let parts = and_parts a b e in (first.holds parts.0, second.holds parts.1);
}

each_told : {X : Type 0} (P : X → Type 0) (test : X → Bool) → ((x : X) → Tells (P x) (test x)) → (xs : List X) → Tells (Each P xs) (list_all test xs)
each_told P test told [] = record { passes = λ each. refl; holds = λ e. tt }
each_told P test told (x ∷ xs) = both_told (test x) (list_all test xs) (told x) (each_told P test told xs)

-- a number from 1 on, and a use
positive_told : (n : ℕ) → Tells ((1 ≤ n) × (n ≤ MOST_NUMBER)) (is_positive n)
positive_told n = both_told (nat_le 1 n) (nat_le n MOST_NUMBER) (number_told 1 n) (number_told n MOST_NUMBER)

use_told : (one : Use) → Tells (IsUse one) (is_use one)
use_told one =
    both_told (is_positive one.times) (nat_le (reference_number one.reference) MOST_NUMBER) (positive_told one.times)
    (number_told (reference_number one.reference) MOST_NUMBER)

-- a proof
proof_told : (proof : Proof) → Tells (IsProof proof) (is_proof proof)
proof_told proof =
    let few = number_told (length proof.uses) 64 in
    let all = both_told (is_positive proof.divisor) (list_all is_use proof.uses && nat_le (length proof.uses) 64) (positive_told proof.divisor)
    (both_told (list_all is_use proof.uses) (nat_le (length proof.uses) 64) (each_told IsUse is_use use_told proof.uses) few) in
    record {
      passes = λ is. all.passes (is.divisor, (is.uses, is.few));
      holds = λ e. let parts = all.holds e in record { divisor = parts.0; uses = parts.1.0; few = parts.1.1 };
    }

-- a hint
hint_told : (it : Hint) → Tells (IsHint it) (is_hint it)
hint_told (hint.Apply n) = number_told n MOST
hint_told (hint.Loop n) = number_told n MOST
hint_told (hint.Case n) = number_told n MOST
hint_told (hint.Drop proof) = proof_told proof
hint_told (hint.Step proof) = proof_told proof
hint_told _ = record { passes = λ is. refl; holds = λ e. tt }

pub hints_pass : (hints : List Hint) → Each IsHint hints → list_all is_hint hints ≡ true
hints_pass hints = (each_told IsHint is_hint hint_told hints).passes

pub hints_are : (hints : List Hint) → list_all is_hint hints ≡ true → Each IsHint hints
hints_are hints = (each_told IsHint is_hint hint_told hints).holds

-- those by which a state entails a case may be written
pub entailing_written : (admits : Cond) (state : State) (number : ℕ) (added : List Added) → state.next ≤ 4294967296 → number + length added ≤ MOST
    → Each IsHint (entailing_one admits state number added)
entailing_written admits state number [] known few = tt
entailing_written admits state number (one ∷ added) known few =
    elim (same_skeleton one.bones (skeleton state)) as (λ (b : Bool). Each IsHint
    (cond b (entailing admits state number one.case) (entailing_one admits state (number + 1) added))) [
      | true ↦ (omega (arith, few), rows_written Straight admits state (row_renamed (match_of state one.case 0)) one.case.rows known)
      | false ↦ entailing_written admits state (number + 1) added known (omega (arith, few))
    ]

-- some hints and more
pub written_more : (old more new : List Hint) → new ≡ old ++ more → Each IsHint old → Each IsHint more → Each IsHint new
written_more old more new is each others = subst (λ (l : List Hint). Each IsHint l) (sym is) (each_append IsHint old more each others)
