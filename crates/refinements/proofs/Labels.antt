-- The cases of whether an integer is above 0, with their labels and without.
use Rattle.std.proofs.Common.{◌≡◌, Bool, true, false, List, [], ◌∷◌, ◌++◌, map, Option, None, Some, Result, Ok, Err, refl, sym, ap}
use Rattle.std.specs.Prelude.{ℤ}
use Rattle.std.specs.List.{All}
use Rattle.std.proofs.lemmas.List.Elements.{All-cons, All-head, All-nil, All-tail}
use Rattle.bv_base.specs.Answers.{then_do}
use Rattle.bst_meaning.specs.declared.condition.Cond.{Cond}
use Rattle.sym_state.specs.declared.demand.EffectFault.{EffectFault}
use Rattle.sym_state.specs.declared.hint.Hint.{Hint}
use Rattle.sym_state.specs.State.{State}
use Rattle.sym_state.specs.declared.symbol.Sym.{Sym}
use Rattle.sym_state.specs.Cases.{Cases, Labelled, Split, above_cases, given, not_positive_rows, positive_rows, weighed, weighed_both, with_case, with_label, without_labels}

-- the cases without labels, as those of other tests are
abbrev pub sign_cases : Cond → State → Sym → Option ℤ → List Hint → Split
sign_cases admits state s (Some n) hints = given (state ∷ []) hints
sign_cases admits state s None hints =
    weighed_both admits (with_case [] (positive_rows s) state) (with_case [] (not_positive_rows s) state) hints

one_label_dropped : (label : Bool) (states : List State) → map (λ (one : Bool × State). one.1) (with_label label states) ≡ states
one_label_dropped label [] = refl
one_label_dropped label (state ∷ states) = ap (λ (l : List State). state ∷ l) (one_label_dropped label states)

both_labels_dropped : (first second : List State)
    → map (λ (one : Bool × State). one.1) (with_label true first ++ with_label false second) ≡ first ++ second
both_labels_dropped [] second = one_label_dropped false second
both_labels_dropped (state ∷ first) second = ap (λ (l : List State). state ∷ l) (both_labels_dropped first second)

pub labels_dropped : (admits : Cond) (state : State) (s : Sym) (o : Option ℤ) (hints : List Hint)
    → without_labels (above_cases admits state s o hints) ≡ sign_cases admits state s o hints
labels_dropped admits state s (Some n) hints = refl
labels_dropped admits state s None hints =
    let second : State = with_case [] (not_positive_rows s) state in
    let labelled : Cases → Cases → Result Labelled EffectFault =
    λ one other. Ok (record { cases = with_label true one.states ++ with_label false other.states; hints = other.hints }) in
    let plain : Cases → Cases → Split = λ one other. given (one.states ++ other.states) other.hints in
    elim (weighed admits (with_case [] (positive_rows s) state) hints) as (λ (o : Split).
    without_labels (then_do o (λ one. then_do (weighed admits second one.hints) (labelled one)))
    ≡ then_do o (λ one. then_do (weighed admits second one.hints) (plain one))) [
      | Err fault ↦ refl
      | Ok one ↦ elim (weighed admits second one.hints) as (λ (o : Split). without_labels (then_do o (labelled one)) ≡ then_do o (plain one)) [
        | Err fault ↦ refl
        | Ok other ↦ ap (λ (l : List State). given l other.hints) (both_labels_dropped one.states other.states)
      ]
    ]

-- what all states of labelled cases have, all cases have
pub labelled_all : (P : State → Type 0) (cases : List (Bool × State)) → All P (map (λ (one : Bool × State). one.1) cases) → All (λ one. P one.1) cases
labelled_all P [] h = All-nil (λ (one : Bool × State). P one.1)
labelled_all P (first ∷ cases) h =
    let states : List State = map (λ (one : Bool × State). one.1) cases in
    All-cons (λ (one : Bool × State). P one.1) first cases (All-head P first.1 states h) (labelled_all P cases (All-tail P first.1 states h))

-- the cases of both with their labels
abbrev pub labelled : Cases → Cases → Result Labelled EffectFault
labelled one other = Ok (record { cases = with_label true one.states ++ with_label false other.states; hints = other.hints })

pub labels_joined : (one other : Cases) (all : Labelled) → labelled one other ≡ Ok all
    → all.cases ≡ with_label true one.states ++ with_label false other.states
labels_joined one other all e =
    let same : record { cases = with_label true one.states ++ with_label false other.states; hints = other.hints } ≡ all = cc in
    ap (λ (l : Labelled). l.cases) (sym same)
