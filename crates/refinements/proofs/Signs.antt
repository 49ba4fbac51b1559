-- Of the cases of whether an integer is above 0, one stands where the state stands.
use Rattle.std.proofs.Common.{◌≡◌, Bool, true, false, cond, List, [], ◌∷◌, Option, None, Some, Ok, refl, sym, ap, subst, inl, ◌++◌, ◌∙◌, arith}
use Rattle.std.specs.Prelude.{ℤ, pos, ◌≤ℤ◌}
use Rattle.std.specs.Option.{option_map_or}
use Rattle.std.proofs.lemmas.Int.{ints}
use Rattle.lin_facts.specs.declared.row.Term.TheVariants.{Value as ValueOf}
use Rattle.name_table.specs.declared.style.Style.{Style}
use Rattle.bst_meaning.specs.declared.condition.Cond.{Cond}
use Rattle.bst_meaning.specs.EntryLists.{EntryList}
use Rattle.bst_meaning.specs.declared.value.Value.{Value}
use Rattle.bst_meaning.specs.declared.value.Value.TheVariants.{Int as IntValue}
use Rattle.bst_meaning.specs.Config.{Config}
use Rattle.bst_meaning.specs.Operands.{is_positive}
use Rattle.sym_state.specs.declared.hint.Hint.{Hint}
use Rattle.sym_state.specs.State.{State}
use Rattle.sym_state.specs.declared.symbol.Sym.{Sym}
use Rattle.sym_state.specs.Cases.{Cases, Labelled, above_cases, above_of, not_positive_rows, positive_rows, weighed_both, with_case, with_label, without_labels}
use Rattle.sym_state.specs.Decided.{exact_integer}
use Rattle.sym_state.specs.Stands.{Satisfies, Stands}
use Rattle.sym_state.specs.Symbols.{Valuation, integer_of, numbers}
use Rattle.sym_state.proofs.Deciding.{exact_integer_is}
use Rattle.sym_state.proofs.Saying.{at_least_holds, at_most_holds}
use Rattle.refinements.specs.Covered.{IsAmong, OneLabelledStands, OneStands}
use Rattle.refinements.proofs.Comparing.{above_zero, not_above}
use Rattle.refinements.proofs.Covering.{among_later, first_kept, kept, second_kept, weighed_then}
use Rattle.refinements.proofs.Labels.{labelled, labels_dropped, labels_joined, sign_cases}
use Rattle.refinements.proofs.Fitting.{case_stands}

low : (x n : ℤ) → x ≡ n → is_positive n ≡ true → pos 1 ≤ℤ x
low x n e is = let h = above_zero n is in omega (arith, ints)

high : (x n : ℤ) → x ≡ n → is_positive n ≡ false → x ≤ℤ pos 0
high x n e is = let h = not_above n is in omega (arith, ints)

-- the case that an undecided integer is of
sign_among : (style : Style) (admits : Cond) (list : EntryList) (v : Valuation) (state : State) (c : Config) (below : List Value)
    (s : Sym) (n : ℤ) (hints : List Hint) (cases : Cases) (t : Bool) → Stands style admits list v state c below → v.value s.0 ≡ IntValue n → is_positive n ≡ t
    → weighed_both admits (with_case [] (positive_rows s) state) (with_case [] (not_positive_rows s) state) hints ≡ Ok cases
    → IsAmong (with_case [] (cond t (positive_rows s) (not_positive_rows s)) state) cases.states
    × Stands style admits list v (with_case [] (cond t (positive_rows s) (not_positive_rows s)) state) c below
sign_among style admits list v state c below s n hints cases true h is sign e =
    let shown = at_least_holds (numbers v) (ValueOf s.0) (pos 1) (low (integer_of (v.value s.0)) n (ap integer_of is) sign) in
    let stands = case_stands style admits list v state c below [] (positive_rows s) h tt (shown, tt) in
    (first_kept style admits v (with_case [] (positive_rows s) state) (with_case [] (not_positive_rows s) state) hints cases stands.satisfied e, stands)
sign_among style admits list v state c below s n hints cases false h is sign e =
    let shown = at_most_holds (numbers v) (ValueOf s.0) (pos 0) (high (integer_of (v.value s.0)) n (ap integer_of is) sign) in
    let stands = case_stands style admits list v state c below [] (not_positive_rows s) h tt (shown, tt) in
    (second_kept style admits v (with_case [] (positive_rows s) state) (with_case [] (not_positive_rows s) state) hints cases stands.satisfied e, stands)

pub sign_found : (style : Style) (admits : Cond) (list : EntryList) (v : Valuation) (state : State) (c : Config) (below : List Value)
    (s : Sym) (n : ℤ) (hints : List Hint) (cases : Cases) → Stands style admits list v state c below → v.value s.0 ≡ IntValue n
    → without_labels (above_of admits state s hints) ≡ Ok cases
    → OneStands style admits list v state c below s (is_positive n) cases.states
sign_found style admits list v state c below s n hints cases h is e =
    let case_by : Option ℤ → State = λ o. option_map_or (λ m. state) o (with_case [] (cond (is_positive n) (positive_rows s) (not_positive_rows s)) state) in
    elim (exact_integer state.facts s.0) as (λ (o : Option ℤ). exact_integer state.facts s.0 ≡ o → sign_cases admits state s o hints ≡ Ok cases
    → OneStands style admits list v state c below s (is_positive n) cases.states) [
      | Some m ↦ λ exact found.
          let same : record { states = state ∷ []; hints = hints } ≡ cases = cc in record {
            among = subst (λ (o : Option ℤ). IsAmong (case_by o) cases.states) (sym exact) (subst (λ (all : Cases). IsAmong state all.states) same (inl refl));
            stands = subst (λ (o : Option ℤ). Stands style admits list v (case_by o) c below) (sym exact) h;
          }
      | None ↦ λ exact found.
          let both = sign_among style admits list v state c below s n hints cases (is_positive n) h is refl found in record {
            among = subst (λ (o : Option ℤ). IsAmong (case_by o) cases.states) (sym exact) both.0;
            stands = subst (λ (o : Option ℤ). Stands style admits list v (case_by o) c below) (sym exact) both.1;
          }
    ] refl (sym (labels_dropped admits state s (exact_integer state.facts s.0) hints) ∙ e)

-- the same case among those with labels, where the integer isn't known
labelled_among : (style : Style) (admits : Cond) (v : Valuation) (state : State) (s : Sym) (hints : List Hint) (all : Labelled) (t : Bool)
    → Satisfies style admits v (with_case [] (cond t (positive_rows s) (not_positive_rows s)) state) → above_cases admits state s None hints ≡ Ok all
    → IsAmong (t, with_case [] (cond t (positive_rows s) (not_positive_rows s)) state) all.cases
labelled_among style admits v state s hints all true h e =
    let two = weighed_then admits (with_case [] (positive_rows s) state) (with_case [] (not_positive_rows s) state) hints labelled all e in
    let joined = labels_joined two.one two.other all two.given in
    let case : State = with_case [] (positive_rows s) state in
    let is = kept style admits v case hints two.one h two.first_weighed in
    subst (λ (l : List (Bool × State)). IsAmong (true, case) l)
    (sym (joined ∙ ap (λ (l : List State). with_label true l ++ with_label false two.other.states) is)) (inl refl)
labelled_among style admits v state s hints all false h e =
    let two = weighed_then admits (with_case [] (positive_rows s) state) (with_case [] (not_positive_rows s) state) hints labelled all e in
    let joined = labels_joined two.one two.other all two.given in
    let case : State = with_case [] (not_positive_rows s) state in
    let is = kept style admits v case two.one.hints two.other h two.second_weighed in
    subst (λ (l : List (Bool × State)). IsAmong (false, case) l)
    (sym (joined ∙ ap (λ (l : List State). with_label true two.one.states ++ with_label false l) is))
    (among_later (false, case) (with_label true two.one.states) ((false, case) ∷ []) (inl refl))

-- the integer that is known is the one that the symbol's value is
same_integer : {value : Value} (m n : ℤ) → value ≡ IntValue m → value ≡ IntValue n → m ≡ n
same_integer m n e f = cc

pub labelled_sign_found : (style : Style) (admits : Cond) (list : EntryList) (v : Valuation) (state : State) (c : Config) (below : List Value)
    (s : Sym) (n : ℤ) (hints : List Hint) (all : Labelled) → Stands style admits list v state c below → v.value s.0 ≡ IntValue n
    → above_of admits state s hints ≡ Ok all
    → OneLabelledStands style admits list v state c below s (is_positive n) all.cases
labelled_sign_found style admits list v state c below s n hints all h is e =
    let stands = (sign_found style admits list v state c below s n hints _ h is (ap without_labels e)).stands in
    let case_by : Option ℤ → State = λ o. option_map_or (λ m. state) o (with_case [] (cond (is_positive n) (positive_rows s) (not_positive_rows s)) state) in
    elim (exact_integer state.facts s.0) as (λ (o : Option ℤ). exact_integer state.facts s.0 ≡ o → above_cases admits state s o hints ≡ Ok all
    → Stands style admits list v (case_by o) c below → OneLabelledStands style admits list v state c below s (is_positive n) all.cases) [
      | Some m ↦ λ exact found there.
          let same : record { cases = (is_positive m, state) ∷ []; hints = hints } ≡ all = cc in
          let sign : is_positive n ≡ is_positive m =
          ap is_positive (sym (same_integer m n (exact_integer_is style v s.0 state.facts m h.satisfied.facts exact) is)) in record {
            among = subst (λ (o : Option ℤ). IsAmong (is_positive n, case_by o) all.cases) (sym exact)
                (subst (λ (l : Labelled). IsAmong (is_positive n, state) l.cases) same (inl (ap (λ (t : Bool). (t, state)) sign)));
            stands = stands;
          }
      | None ↦ λ exact found there. record {
        among = subst (λ (o : Option ℤ). IsAmong (is_positive n, case_by o) all.cases) (sym exact)
            (labelled_among style admits v state s hints all (is_positive n) there.satisfied found);
        stands = stands;
      }
    ] refl e stands
