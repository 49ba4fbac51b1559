-- The states at the ends of turns.
use Rattle.std.proofs.Common.{◌≡◌, ℕ, ◌+◌, ◌<◌, Bool, true, false, cond, List, [], ◌∷◌, ◌++◌, drop, flat_map, get_or, length, ap, sym, subst, ◌∙◌, append_assoc}
use Rattle.std.specs.List.{All}
use Rattle.std.proofs.lemmas.List.Elements.{All-nil, All-cons, All-head, All-tail, All-weaker}
use Rattle.name_table.specs.declared.style.Style.{Style}
use Rattle.sym_state.specs.State.{State}
use Rattle.sym_state.specs.WellMade.{WellMade}
use Rattle.sym_state.specs.declared.hint.Hint.{Hint}
use Rattle.cert_check.specs.Tours.{IsEnded}
use Rattle.cert_check.specs.declared.tours.Ended.{Ended}
use Rattle.loop_templates.proofs.OneByOne.{next_left}
use Rattle.infer_loops.specs.Invariants.{ended_states, is_behind}

-- they are well made
pub made_states : (style : Style) (turned : Bool) (ends : List Ended) → All (λ end. WellMade style end.state) ends → All (WellMade style) (ended_states turned ends)
made_states style turned [] all = All-nil (WellMade style)
made_states style turned (end ∷ ends) all =
    let P = λ (it : Ended). WellMade style it.state in
    let rest = made_states style turned ends (All-tail P end ends all) in
    elim (is_behind turned end) as (λ b. All (WellMade style) (cond b (end.state ∷ ended_states turned ends) (ended_states turned ends))) [
      | true ↦ All-cons (WellMade style) end.state (ended_states turned ends) (All-head P end ends all) rest
      | false ↦ rest
    ]

pub ends_made : (style : Style) (turned : Bool) (ends : List Ended) (states : List State) → states ≡ ended_states turned ends → All (IsEnded style) ends
    → All (WellMade style) states
ends_made style turned ends states is all =
    subst (λ (l : List State). All (WellMade style) l) (sym is)
    (made_states style turned ends (All-weaker (IsEnded style) (λ end. WellMade style end.state) (λ end one. one.state.made) ends all))

-- those of the ends so far, of one more and of those that are left
pub state_kept : (turned : Bool) (ends : List Ended) (k : ℕ) (end : Ended) (old new all : List State) → k < length ends → end ≡ get_or ends k end
    → is_behind turned end ≡ true → new ≡ old ++ (end.state ∷ []) → old ++ ended_states turned (drop k ends) ≡ all
    → new ++ ended_states turned (drop (k + 1) ends) ≡ all
state_kept turned ends k end old new all more is behind added before =
    let rest = ended_states turned (drop (k + 1) ends) in
    ap (λ (l : List State). l ++ rest) added
    ∙ append_assoc old (end.state ∷ []) rest
    ∙ ap (λ (b : Bool). old ++ cond b (end.state ∷ rest) rest) (sym behind)
    ∙ ap (λ (l : List Ended). old ++ ended_states turned l) (sym (next_left ends k end more is))
    ∙ before

pub state_passed : (turned : Bool) (ends : List Ended) (k : ℕ) (end : Ended) (old all : List State) → k < length ends → end ≡ get_or ends k end
    → is_behind turned end ≡ false → old ++ ended_states turned (drop k ends) ≡ all → old ++ ended_states turned (drop (k + 1) ends) ≡ all
state_passed turned ends k end old all more is behind before =
    let rest = ended_states turned (drop (k + 1) ends) in
    ap (λ (b : Bool). old ++ cond b (end.state ∷ rest) rest) (sym behind)
    ∙ ap (λ (l : List Ended). old ++ ended_states turned l) (sym (next_left ends k end more is))
    ∙ before

-- the hints at the ends so far, at one more and at those that are left
pub hints_more : (f : Ended → List Hint) (ends rest : List Ended) (end : Ended) (old new all : List Hint) → ends ≡ end ∷ rest
    → old ++ flat_map f ends ≡ all → new ≡ old ++ f end → new ++ flat_map f rest ≡ all
hints_more f ends rest end old new all is before added =
    ap (λ (l : List Hint). l ++ flat_map f rest) added
    ∙ append_assoc old (f end) (flat_map f rest)
    ∙ ap (λ (l : List Ended). old ++ flat_map f l) (sym is)
    ∙ before

pub ends_left : (style : Style) (ends rest : List Ended) (end : Ended) → ends ≡ end ∷ rest → All (IsEnded style) ends → All (IsEnded style) rest
ends_left style ends rest end is all =
    All-tail (IsEnded style) end rest (subst (λ (l : List Ended). All (IsEnded style) l) is all)
