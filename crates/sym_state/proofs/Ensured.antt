-- What holds where operands are taken and where a rule gives a state: what every state that it may give has.
use Rattle.std.proofs.Common.{◌≡◌, ℕ, suc, Bool, true, false, cond, List, [], ◌∷◌, drop, reverse, Result, Ok, Err, refl, sym, ap, ◌∙◌, subst}
use Rattle.bv_base.specs.Answers.{then_do}
use Rattle.lin_facts.specs.declared.row.Row.{Row}
use Rattle.bst_meaning.specs.declared.condition.Cond.{Cond}
use Rattle.sym_state.specs.declared.demand.DemandKind.{DemandKind}
use Rattle.sym_state.specs.declared.demand.DemandKind.TheVariants.{WrongKind}
use Rattle.sym_state.specs.declared.demand.EffectFault.{EffectFault}
use Rattle.sym_state.specs.declared.demand.EffectFault.TheVariants.{NotEntailed}
use Rattle.sym_state.specs.declared.hint.Hint.{Hint}
use Rattle.sym_state.specs.declared.hint.Hint.TheVariants.{Plain, Step}
use Rattle.sym_state.specs.declared.proof.Proof.{Proof}
use Rattle.sym_state.specs.State.{State}
use Rattle.sym_state.specs.declared.symbol.Kinds.{Kinds}
use Rattle.sym_state.specs.declared.symbol.Sym.{Sym}
use Rattle.sym_state.specs.Demands.{After, BothSteps, Chooses, Demands, Gives, One, OneOperand, Outcome, Refuses, Rule, Steps, Three, ThreeOperands, Two, TwoOperands, demand, is_of_kind, one_by, one_of, outcome, step, three_by, two_by, two_of}
use Rattle.sym_state.specs.References.{shows}
use Rattle.sym_state.proofs.Pushing.{without}

-- a demand that is met
pub demand_met : {X Y : Type 0} (met : Bool) (kind : DemandKind) (operand : ℕ) (found : Result X EffectFault) (next : X → Result Y EffectFault) (y : Y)
    → then_do (demand met kind operand found) next ≡ Ok y → (met ≡ true) × (then_do found next ≡ Ok y)
demand_met true kind operand found next y e = (refl, e)
demand_met false kind operand found next y e = absurd (cc)

-- one operand of a kind is there, with what follows it
pub record OneTaken {Y : Type 0} (kind : Kinds) (state : State) (next : One → Result Y EffectFault) (y : Y) : Type 0 where
  pub a : Sym
  pub rest : List Sym
  pub tops : reverse state.stack ≡ a ∷ rest
  pub met : is_of_kind state kind a ≡ true
  pub given : next (record { operand = a; rest = without rest state }) ≡ Ok y

one_from : {Y : Type 0} (kind : Kinds) (state : State) (next : One → Result Y EffectFault) (y : Y) (tops : List Sym) → reverse state.stack ≡ tops
    → then_do (one_by kind tops state) next ≡ Ok y → OneTaken kind state next y
one_from kind state next y (a ∷ rest) is e =
    let met = demand_met (is_of_kind state kind a) WrongKind 1 (Ok (record { operand = a; rest = without rest state })) next y e in
    record { a = a; rest = rest; tops = is; met = met.0; given = met.1 }
one_from kind state next y [] is e = absurd (cc)

pub one_taken : {Y : Type 0} (kind : Kinds) (state : State) (next : One → Result Y EffectFault) (y : Y) → then_do (one_of kind state) next ≡ Ok y
    → OneTaken kind state next y
one_taken kind state next y e = one_from kind state next y (reverse state.stack) refl e

-- two operands, the lower one first
pub record TwoTaken {Y : Type 0} (lower upper : Kinds) (state : State) (next : Two → Result Y EffectFault) (y : Y) : Type 0 where
  pub a : Sym
  pub b : Sym
  pub rest : List Sym
  pub tops : reverse state.stack ≡ b ∷ (a ∷ rest)
  pub lower_met : is_of_kind state lower a ≡ true
  pub upper_met : is_of_kind state upper b ≡ true
  pub given : next (record { lower = a; upper = b; rest = without rest state }) ≡ Ok y

two_from : {Y : Type 0} (lower upper : Kinds) (state : State) (next : Two → Result Y EffectFault) (y : Y) (tops : List Sym) → reverse state.stack ≡ tops
    → then_do (two_by lower upper tops state) next ≡ Ok y → TwoTaken lower upper state next y
two_from lower upper state next y (b ∷ (a ∷ rest)) is e =
    let last : Result Two EffectFault = Ok (record { lower = a; upper = b; rest = without rest state }) in
    let first = demand_met (is_of_kind state upper b) WrongKind 1 (demand (is_of_kind state lower a) WrongKind 2 last) next y e in
    let second = demand_met (is_of_kind state lower a) WrongKind 2 last next y first.1 in
    record { a = a; b = b; rest = rest; tops = is; lower_met = second.0; upper_met = first.0; given = second.1 }
two_from lower upper state next y (b ∷ []) is e = absurd (cc)
two_from lower upper state next y [] is e = absurd (cc)

pub two_taken : {Y : Type 0} (lower upper : Kinds) (state : State) (next : Two → Result Y EffectFault) (y : Y)
    → then_do (two_of lower upper state) next ≡ Ok y → TwoTaken lower upper state next y
two_taken lower upper state next y e = two_from lower upper state next y (reverse state.stack) refl e

-- three, the lowest one first
record ThreeTaken {Y : Type 0} (lowest middle top : Kinds) (state : State) (next : Three → Result Y EffectFault) (y : Y) : Type 0 where
  pub a : Sym
  pub b : Sym
  pub c : Sym
  pub rest : List Sym
  pub tops : reverse state.stack ≡ c ∷ (b ∷ (a ∷ rest))
  pub lowest_met : is_of_kind state lowest a ≡ true
  pub middle_met : is_of_kind state middle b ≡ true
  pub top_met : is_of_kind state top c ≡ true
  pub given : next (record { lowest = a; middle = b; top = c; rest = without rest state }) ≡ Ok y

three_from : {Y : Type 0} (lowest middle top : Kinds) (state : State) (next : Three → Result Y EffectFault) (y : Y) (tops : List Sym)
    → reverse state.stack ≡ tops → then_do (three_by lowest middle top tops state) next ≡ Ok y → ThreeTaken lowest middle top state next y
three_from lowest middle top state next y (c ∷ (b ∷ (a ∷ rest))) is e =
    let last : Result Three EffectFault = Ok (record { lowest = a; middle = b; top = c; rest = without rest state }) in
    let two = demand (is_of_kind state lowest a) WrongKind 3 last in
    let first = demand_met (is_of_kind state top c) WrongKind 1 (demand (is_of_kind state middle b) WrongKind 2 two) next y e in
    let second = demand_met (is_of_kind state middle b) WrongKind 2 two next y first.1 in
    let third = demand_met (is_of_kind state lowest a) WrongKind 3 last next y second.1 in
    record { a = a; b = b; c = c; rest = rest; tops = is; lowest_met = third.0; middle_met = second.0; top_met = first.0; given = third.1 }
three_from lowest middle top state next y (c ∷ (b ∷ [])) is e = absurd (cc)
three_from lowest middle top state next y (c ∷ []) is e = absurd (cc)
three_from lowest middle top state next y [] is e = absurd (cc)

-- a row is shown by some proof
abbrev pub IsShown : Cond → State → Row → Type 0
IsShown admits state row = (proof : Proof) × (shows admits state proof row ≡ true)

-- a step that is taken shows its row
record Stepped (admits : Cond) (state : State) (row : Row) (hints : List Hint) (next : List Hint → Outcome) (after : After) : Type 0 where
  pub hint : Hint
  pub left : List Hint
  pub first : hints ≡ hint ∷ left
  pub shown : IsShown admits state row
  pub given : next left ≡ Ok after

shown_then : (admits : Cond) (state : State) (row : Row) (fault : EffectFault) (proof : Proof) (hints : List Hint) (next : List Hint → Outcome) (after : After)
    (t : Bool) → shows admits state proof row ≡ t → cond t (next hints) (Err fault) ≡ Ok after → Stepped admits state row (Step proof ∷ hints) next after
shown_then admits state row fault proof hints next after true is e = record { hint = Step proof; left = hints; first = refl; shown = (proof, is); given = e }
shown_then admits state row fault proof hints next after false is e = absurd (cc)

stepped : (admits : Cond) (state : State) (row : Row) (fault : EffectFault) (hints : List Hint) (next : List Hint → Outcome) (after : After)
    → step admits state row fault hints next ≡ Ok after → Stepped admits state row hints next after
stepped admits state row fault (Step proof ∷ hints) next after e =
    shown_then admits state row fault proof hints next after (shows admits state proof row) refl e
stepped admits state row fault _ next after e = absurd (cc)

-- every state that a rule may give has this property, given that the operands are there and of their kinds, the demands are met
-- and the rows of steps are shown
abbrev pub Ensures : Cond → State → (State → Type 0) → Rule → Type 0
Ensures admits state P (Gives after) = P after
Ensures admits state P (Refuses kind operand) = Unit {0}
Ensures admits state P (Demands met kind operand next) = met ≡ true → Ensures admits state P next
Ensures admits state P (OneOperand kind next) =
    (a : Sym) (rest : List Sym) → reverse state.stack ≡ a ∷ rest → is_of_kind state kind a ≡ true → Ensures admits state P (next a (without rest state))
Ensures admits state P (TwoOperands lower upper next) = (a b : Sym) (rest : List Sym) → reverse state.stack ≡ b ∷ (a ∷ rest)
    → is_of_kind state lower a ≡ true → is_of_kind state upper b ≡ true → Ensures admits state P (next a b (without rest state))
Ensures admits state P (ThreeOperands lowest middle top next) = (a b c : Sym) (rest : List Sym) → reverse state.stack ≡ c ∷ (b ∷ (a ∷ rest))
    → is_of_kind state lowest a ≡ true → is_of_kind state middle b ≡ true → is_of_kind state top c ≡ true
    → Ensures admits state P (next a b c (without rest state))
Ensures admits state P (Steps row fault next) = IsShown admits state row → Ensures admits state P next
Ensures admits state P (BothSteps first second fault next) = IsShown admits state first → IsShown admits state second → Ensures admits state P next
Ensures admits state P (Chooses wanted row by_step by_rule) =
    (wanted ≡ true → IsShown admits state row → Ensures admits state P by_step) × Ensures admits state P by_rule

-- so the state that it gives has it, whatever hints it takes
pub ensured : (admits : Cond) (state : State) (P : State → Type 0) (rule : Rule) (hints : List Hint) (after : After) → Ensures admits state P rule
    → outcome admits state rule hints ≡ Ok after → P after.state
ensured admits state P (Gives given) hints after h e =
    let same : record { state = given; hints = hints } ≡ after = cc in subst (λ (a : After). P a.state) same h
ensured admits state P (Refuses kind operand) hints after h e = absurd (cc)
ensured admits state P (Demands true kind operand next) hints after h e = ensured admits state P next hints after (h refl) e
ensured admits state P (Demands false kind operand next) hints after h e = absurd (cc)
ensured admits state P (OneOperand kind next) hints after h e =
    let t = one_taken kind state (λ taken. outcome admits state (next taken.operand taken.rest) hints) after e in
    ensured admits state P (next t.a (without t.rest state)) hints after (h t.a t.rest t.tops t.met) t.given
ensured admits state P (TwoOperands lower upper next) hints after h e =
    let t = two_taken lower upper state (λ taken. outcome admits state (next taken.lower taken.upper taken.rest) hints) after e in
    ensured admits state P (next t.a t.b (without t.rest state)) hints after (h t.a t.b t.rest t.tops t.lower_met t.upper_met) t.given
ensured admits state P (ThreeOperands lowest middle top next) hints after h e =
    let t = three_from lowest middle top state (λ taken. outcome admits state (next taken.lowest taken.middle taken.top taken.rest) hints) after
    (reverse state.stack) refl e in
    ensured admits state P (next t.a t.b t.c (without t.rest state)) hints after (h t.a t.b t.c t.rest t.tops t.lowest_met t.middle_met t.top_met) t.given
ensured admits state P (Steps row fault next) hints after h e =
    let t = stepped admits state row fault hints (λ left. outcome admits state next left) after e in
    ensured admits state P next t.left after (h t.shown) t.given
ensured admits state P (BothSteps first second fault next) hints after h e =
    let t = stepped admits state first fault hints (λ more. step admits state second fault more (λ left. outcome admits state next left)) after e in
    let u = stepped admits state second fault t.left (λ left. outcome admits state next left) after t.given in
    ensured admits state P next u.left after (h t.shown u.shown) u.given
ensured admits state P (Chooses true row by_step by_rule) (Step proof ∷ hints) after h e =
    let t = shown_then admits state row (NotEntailed 0) proof hints (λ left. outcome admits state by_step left) after (shows admits state proof row) refl e in
    ensured admits state P by_step t.left after (h.0 refl t.shown) t.given
ensured admits state P (Chooses wanted row by_step by_rule) (Plain ∷ hints) after h e = ensured admits state P by_rule hints after h.1 e
ensured admits state P (Chooses wanted row by_step by_rule) _ after h e = absurd (cc)

-- the hints that are left are those behind the ones that were taken
pub record AreLeft (hints left : List Hint) : Type 0 where
  pub taken : ℕ
  pub are : left ≡ drop taken hints

behind : (hint : Hint) (hints rest left : List Hint) → hints ≡ hint ∷ rest → AreLeft rest left → AreLeft hints left
behind hint hints rest left e h = record { taken = suc h.taken; are = h.are ∙ ap (λ (all : List Hint). drop (suc h.taken) all) (sym e) }

pub hints_left : (admits : Cond) (state : State) (rule : Rule) (hints : List Hint) (after : After) → outcome admits state rule hints ≡ Ok after
    → AreLeft hints after.hints
hints_left admits state (Gives given) hints after e =
    let same : record { state = given; hints = hints } ≡ after = cc in
    subst (λ (a : After). AreLeft hints a.hints) same (record { taken = 0; are = refl })
hints_left admits state (Refuses kind operand) hints after e = absurd (cc)
hints_left admits state (Demands true kind operand next) hints after e = hints_left admits state next hints after e
hints_left admits state (Demands false kind operand next) hints after e = absurd (cc)
hints_left admits state (OneOperand kind next) hints after e =
    let t = one_taken kind state (λ taken. outcome admits state (next taken.operand taken.rest) hints) after e in
    hints_left admits state (next t.a (without t.rest state)) hints after t.given
hints_left admits state (TwoOperands lower upper next) hints after e =
    let t = two_taken lower upper state (λ taken. outcome admits state (next taken.lower taken.upper taken.rest) hints) after e in
    hints_left admits state (next t.a t.b (without t.rest state)) hints after t.given
hints_left admits state (ThreeOperands lowest middle top next) hints after e =
    let t = three_from lowest middle top state (λ taken. outcome admits state (next taken.lowest taken.middle taken.top taken.rest) hints) after
    (reverse state.stack) refl e in
    hints_left admits state (next t.a t.b t.c (without t.rest state)) hints after t.given
hints_left admits state (Steps row fault next) hints after e =
    let t = stepped admits state row fault hints (λ left. outcome admits state next left) after e in
    behind t.hint hints t.left after.hints t.first (hints_left admits state next t.left after t.given)
hints_left admits state (BothSteps first second fault next) hints after e =
    let t = stepped admits state first fault hints (λ more. step admits state second fault more (λ left. outcome admits state next left)) after e in
    let u = stepped admits state second fault t.left (λ left. outcome admits state next left) after t.given in
    behind t.hint hints t.left after.hints t.first
    (behind u.hint t.left u.left after.hints u.first (hints_left admits state next u.left after u.given))
hints_left admits state (Chooses true row by_step by_rule) (Step proof ∷ hints) after e =
    let t = shown_then admits state row (NotEntailed 0) proof hints (λ left. outcome admits state by_step left) after (shows admits state proof row) refl e in
    behind t.hint (Step proof ∷ hints) t.left after.hints t.first (hints_left admits state by_step t.left after t.given)
hints_left admits state (Chooses wanted row by_step by_rule) (Plain ∷ hints) after e =
    behind Plain (Plain ∷ hints) hints after.hints refl (hints_left admits state by_rule hints after e)
hints_left admits state (Chooses wanted row by_step by_rule) _ after e = absurd (cc)
