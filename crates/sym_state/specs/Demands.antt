-- What built-in functions demand of a state, and the hints that they take (docs/EFFECTS.md, "Demands" and "Steps"). Demands come
-- in the order of the machine's faults: an operand that isn't there, the kinds from the top operand down, and then the others.
use Rattle.std.specs.Prelude.{ℕ, ◌<◌, ◌≤◌, Bool, if◌then◌else◌, List, [], ◌∷◌, drop, length, reverse, Result, Ok, Err}
use Rattle.std.specs.List.{All}
use Rattle.bv_base.specs.Answers.{then_do}
use Rattle.lin_facts.specs.declared.row.Row.{Row}
use Rattle.bst_meaning.specs.declared.condition.Cond.{Cond}
use Rattle.sym_state.specs.declared.demand.DemandKind.{DemandKind}
use Rattle.sym_state.specs.declared.demand.DemandKind.TheVariants.{EmptyPop, WrongKind}
use Rattle.sym_state.specs.declared.demand.EffectFault.{EffectFault}
use Rattle.sym_state.specs.declared.demand.EffectFault.TheVariants.{Demand, NotEntailed, HintsShort, WrongHint}
use Rattle.sym_state.specs.declared.hint.Hint.{Hint}
use Rattle.sym_state.specs.declared.hint.Hint.TheVariants.{Step, Plain, Drop}
use Rattle.sym_state.specs.State.{State}
use Rattle.sym_state.specs.declared.symbol.Sym.{Sym}
use Rattle.sym_state.specs.declared.symbol.Kinds.{Kinds}
use Rattle.sym_state.specs.Decided.{includes, known_kind}
use Rattle.sym_state.specs.References.{shows}
use Rattle.sym_state.specs.WellMade.{HasBounds}

-- what a built-in function gives of a state: the state after it, and the hints that are left
pub record After : Type 0 where
  pub state : State
  pub hints : List Hint

-- that, or why it has none
abbrev pub Outcome : Type 0
Outcome = Result After EffectFault

-- a demand on an operand isn't met; operands are numbered from 1, the top first, and 0 stands for none
abbrev pub fails : DemandKind → ℕ → EffectFault
fails kind operand = Demand (record { kind = kind; operand = operand })

-- the state after, where no hint is taken any more
abbrev pub gives : List Hint → State → Outcome
gives hints state = Ok (record { state = state; hints = hints })

-- a demand, and what follows where it is met
abbrev pub demand : {X : Type 0} → Bool → DemandKind → ℕ → Result X EffectFault → Result X EffectFault
demand met kind operand next = if met then next else Err (fails kind operand)

-- an operand is known to be of a kind
abbrev pub is_of_kind : State → Kinds → Sym → Bool
is_of_kind state kind s = includes kind (known_kind state.facts s.0)

-- an operand, and the state without it
pub record One : Type 0 where
  pub operand : Sym
  pub rest : State

-- two operands, the top one and the one below, and the state without them
pub record Two : Type 0 where
  pub lower : Sym
  pub upper : Sym
  pub rest : State

-- three, the lowest first, and the state without them
pub record Three : Type 0 where
  pub lowest : Sym
  pub middle : Sym
  pub top : Sym
  pub rest : State

-- a state without so many of its topmost operands
abbrev pub without : ℕ → State → State
without n state = record state { stack = reverse (drop n (reverse state.stack)) }

-- the top operand, of a stack whose top comes first
abbrev pub one_by : Kinds → List Sym → State → Result One EffectFault
one_by kind [] state = Err (fails EmptyPop 1)
one_by kind (a ∷ rest) state =
    demand (is_of_kind state kind a) WrongKind 1 (Ok (record { operand = a; rest = record state { stack = reverse rest } }))

-- the top operand of a state, of a kind
abbrev pub one_of : Kinds → State → Result One EffectFault
one_of kind state = one_by kind (reverse state.stack) state

-- the two topmost, of the kinds of the lower one and of the upper one
abbrev pub two_by : Kinds → Kinds → List Sym → State → Result Two EffectFault
two_by lower upper [] state = Err (fails EmptyPop 1)
two_by lower upper (b ∷ []) state = Err (fails EmptyPop 2)
two_by lower upper (b ∷ (a ∷ rest)) state =
    demand (is_of_kind state upper b) WrongKind 1 (demand (is_of_kind state lower a) WrongKind 2
    (Ok (record { lower = a; upper = b; rest = record state { stack = reverse rest } })))

-- the two topmost of a state
abbrev pub two_of : Kinds → Kinds → State → Result Two EffectFault
two_of lower upper state = two_by lower upper (reverse state.stack) state

-- three operands of their kinds, that of the top one first
abbrev pub three_met : Kinds → Kinds → Kinds → State → Three → Result Three EffectFault
three_met lowest middle top state three =
    demand (is_of_kind state top three.top) WrongKind 1 (demand (is_of_kind state middle three.middle) WrongKind 2
    (demand (is_of_kind state lowest three.lowest) WrongKind 3 (Ok three)))

-- the three topmost, of the kinds of the lowest one, of the middle one and of the top one
abbrev pub three_by : Kinds → Kinds → Kinds → List Sym → State → Result Three EffectFault
three_by lowest middle top [] state = Err (fails EmptyPop 1)
three_by lowest middle top (c ∷ []) state = Err (fails EmptyPop 2)
three_by lowest middle top (c ∷ (b ∷ [])) state = Err (fails EmptyPop 3)
three_by lowest middle top (c ∷ (b ∷ (a ∷ rest))) state =
    three_met lowest middle top state (record { lowest = a; middle = b; top = c; rest = record state { stack = reverse rest } })

-- the three topmost of a state
abbrev pub three_of : Kinds → Kinds → Kinds → State → Result Three EffectFault
three_of lowest middle top state = three_by lowest middle top (reverse state.stack) state

-- a hint whose proof, where it has one, uses at most 64 rows
abbrev pub HasFewUses : Hint → Type 0
HasFewUses (Step proof) = length proof.uses ≤ 64
HasFewUses (Drop proof) = length proof.uses ≤ 64
HasFewUses _ = Unit {0}

-- a state and hints that an effect or a test may take: texts and rows within their bounds, room for a symbol, short proofs
pub record IsReady (state : State) (hints : List Hint) : Type 0 where
  pub bounds : HasBounds state
  pub room : state.next < 4294967295
  pub proofs : All HasFewUses hints

-- the next hint is a step that shows a row, or else this fault; a hint of another sort is wrong
abbrev pub step_by : Cond → State → Row → EffectFault → Hint → List Hint → (List Hint → Outcome) → Outcome
step_by cond state row fault (Step proof) hints rule = if shows cond state proof row then rule hints else Err fault
step_by cond state row fault hint hints rule = Err WrongHint

-- the same, where the hint is the first of a list
abbrev pub step : Cond → State → Row → EffectFault → List Hint → (List Hint → Outcome) → Outcome
step cond state row fault [] rule = Err HintsShort
step cond state row fault (hint ∷ hints) rule = step_by cond state row fault hint hints rule

-- two steps for one demand
abbrev pub two_steps : Cond → State → Row → Row → EffectFault → List Hint → (List Hint → Outcome) → Outcome
two_steps cond state first second fault hints rule =
    step cond state first fault hints (λ more. step cond state second fault more rule)

-- the next hint is `plain`, or a step that shows a row where one is wanted; a step that fails is no demand
abbrev pub choice_by : Cond → State → Bool → Row → Hint → List Hint → (List Hint → Outcome) → (List Hint → Outcome) → Outcome
choice_by cond state wanted row (Step proof) hints by_step by_rule =
    if wanted then (if shows cond state proof row then by_step hints else Err (NotEntailed 0)) else Err WrongHint
choice_by cond state wanted row Plain hints by_step by_rule = by_rule hints
choice_by cond state wanted row hint hints by_step by_rule = Err WrongHint

-- the same, where the hint is the first of a list
abbrev pub choice : Cond → State → Bool → Row → List Hint → (List Hint → Outcome) → (List Hint → Outcome) → Outcome
choice cond state wanted row [] by_step by_rule = Err HintsShort
choice cond state wanted row (hint ∷ hints) by_step by_rule = choice_by cond state wanted row hint hints by_step by_rule

-- what a built-in function does to a state, as data: operands of their kinds, the lowest first, and what they and the state
-- without them come to; demands; a step or two, with the fault where one fails; a choice; and at last the state after
pub data Rule : Type 0 where
  Gives : (after : State) → Rule
  Refuses : (kind : DemandKind) (operand : ℕ) → Rule
  Demands : (met : Bool) (kind : DemandKind) (operand : ℕ) (next : Rule) → Rule
  OneOperand : (kind : Kinds) (next : Sym → State → Rule) → Rule
  TwoOperands : (lower upper : Kinds) (next : Sym → Sym → State → Rule) → Rule
  ThreeOperands : (lowest middle top : Kinds) (next : Sym → Sym → Sym → State → Rule) → Rule
  Steps : (row : Row) (fault : EffectFault) (next : Rule) → Rule
  BothSteps : (first second : Row) (fault : EffectFault) (next : Rule) → Rule
  Chooses : (wanted : Bool) (row : Row) (by_step by_rule : Rule) → Rule

-- what a rule comes to in a state, with the hints that are left
abbrev pub outcome : Cond → State → Rule → List Hint → Outcome
outcome cond state (Gives after) hints = gives hints after
outcome cond state (Refuses kind operand) hints = Err (fails kind operand)
outcome cond state (Demands met kind operand next) hints = demand met kind operand (outcome cond state next hints)
outcome cond state (OneOperand kind next) hints =
    then_do (one_of kind state) (λ taken. outcome cond state (next taken.operand taken.rest) hints)
outcome cond state (TwoOperands lower upper next) hints =
    then_do (two_of lower upper state) (λ taken. outcome cond state (next taken.lower taken.upper taken.rest) hints)
outcome cond state (ThreeOperands lowest middle top next) hints =
    then_do (three_of lowest middle top state) (λ taken. outcome cond state (next taken.lowest taken.middle taken.top taken.rest) hints)
outcome cond state (Steps row fault next) hints = step cond state row fault hints (λ left. outcome cond state next left)
outcome cond state (BothSteps first second fault next) hints = two_steps cond state first second fault hints (λ left. outcome cond state next left)
outcome cond state (Chooses wanted row by_step by_rule) hints =
    choice cond state wanted row hints (λ left. outcome cond state by_step left) (λ left. outcome cond state by_rule left)
