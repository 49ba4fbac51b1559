-- What covers the machine: a new value on top of what is left, and symbols that are only moved.
use Rattle.std.proofs.Common.{◌≡◌, ℕ, true, List, [], ◌∷◌, ◌++◌, reverse, Result, Ok, refl, ap, subst, ◌∙◌}
use Rattle.std.specs.List.{AllByRecursion}
use Rattle.std.proofs.lemmas.List.{reverse-reverse}
use Rattle.lin_facts.specs.Rows.{Holds}
use Rattle.lin_facts.specs.declared.row.Row.{Row}
use Rattle.lin_facts.specs.declared.row.Term.{Term}
use Rattle.lin_facts.specs.declared.row.Term.TheVariants.{Value as ValueOf, Length as LengthOf}
use Rattle.name_table.specs.declared.builtin.Builtin.{Builtin}
use Rattle.bst_meaning.specs.declared.fault.Fault.{Fault}
use Rattle.bst_meaning.specs.declared.value.Value.{Value}
use Rattle.bst_meaning.specs.Builtins.{Context, built_in}
use Rattle.bst_meaning.specs.Config.{Event}
use Rattle.bst_meaning.specs.Effect.{Effect, left, pushed}
use Rattle.bst_meaning.specs.Machine.{context_of}
use Rattle.sym_state.specs.State.{State}
use Rattle.sym_state.specs.declared.symbol.Fact.{Fact}
use Rattle.sym_state.specs.declared.symbol.Kinds.{Kinds}
use Rattle.sym_state.specs.declared.symbol.Sym.{Sym}
use Rattle.sym_state.specs.Covers.{Covers}
use Rattle.sym_state.specs.Demands.{gives, is_of_kind, Rule}
use Rattle.sym_state.specs.Facts.{FactHolds, has_kind}
use Rattle.sym_state.specs.Results.{with_result, with_symbol}
use Rattle.sym_state.specs.Stands.{Stands}
use Rattle.sym_state.specs.Symbols.{IsValue, Valuation, integer_of, length_of, numbers}
use Rattle.sym_state.specs.WellMade.{IsTermBelow}
use Rattle.sym_state.specs.Effects.{rule_of}
use Rattle.sym_state.proofs.Below.{AreBelow}
use Rattle.sym_state.proofs.Ensured.{Ensures, IsShown}
use Rattle.sym_state.proofs.Frames.{value_list, agrees_self, list_agrees, next_agrees, next_is, term_agrees, with_next}
use Rattle.sym_state.proofs.KnownKinds.{of_kind_holds}
use Rattle.sym_state.proofs.Pushing.{moved, pushed as stands_pushed, stack_of_tops, tops_below, with_stack, without}
use Rattle.sym_state.proofs.Shown.{shown_holds}
use Rattle.sym_state.proofs.Spots.{Spot}

abbrev pub CoversAt : Spot → Builtin → State → Type 0
CoversAt s o after = Covers s.style s.admits s.list s.v s.state s.c s.below s.place o after

-- every state that a rule gives covers what the function does, and that of the function's own rule
abbrev pub CoversBy : Spot → Builtin → Rule → Type 0
CoversBy s o rule = Ensures s.admits s.state (CoversAt s o) rule

abbrev pub CoversOf : Spot → Builtin → Type 0
CoversOf s o = CoversBy s o (rule_of s.style s.admits s.state o)

-- what surrounds the call, and the values of symbols below what is known
abbrev pub around : Spot → Context
around s = context_of s.style s.c

abbrev pub lower : Spot → List Sym → List Value
lower s rest = value_list s.v rest ++ s.below

-- these symbols are the state's
abbrev pub Old : Spot → List Sym → Type 0
Old s syms = AreBelow s.state syms

-- the machine's stack begins with the values of the symbols on top
pub machine_tops : (s : Spot) (tops : List Sym) → reverse s.state.stack ≡ tops → s.c.stack ≡ lower s tops
machine_tops s tops e = stack_of_tops s.style s.admits s.list s.v s.state s.c s.below tops s.stands e

-- what the machine gives of values of which the topmost are those of the symbols on top
pub machine_gives : (s : Spot) (o : Builtin) (tops : List Sym) (values : List Value) (effect : Effect) → reverse s.state.stack ≡ tops
    → lower s tops ≡ values → built_in o (around s) values ≡ Ok effect → built_in o (around s) s.c.stack ≡ Ok effect
machine_gives s o tops values effect e is gives = ap (λ (l : List Value). built_in o (around s) l) (machine_tops s tops e ∙ is) ∙ gives

-- what the machine gives of one operand, of two and of three, by their values
pub one_given : (s : Spot) (o : Builtin) (a : Sym) (rest : List Sym) (x : Value) → reverse s.state.stack ≡ a ∷ rest → s.v.value a.0 ≡ x
    → built_in o (around s) s.c.stack ≡ built_in o (around s) (x ∷ lower s rest)
one_given s o a rest x tops x_is =
    ap (λ (l : List Value). built_in o (around s) l) (machine_tops s (a ∷ rest) tops ∙ ap (λ (k : Value). k ∷ lower s rest) x_is)

pub two_given : (s : Spot) (o : Builtin) (a b : Sym) (rest : List Sym) (x y : Value) → reverse s.state.stack ≡ b ∷ (a ∷ rest)
    → s.v.value a.0 ≡ x → s.v.value b.0 ≡ y → built_in o (around s) s.c.stack ≡ built_in o (around s) (y ∷ (x ∷ lower s rest))
two_given s o a b rest x y tops x_is y_is =
    ap (λ (l : List Value). built_in o (around s) l) (
    machine_tops s (b ∷ (a ∷ rest)) tops ∙ ap (λ (k : Value). k ∷ (s.v.value a.0 ∷ lower s rest)) y_is ∙ ap (λ (k : Value). y ∷ (k ∷ lower s rest)) x_is
    )

pub three_given : (s : Spot) (o : Builtin) (a b c : Sym) (rest : List Sym) (x y z : Value) → reverse s.state.stack ≡ c ∷ (b ∷ (a ∷ rest))
    → s.v.value a.0 ≡ x → s.v.value b.0 ≡ y → s.v.value c.0 ≡ z
    → built_in o (around s) s.c.stack ≡ built_in o (around s) (z ∷ (y ∷ (x ∷ lower s rest)))
three_given s o a b c rest x y z tops x_is y_is z_is =
    ap (λ (l : List Value). built_in o (around s) l) (
    machine_tops s (c ∷ (b ∷ (a ∷ rest))) tops
    ∙ ap (λ (k : Value). k ∷ (s.v.value b.0 ∷ (s.v.value a.0 ∷ lower s rest))) z_is
    ∙ ap (λ (k : Value). z ∷ (k ∷ (s.v.value a.0 ∷ lower s rest))) y_is
    ∙ ap (λ (k : Value). z ∷ (y ∷ (k ∷ lower s rest))) x_is
    )

-- the same where the machine computes further
pub one_then : (s : Spot) (o : Builtin) (a : Sym) (rest : List Sym) (x : Value) (r : Result Effect Fault) → reverse s.state.stack ≡ a ∷ rest
    → s.v.value a.0 ≡ x → built_in o (around s) (x ∷ lower s rest) ≡ r → built_in o (around s) s.c.stack ≡ r
one_then s o a rest x r tops x_is e = one_given s o a rest x tops x_is ∙ e

pub two_then : (s : Spot) (o : Builtin) (a b : Sym) (rest : List Sym) (x y : Value) (r : Result Effect Fault) → reverse s.state.stack ≡ b ∷ (a ∷ rest)
    → s.v.value a.0 ≡ x → s.v.value b.0 ≡ y → built_in o (around s) (y ∷ (x ∷ lower s rest)) ≡ r → built_in o (around s) s.c.stack ≡ r
two_then s o a b rest x y r tops x_is y_is e = two_given s o a b rest x y tops x_is y_is ∙ e

pub three_then : (s : Spot) (o : Builtin) (a b c : Sym) (rest : List Sym) (x y z : Value) (r : Result Effect Fault)
    → reverse s.state.stack ≡ c ∷ (b ∷ (a ∷ rest)) → s.v.value a.0 ≡ x → s.v.value b.0 ≡ y → s.v.value c.0 ≡ z
    → built_in o (around s) (z ∷ (y ∷ (x ∷ lower s rest))) ≡ r → built_in o (around s) s.c.stack ≡ r
three_then s o a b c rest x y z r tops x_is y_is z_is e = three_given s o a b c rest x y z tops x_is y_is z_is ∙ e

-- an operand is of its kind
pub kind_met : (s : Spot) (kind : Kinds) (a : Sym) → is_of_kind s.state kind a ≡ true → has_kind kind (s.v.value a.0) ≡ true
kind_met s kind a e = of_kind_holds s.style s.v a.0 s.state.facts kind s.stands.satisfied.facts e

-- a row that is shown holds
pub row_met : (s : Spot) (row : Row) → IsShown s.admits s.state row → Holds (numbers s.v) row
row_met s row shown = shown_holds s.style s.admits s.v s.state shown.0 row s.stands.satisfied shown.1

-- with a new value the terms on symbols that were there are what they were, and those on the new one are the value's
abbrev pub after_value : Spot → Value → Valuation
after_value s value = with_next s.state.next value s.v

pub value_new : (s : Spot) (value : Value) → (after_value s value).value s.state.next ≡ value
value_new s value = next_is s.state.next value s.v

pub term_old : (s : Spot) (value : Value) (t : Term) → IsTermBelow s.state.next t → numbers (after_value s value) t ≡ numbers s.v t
term_old s value t less = term_agrees s.state.next s.v (after_value s value) t (next_agrees s.state.next value s.v) less

pub term_new_value : (s : Spot) (value : Value) → numbers (after_value s value) (ValueOf s.state.next) ≡ integer_of value
term_new_value s value = ap integer_of (value_new s value)

pub term_new_length : (s : Spot) (value : Value) → numbers (after_value s value) (LengthOf s.state.next) ≡ length_of value
term_new_length s value = ap length_of (value_new s value)

-- a new value is put on top of what is left
pub put : (s : Spot) (o : Builtin) (rest : List Sym) (kind : Kinds) (facts : List Fact) (rows : List Row) (value : Value)
    → Old s rest → built_in o (around s) s.c.stack ≡ pushed value (lower s rest) → IsValue value → has_kind kind value ≡ true
    → AllByRecursion (FactHolds s.style (after_value s value)) facts → AllByRecursion (Holds (numbers (after_value s value))) rows
    → CoversAt s o (with_result kind facts rows (without rest s.state))
put s o rest kind facts rows value old machine is of_kind fine shown = record {
  effect = left (value ∷ lower s rest);
  gives = machine;
  assignment = after_value s value;
  agrees = next_agrees s.state.next value s.v;
  stands = stands_pushed s.style s.admits s.list s.v s.state s.c s.below rest kind facts rows value (s.c.events ++ []) (s.c.log ++ [])
      s.made s.stands old is of_kind fine shown;
}

-- a new value that isn't put on the stack
pub unseen : (s : Spot) (rest : List Sym) (kind : Kinds) (facts : List Fact) (rows : List Row) (value : Value) (events : List Event) (log : List (List ℕ))
    → Old s rest → IsValue value → has_kind kind value ≡ true → AllByRecursion (FactHolds s.style (after_value s value)) facts
    → AllByRecursion (Holds (numbers (after_value s value))) rows
    → Stands s.style s.admits s.list (after_value s value) (with_symbol kind facts rows (without rest s.state)) (with_stack (lower s rest) events log s.c) s.below
unseen s rest kind facts rows value events log old is of_kind fine shown =
    let w : Valuation = after_value s value in
    let top = stands_pushed s.style s.admits s.list s.v s.state s.c s.below rest kind facts rows value events log s.made s.stands old is of_kind fine shown in
    subst (λ (l : List Value). Stands s.style s.admits s.list w (with_symbol kind facts rows (without rest s.state)) (with_stack (l ++ s.below) events log s.c) s.below)
    (list_agrees s.state.next s.v w rest (next_agrees s.state.next value s.v) old)
    (moved s.style s.admits s.list w (with_result kind facts rows (without rest s.state)) (with_stack (value ∷ lower s rest) events log s.c) s.below
    rest (reverse rest) events log top (reverse-reverse rest))

-- a new value on top where nothing is taken
pub untaken : (state : State) → without (reverse state.stack) state ≡ state
untaken state = ap (λ (l : List Sym). record state { stack = l }) (reverse-reverse state.stack)

pub put_first : (s : Spot) (o : Builtin) (kind : Kinds) (facts : List Fact) (rows : List Row) (value : Value)
    → built_in o (around s) s.c.stack ≡ pushed value s.c.stack → IsValue value → has_kind kind value ≡ true
    → AllByRecursion (FactHolds s.style (after_value s value)) facts → AllByRecursion (Holds (numbers (after_value s value))) rows
    → CoversAt s o (with_result kind facts rows s.state)
put_first s o kind facts rows value machine is of_kind fine shown =
    let tops : List Sym = reverse s.state.stack in
    subst (λ (x : State). CoversAt s o (with_result kind facts rows x)) (untaken s.state)
    (put s o tops kind facts rows value (tops_below s.style s.state tops s.made refl)
    (machine ∙ ap (λ (l : List Value). pushed value l) (machine_tops s tops refl)) is of_kind fine shown)

-- symbols are moved, and something is written or logged
pub shift : (s : Spot) (o : Builtin) (tops stack : List Sym) (wrote : List Event) (logged : List (List ℕ)) → reverse stack ≡ tops
    → built_in o (around s) s.c.stack ≡ Ok (record (left (lower s tops)) { wrote = wrote; logged = logged })
    → CoversAt s o (record s.state { stack = stack })
shift s o tops stack wrote logged is machine = record {
  effect = record (left (lower s tops)) { wrote = wrote; logged = logged };
  gives = machine;
  assignment = s.v;
  agrees = agrees_self s.state.next s.v;
  stands = moved s.style s.admits s.list s.v s.state s.c s.below tops stack (s.c.events ++ wrote) (s.c.log ++ logged) s.stands is;
}
