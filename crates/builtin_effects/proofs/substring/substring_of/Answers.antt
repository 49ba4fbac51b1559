-- The choice of `substring$`.
use Rattle.std.proofs.Common.{◌≡◌, ◌+◌, ◌-◌, Bool, true, false, ◌&&◌, cond, List, Option, Result, subst, sym, ap, ◌∙◌}
use Rattle.std.specs.Prelude.{ℤ, pos}
use Rattle.lin_facts.specs.declared.row.Row.{Row}
use Rattle.lin_facts.specs.declared.row.Term.TheVariants.{Length}
use Rattle.bst_meaning.specs.declared.condition.Cond.{Cond}
use Rattle.sym_state.specs.declared.demand.EffectFault.{EffectFault}
use Rattle.sym_state.specs.declared.hint.Hint.{Hint}
use Rattle.sym_state.specs.State.{State}
use Rattle.sym_state.specs.declared.symbol.Sym.{Sym}
use Rattle.sym_state.specs.Demands.{Outcome, choice, outcome, without}
use Rattle.sym_state.specs.Effects.{is_length, is_start, known_size, of_length, shorter, substring_of}
use Rattle.sym_state.specs.References.{at_least}
use Rattle.builtin_effects.specs.Given.{Gives}
use Rattle.builtin_effects.proofs.substring.substring_of.Goals as goal

chosen : (admits : Cond) (state : State) (a : Sym) (start len : Option ℤ) (rest : State) (hints left : List Hint) (wanted by_step t : Bool) (row : Row)
    → wanted ≡ (is_start start && is_length len) → row ≡ at_least (Length a.0) (pos (known_size start + known_size len - 1)) → by_step ≡ t
    → ((first second : List Hint → Outcome) → choice admits state wanted row hints first second ≡ cond by_step (first left) (second left))
    → outcome admits state (substring_of a start len rest) hints
    ≡ cond t (outcome admits state (of_length (known_size len) rest) left) (outcome admits state (shorter a len rest) left)
chosen admits state a start len rest hints left wanted by_step t row w r is h =
    let first : List Hint → Outcome = λ l. outcome admits state (of_length (known_size len) rest) l in
    let second : List Hint → Outcome = λ l. outcome admits state (shorter a len rest) l in
    subst (λ (x : Bool). choice admits state x (at_least (Length a.0) (pos (known_size start + known_size len - 1))) hints first second
    ≡ cond t (first left) (second left)) w
    (subst (λ (y : Row). choice admits state wanted y hints first second ≡ cond t (first left) (second left)) r
    (h first second ∙ ap (λ (b : Bool). cond b (first left) (second left)) is))

-- what is given by the choice is what `substring$` gives
chosen_gives : (admits : Cond) (state : State) (a : Sym) (start len : Option ℤ) (rest : State) (hints left : List Hint) (wanted by_step t : Bool) (row : Row)
    (result : Result State EffectFault) → wanted ≡ (is_start start && is_length len)
    → row ≡ at_least (Length a.0) (pos (known_size start + known_size len - 1)) → by_step ≡ t
    → ((first second : List Hint → Outcome) → choice admits state wanted row hints first second ≡ cond by_step (first left) (second left))
    → Gives result left (cond t (outcome admits state (of_length (known_size len) rest) left) (outcome admits state (shorter a len rest) left))
    → Gives result left (outcome admits state (substring_of a start len rest) hints)
chosen_gives admits state a start len rest hints left wanted by_step t row result w r is h given =
    subst (λ (o : Outcome). Gives result left o) (sym (chosen admits state a start len rest hints left wanted by_step t row w r is h)) given

pub returns-then-branch : goal.returns-then-branch
returns-then-branch c =
    chosen_gives c.args.at.now.cond.now c.args.at.now.state.now c.args.a c.args.start c.args.len (without 3 c.args.at.now.state.now) c.args.hints.now c.choice.new.hints
    c.is_wanted-wanted.result c.in_ok-choice.field-0 true c.in_ok-row.row c.long_enough.result c.is_wanted-wanted.ensures c.in_ok-row.ensures.said c.if-branch.true
    c.in_ok-choice.ensures.taken (c.long_enough.ensures c.choice.new.hints)

pub returns : goal.returns
returns c =
    chosen_gives c.args.at.now.cond.now c.args.at.now.state.now c.args.a c.args.start c.args.len (without 3 c.args.at.now.state.now) c.args.hints.now c.choice.new.hints
    c.is_wanted-wanted.result c.in_ok-choice.field-0 false c.in_ok-row.row c.no_longer.result c.is_wanted-wanted.ensures c.in_ok-row.ensures.said c.if-branch.false
    c.in_ok-choice.ensures.taken (c.no_longer.ensures c.choice.new.hints)
