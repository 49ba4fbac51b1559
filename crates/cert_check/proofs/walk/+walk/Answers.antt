use Rattle.std.proofs.Common.{List, sym, ap, subst, ◌∙◌, arith, rules}
use Rattle.std.proofs.lemmas.Result.{err_from_is_err_and}
use Rattle.std.specs.Vec.Iter.{into_iter_items}
use Rattle.name_table.specs.Sound.{IsTokenSound}
use Rattle.name_table.specs.declared.style.Style.{Style}
use Rattle.name_table.specs.declared.style.TokenAt.{TokenAt}
use Rattle.bst_meaning.specs.StyleParts.{kind_of, tokens_of}
use Rattle.sym_state.specs.State.{State}
use Rattle.cert_check.specs.Walks.{body_walked, chosen_in, made_by, whiles_from}
use Rattle.cert_check.specs.Here.{here}
use Rattle.cert_check.proofs.LoopSteps.{branch_is, called_refused, called_room, next_called}
use Rattle.cert_check.proofs.OwnStacks.{by_own_stack}
use Rattle.cert_check.proofs.WalkSteps.{begun_room, built_in_takes, each_at, first_room, item_at, body_refused, body_takes, case_within, chosen_refused, chosen_takes, next_entered, next_taken, next_walked, rest_room, rest_within, token_kept, tokens_sound, walked_refused}
use Rattle.cert_check.proofs.WhileSteps.{each_takes, whiles_take}
use Rattle.cert_check.specs.Given.{Takes}
use Rattle.cert_check.proofs.walk.+walk.Goals as goal

-- a body
pub body_walked-walked-requires : goal.body_walked-walked-requires
body_walked-walked-requires g t c = λ κs within. (
  search rules,
  (
    search rules,
    (
      c.requires.sound,
      (
        tokens_sound (here g.M.Loops.made c.args.at.now) c.args.body c.tokens_of.result.now c.requires.sound.sound
            (c.tokens_of.ensures ∙ ap (λ (style : Style). tokens_of style c.args.body) c.style.ensures),
        begun_room (here g.M.Loops.made c.args.at.now) c.args.state c.args.course.now c.begin.new.self c.requires.room c.in_ok-given.ensures.1,
      ),
    ),
  ),
)

pub body_walked-returns-in_err-walked : goal.body_walked-returns-in_err-walked
body_walked-returns-in_err-walked g t c =
    let p = err_from_is_err_and c.from_residual-in_err-walked.result c.from_residual-in_err-walked.ensures.1 in
    rw (p.1, p.2)
    (record {
      takes = body_refused (here g.M.Loops.made c.args.at.now) c.args.at.now.more c.args.at.now.place c.args.body c.args.state c.args.course.now c.begin.new.self c.tokens_of.result.now
          c.in_err-walked.field-0.0 (omega arith) c.in_ok-given.ensures.1
          (c.tokens_of.ensures ∙ ap (λ (style : Style). tokens_of style c.args.body) c.style.ensures)
          c.in_err-walked.ensures.takes;
    })

pub body_walked-returns : goal.body_walked-returns
body_walked-returns g t c =
    record {
      takes = body_takes (here g.M.Loops.made c.args.at.now) c.args.at.now.more c.args.at.now.place c.args.body c.args.state c.args.course.now c.begin.new.self c.walked.new.course
          c.end.new.self c.tokens_of.result.now c.in_ok-given.given.items c.end.result (omega arith) c.in_ok-given.ensures.1
          (c.tokens_of.ensures ∙ ap (λ (style : Style). tokens_of style c.args.body) c.style.ensures)
          c.in_ok-given.ensures.0 c.in_ok-walked.ensures.takes c.end.ensures.takes;
    }

-- a built-in function that enters nothing
pub named-returns-in-Some-Builtin : goal.named-returns-in-Some-Builtin
named-returns-in-Some-Builtin g t c =
    let enter = body_walked (here g.M.Loops.made c.args.at.now) c.args.at.now.more in
    record {
      takes = built_in_takes (here g.M.Loops.made c.args.at.now) enter (chosen_in (here g.M.Loops.made c.args.at.now) enter c.args.at.now.place) (kind_of c.args.at.now.scope.now.style c.args.name)
          c.in-Some-Builtin.op c.args.name c.args.at.now.place c.args.state c.args.course.now c.entering_nothing.new.self c.entering_nothing.result (search rules) (search rules)
          c.entering_nothing.ensures.takes;
    }

-- the next case
pub cases_entered-function_entered-requires : goal.cases_entered-function_entered-requires
cases_entered-function_entered-requires g t c =
    let within = case_within c.args.at.now.scope.now.style c.args.at.now.known c.loop-above.course.count (into_iter_items c.loop-above.above-iterator)
    (into_iter_items c.next.new.self) (c.in-Some.above, c.in-Some.state) c.in-Some.ensures.steps.0 c.loop-above.invariant.cases in
    let room = within.room in
    let operands = within.operands in
    search (rules, room, operands)

pub cases_entered-loop-above-preserved : goal.cases_entered-loop-above-preserved
cases_entered-loop-above-preserved g t c = record {
  entered = next_entered (here g.M.Loops.made c.args.at.now) (body_walked (here g.M.Loops.made c.args.at.now) c.args.at.now.more) c.args.at.now.place c.args.three.now (into_iter_items c.loop-above.above-iterator)
      (into_iter_items c.next.new.self) c.in-Some.above c.in-Some.state c.function-function.result c.exact_target-target.result c.loop-above.course
      c.function_entered.new.course _ c.in-Some.ensures.steps.0 c.function-function.ensures (search rules) c.loop-above.invariant.entered
      c.in_ok-function_entered.ensures.takes;
  cases = rest_within (here g.M.Loops.made c.args.at.now) c.args.at.now.more c.args.at.now.known c.args.at.now.place (into_iter_items c.loop-above.above-iterator) (into_iter_items c.next.new.self)
      c.in-Some.above c.in-Some.state c.exact_target-target.result c.loop-above.course c.function_entered.new.course c.requires.sound.sound c.requires.sound.certified c.requires.sound.makes
      c.in-Some.ensures.steps.0 c.loop-above.invariant.cases c.in_ok-function_entered.ensures.takes;
}

-- `if$`
pub chosen_in-returns-in_err-three : goal.chosen_in-returns-in_err-three
chosen_in-returns-in_err-three g t c =
    let p = err_from_is_err_and c.from_residual.result c.from_residual.ensures.1 in
    rw (p.1, p.2)
    (record {
      takes = chosen_refused (here g.M.Loops.made c.args.at.now) (body_walked (here g.M.Loops.made c.args.at.now) c.args.at.now.more) c.args.at.now.place c.args.state c.args.course.now c.in_err-three.field-0.0
          (c.in_err-three.ensures.takes (body_walked (here g.M.Loops.made c.args.at.now) c.args.at.now.more) (by_own_stack (here g.M.Loops.made c.args.at.now) (body_walked (here g.M.Loops.made c.args.at.now) c.args.at.now.more) c.args.at.now.place));
    })

pub chosen_in-overflow_sub-known : goal.chosen_in-overflow_sub-known
chosen_in-overflow_sub-known g t c = (c.in_ok-three.ensures.cases c.args.at.now.known c.requires.known).some

pub chosen_in-cases_entered-requires : goal.chosen_in-cases_entered-requires
chosen_in-cases_entered-requires g t c =
    let within = c.in_ok-three.ensures.cases c.args.at.now.known c.requires.known in
    let some = within.some in
    λ κs outlives. (search (rules, some), (search rules, (c.requires.sound, within.each)))

pub chosen_in-returns : goal.chosen_in-returns
chosen_in-returns g t c =
    let enter = body_walked (here g.M.Loops.made c.args.at.now) c.args.at.now.more in
    record {
      takes = chosen_takes (here g.M.Loops.made c.args.at.now) enter c.args.at.now.place c.args.state c.in_ok-three.three c.in_ok-three.cases.items c.args.course.now c.chooses.new.self
          c.cases_entered.new.course c.cases_entered.result
          (c.in_ok-three.ensures.takes enter (by_own_stack (here g.M.Loops.made c.args.at.now) enter c.args.at.now.place)) c.cases_entered.ensures.takes;
    }

-- all states of a token, or each of them
pub taken_from-returns-then-makes_for : goal.taken_from-returns-then-makes_for
taken_from-returns-then-makes_for g t c =
    let scope = here g.M.Loops.made c.args.at.now in record {
      takes = whiles_take scope (body_walked scope c.args.at.now.more) c.args.token.now c.args.states.items c.args.course.now c.whiles.new.course c.whiles.result
          (sym c.makes_for.ensures ∙ c.if-makes_for.true)
          (subst (λ (l : List State). Takes (whiles_from (made_by scope.make) scope c.args.token.now.place l c.args.course.now) c.whiles.new.course c.whiles.result)
          c.as_slice.ensures.value c.whiles.ensures.takes);
    }

pub taken_from-returns-else-makes_for : goal.taken_from-returns-else-makes_for
taken_from-returns-else-makes_for g t c =
    let scope = here g.M.Loops.made c.args.at.now in record {
      takes = each_takes scope (body_walked scope c.args.at.now.more) c.args.token.now c.args.states.items c.args.course.now c.each_taken.new.course
          c.each_taken.result (sym c.makes_for.ensures ∙ c.if-makes_for.false) c.each_taken.ensures.takes;
    }

-- the next state
pub each_taken-taken-requires : goal.each_taken-taken-requires
each_taken-taken-requires g t c =
    let room = first_room c.args.at.now.scope.now.style c.loop-state.course.count (into_iter_items c.loop-state.state-iterator) (into_iter_items c.next.new.self) c.in-Some.state
    c.in-Some.ensures.steps.0 c.loop-state.invariant.room in
    search (rules, room)

pub each_taken-loop-state-preserved : goal.each_taken-loop-state-preserved
each_taken-loop-state-preserved g t c = record {
  taken = next_taken (here g.M.Loops.made c.args.at.now) (body_walked (here g.M.Loops.made c.args.at.now) c.args.at.now.more) c.args.token.now (into_iter_items c.loop-state.state-iterator)
      (into_iter_items c.next.new.self) c.in-Some.state c.loop-state.course c.taken.new.course _ c.in-Some.ensures.steps.0 c.loop-state.invariant.taken
      c.in_ok-taken.ensures.takes;
  room = rest_room (here g.M.Loops.made c.args.at.now) c.args.at.now.more c.args.token.now (into_iter_items c.loop-state.state-iterator) (into_iter_items c.next.new.self) c.in-Some.state
      c.loop-state.course c.taken.new.course c.requires.sound.sound c.requires.sound.certified c.requires.sound.makes c.requires.token c.in-Some.ensures.steps.0 c.loop-state.invariant.room
      c.in_ok-taken.ensures.takes;
}

-- the next function that `call.type$` enters
pub typed-loop-name-preserved : goal.typed-loop-name-preserved
typed-loop-name-preserved g t c =
    let same = branch_is c.args.state.now c.in_ok-one.one c.branch-state.result c.in_ok-one.ensures c.branch-state.ensures in record {
      typed = next_called (here g.M.Loops.made c.args.at.now) (body_walked (here g.M.Loops.made c.args.at.now) c.args.at.now.more) c.args.at.now.place (into_iter_items c.loop-name.name-iterator)
          (into_iter_items c.next.new.self) c.in-Some.name c.args.state.now c.in_ok-one.one c.loop-name.course c.type_called.new.course _ c.in-Some.ensures.steps.0
          same c.loop-name.invariant.typed c.in_ok-type_called.ensures.takes;
      room = called_room (here g.M.Loops.made c.args.at.now) c.args.at.now.more c.args.at.now.place c.in-Some.name c.args.state.now c.in_ok-one.one c.loop-name.course c.type_called.new.course
          c.requires.sound.sound c.requires.sound.certified c.requires.sound.makes same c.loop-name.invariant.room c.in_ok-type_called.ensures.takes;
    }

pub typed-returns-in_err-type_called : goal.typed-returns-in_err-type_called
typed-returns-in_err-type_called g t c =
    let p = err_from_is_err_and c.from_residual-in_err-type_called.result c.from_residual-in_err-type_called.ensures.1 in
    rw (p.1, p.2)
    (record {
      takes = called_refused (here g.M.Loops.made c.args.at.now) (body_walked (here g.M.Loops.made c.args.at.now) c.args.at.now.more) c.args.at.now.place (into_iter_items c.loop-name.name-iterator)
          (into_iter_items c.next.new.self) c.in-Some.name c.args.state.now c.in_ok-one.one c.loop-name.course _ c.in_err-type_called.field-0.0
          c.in-Some.ensures.steps.0 (branch_is c.args.state.now c.in_ok-one.one c.branch-state.result c.in_ok-one.ensures c.branch-state.ensures)
          c.loop-name.invariant.typed c.in_err-type_called.ensures.takes;
    })

-- the next token
pub walked-returns-in_err-taken_from : goal.walked-returns-in_err-taken_from
walked-returns-in_err-taken_from g t c =
    let p = err_from_is_err_and c.from_residual.result c.from_residual.ensures.1 in
    rw (p.1, p.2)
    (record {
      takes = walked_refused (here g.M.Loops.made c.args.at.now) (body_walked (here g.M.Loops.made c.args.at.now) c.args.at.now.more) _ _ _
          c.take_given-states.result.items c.loop-token.course c.take_given-states.new.self _ c.in_err-taken_from.field-0.0
          (item_at c.args.tokens.now c.loop-token.token-index _ c.loop-token-test.true) c.take_given-states.ensures.left c.take_given-states.ensures.given
          c.loop-token.invariant.walked c.in_err-taken_from.ensures.takes;
    })

pub walked-loop-token-preserved : goal.walked-loop-token-preserved
walked-loop-token-preserved g t c = record {
  walked = next_walked (here g.M.Loops.made c.args.at.now) (body_walked (here g.M.Loops.made c.args.at.now) c.args.at.now.more) _ _ _ c.take_given-states.result.items c.loop-token.course
      c.take_given-states.new.self c.taken_from.new.course _ (item_at c.args.tokens.now c.loop-token.token-index _ c.loop-token-test.true)
      c.take_given-states.ensures.left c.take_given-states.ensures.given c.loop-token.invariant.walked c.in_ok-taken_from.ensures.takes;
  room = token_kept (here g.M.Loops.made c.args.at.now) c.args.at.now.more _ c.take_given-states.result.items c.loop-token.course c.take_given-states.new.self c.taken_from.new.course
      c.requires.sound.sound c.requires.sound.certified c.requires.sound.makes
      (each_at (λ (at : TokenAt). IsTokenSound c.args.at.now.scope.now.style.names c.args.at.now.scope.now.style.bodies c.args.at.now.scope.now.style.texts at.token)
      c.args.tokens.now c.loop-token.token-index _ c.requires.tokens c.loop-token-test.true)
      c.take_given-states.ensures.left c.take_given-states.ensures.given c.loop-token.invariant.room c.in_ok-taken_from.ensures.takes;
}
