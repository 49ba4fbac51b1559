-- The parts are those of the definition.
use Rattle.std.proofs.Common.{◌≡◌, ℕ, ◌+◌, ◌-◌, ap, sym, ◌∙◌, List, ◌++◌, length, arith}
use Rattle.std.proofs.lemmas.Result.{IfOk-weaker}
use Rattle.sym_state.specs.State.{State}
use Rattle.sym_state.specs.declared.symbol.Bind.{Bind}
use Rattle.sym_state.specs.declared.symbol.Sym.{Sym}
use Rattle.sym_state.specs.Entailing.{matched}
use Rattle.sym_state.specs.Matches.{matched_by}
use Rattle.sym_state.specs.Renaming.{bind_renamed}
use Rattle.sym_state.specs.Starting.{seats, unbound}
use Rattle.sym_state.proofs.Fronts.{front_left}
use Rattle.sym_state.proofs.Started.{seen_within}
use Rattle.std.specs.Prelude.{map, reverse, drop, take}
use Rattle.cert_check.specs.Uses.{Passage, own_count}
use Rattle.cert_check.proofs.LeftSteps.{few_new, left_is}
use Rattle.cert_check.proofs.uses.left_state.Goals as goal

pub seats-requires : goal.seats-requires
seats-requires c =
    let few = few_new c.args.came.now.unit.now c.args.came.now.state.now c.args.post.now c.args.came.now.kept (own_count c.args.post.now c.args.came.now.kept) in
    let same = ap (λ (p : Passage). length p.writes) c.unit.view_is in
    omega (arith, few, same, c.in_ok-own.ensures.next, c.requires.room)

pub left_by-requires-clause-names : goal.left_by-requires-clause-names
left_by-requires-clause-names c =
    seen_within (length c.args.came.now.style.now.names) c.in_ok-written.written.items c.as_slice-4.result.now c.unit.inside.writes.now
    c.args.came.now.unit.now.writes c.as_slice-4.ensures.value c.in_ok-written.ensures.names (ap (λ (p : Passage). p.writes) c.unit.view_is) c.requires.names

pub returns : goal.returns
returns c =
    let came = c.args.came.now in
    let state : State = came.state.now in
    let unit : Passage = came.unit.now in
    let name : ℕ → ℕ = matched_by c.in_ok-all.all in
    let binds : List Bind = c.in_ok-binds.binds.items in
    let total : ℕ = c.in_ok-below.below.next + (c.in_ok-written.next - c.next.result) in
    let writes_are = ap (λ (p : Passage). p.writes) c.unit.view_is in
    let next_is : c.in_ok-written.next ≡ c.in_ok-own.first + unbound binds unit.writes =
    c.in_ok-written.ensures.next ∙ ap (λ (bs : List Bind). c.in_ok-own.first + unbound bs c.unit.inside.writes.now) c.as_slice-2.ensures.value
    ∙ ap (λ ns. c.in_ok-own.first + unbound binds ns) writes_are in
    let written_are : c.as_slice-4.result.now ≡ seats binds c.in_ok-own.first unit.writes =
    c.as_slice-4.ensures.value ∙ c.in_ok-written.ensures.seats ∙ ap (λ (bs : List Bind). seats bs c.in_ok-own.first c.unit.inside.writes.now) c.as_slice-2.ensures.value
    ∙ ap (λ ns. seats binds c.in_ok-own.first ns) writes_are in
    let taken_is : length c.as_slice-3.result.now ≡ length came.pre.now.stack = ap length c.as_slice-3.ensures in
    let below_is : c.in_ok-below.below ≡ record state { stack = take (length state.stack - length came.pre.now.stack) state.stack } =
    c.in_ok-below.ensures.left
    ∙ ap (λ (n : ℕ). let s : State = record state { stack = reverse (drop n (reverse state.stack)) } in s) taken_is
    ∙ ap (λ (stack : List Sym). let s : State = record state { stack = stack } in s) (sym (front_left state.stack (length came.pre.now.stack))) in
    IfOk-weaker c.left_by.result _ _
    (λ after is. is ∙ left_is came.style.now came.cond.now unit came.pre.now came.kept state c.args.post.now c.in_ok-own.own.items
    c.in_ok-own.first c.in_ok-written.next total name binds c.as_slice-4.result.now c.in_ok-below.below
    c.in_ok-own.ensures.places c.in_ok-own.ensures.next
    (c.in_ok-all.ensures ∙ ap (λ (there : List (Sym × Sym)). matched 0 (c.in_ok-own.own.items ++ there)) c.requires.places)
    (c.in_ok-binds.ensures ∙ ap (λ (bs : List Bind). map (bind_renamed name) bs) c.as_slice.ensures)
    written_are next_is
    (omega (arith, c.in_ok-below.ensures.next, c.next.ensures, next_is, c.in_ok-own.ensures.next)) below_is)
    c.left_by.ensures
