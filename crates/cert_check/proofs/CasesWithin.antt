-- The cases of `if$` have room for what it enters, and three operands less.
use Rattle.std.proofs.Common.{◌≡◌, ℕ, suc, ◌-◌, ◌<◌, ◌≤◌, Bool, List, [], ◌∷◌, length, reverse, IfOk, Result, Ok, Err, refl, sym, ap, subst, ◌∙◌, arith}
use Rattle.std.specs.List.{All}
use Rattle.std.specs.Result.{MatchResult}
use Rattle.std.proofs.lemmas.List.Elements.{All-cons, All-head, All-nil, All-tail}
use Rattle.std.proofs.lemmas.List.{length-reverse}
use Rattle.bv_base.specs.declared.place.Place.{Place}
use Rattle.name_table.specs.declared.style.Style.{Style}
use Rattle.bst_meaning.specs.declared.condition.Cond.{Cond}
use Rattle.sym_state.specs.State.{State}
use Rattle.sym_state.specs.Cases.{Labelled, above_of}
use Rattle.sym_state.specs.Demands.{Three, three_by, three_of}
use Rattle.sym_state.specs.declared.hint.Hint.{Hint}
use Rattle.sym_state.specs.declared.symbol.Kinds.TheVariants.{Int, Func}
use Rattle.sym_state.specs.declared.symbol.Sym.{Sym}
use Rattle.sym_state.proofs.Below.{AreBelow}
use Rattle.sym_state.proofs.Frames.{all_reversed}
use Rattle.sym_state.proofs.Resulting.{rest_made}
use Rattle.cert_check.specs.declared.refusal.Refusal.{Refusal}
use Rattle.cert_check.specs.Courses.{placed}
use Rattle.cert_check.specs.Given.{AreCases, Refused}
use Rattle.cert_check.specs.Room.{AreWithin, HasRoom, IsCaseWithin}
use Rattle.cert_check.proofs.Inverted.{placed_ok}
use Rattle.cert_check.proofs.OwnStacks.{above_stacks}
use Rattle.cert_check.proofs.RoomLeft.{cases_room}
use Rattle.cert_check.proofs.Walked.{three_ok}

each_within : (style : Style) (known count : ℕ) (stack : List Sym) (cases : List (Bool × State)) → length stack ≤ known
    → All (λ case. HasRoom style 64 count case.1) cases → All (λ case. case.1.stack ≡ stack) cases → All (IsCaseWithin style known count) cases
each_within style known count stack [] few room stacks = All-nil (IsCaseWithin style known count)
each_within style known count stack (case ∷ cases) few room stacks =
    All-cons (IsCaseWithin style known count) case cases (record {
      room = All-head (λ (one : Bool × State). HasRoom style 64 count one.1) case cases room;
      operands = subst (λ (l : List Sym). length l ≤ known) (sym (All-head (λ (one : Bool × State). one.1.stack ≡ stack) case cases stacks)) few;
    })
    (each_within style known count stack cases few (All-tail (λ (one : Bool × State). HasRoom style 64 count one.1) case cases room)
    (All-tail (λ (one : Bool × State). one.1.stack ≡ stack) case cases stacks))

by_stack : (style : Style) (admits : Cond) (place : Place) (stack : List Sym) (state : State) (three : Three) (cases : List (Bool × State)) (known count : ℕ)
    → reverse state.stack ≡ stack → HasRoom style 65 count state → length state.stack ≤ known → placed place (three_by Int Func Func stack state) ≡ Ok three
    → AreCases admits three.rest three.lowest cases → AreWithin style known count cases
by_stack style admits place [] state three cases known count is room few taken split = absurd (cc)
by_stack style admits place (c ∷ []) state three cases known count is room few taken split = absurd (cc)
by_stack style admits place (c ∷ (b ∷ [])) state three cases known count is room few taken split = absurd (cc)
by_stack style admits place (c ∷ (b ∷ (a ∷ rest))) state three cases known count is room few taken split =
    let popped : State = record state { stack = reverse rest } in
    let below = subst (λ (l : List Sym). AreBelow state l) is (all_reversed state.next state.stack room.made.stack) in
    let P : Sym → Type 0 = λ s. s.0 < state.next in
    let lowest = All-tail P b (a ∷ rest) (All-tail P c (b ∷ (a ∷ rest)) below) in
    let met = three_ok state a b c rest three (placed_ok place (three_by Int Func Func (c ∷ (b ∷ (a ∷ rest))) state) three taken) in
    let labelled : Labelled = record { cases = cases; hints = split.left } in
    let all : above_of admits popped a split.hints ≡ Ok labelled =
    ap (λ (t : Three). above_of admits t.rest t.lowest split.hints) (sym met.is) ∙ split.are in
    let roomy : HasRoom style 65 count popped = record { made = rest_made style state rest room.made (All-tail P a rest lowest); few = room.few } in
    let long : length state.stack ≡ suc (suc (suc (length rest))) = sym (length-reverse state.stack) ∙ ap (λ (l : List Sym). length l) is in
    let under : length (reverse rest) ≡ length rest = length-reverse rest in
    record {
      some = omega (arith, few, long);
      each = each_within style (known - 3) count (reverse rest) cases (omega (arith, few, long, under))
          (cases_room style admits popped a split.hints labelled count (All-head P a rest lowest) roomy all)
          (above_stacks admits popped a split.hints labelled all);
    }

pub cases_within : (style : Style) (admits : Cond) (place : Place) (state : State) (three : Three) (cases : List (Bool × State)) (known count : ℕ)
    → HasRoom style 65 count state → length state.stack ≤ known → placed place (three_of Int Func Func state) ≡ Ok three
    → AreCases admits three.rest three.lowest cases → AreWithin style known count cases
cases_within style admits place state three cases known count room few taken split =
    by_stack style admits place (reverse state.stack) state three cases known count refl room few taken split

-- what a rule gave is such cases
pub cases_are : (admits : Cond) (place : Place) (state : State) (s : Sym) (cases : List (Bool × State)) (hints left : List Hint)
    → placed place (above_of admits state s hints) ≡ Ok (record { cases = cases; hints = left }) → AreCases admits state s cases
cases_are admits place state s cases hints left e = record { hints = hints; left = left; are = placed_ok place (above_of admits state s hints) _ e }

pub given_cases : {V : Type 0} (items : V → List (Bool × State)) (admits : Cond) (place : Place) (state : State) (s : Sym) (hints left : List Hint)
    (result : Result V Refusal) → MatchResult result (λ v. placed place (above_of admits state s hints) ≡ Ok (record { cases = items v; hints = left }))
    (Refused (placed place (above_of admits state s hints))) → IfOk result (λ v. AreCases admits state s (items v))
given_cases {V} items admits place state s hints left (Ok v) given = cases_are admits place state s (items v) hints left given
given_cases {V} items admits place state s hints left (Err refusal) given = tt
