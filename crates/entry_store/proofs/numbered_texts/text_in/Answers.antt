-- The first text whose number isn't below decides.
use Rattle.std.proofs.Common.{◌≡◌, ◌∙◌, ◌+◌, ◌-◌, ℕ, List, ap, arith, drop, length, suc, sym, take}
use Rattle.entry_store.specs.NumberedTexts.{Numbered, numbered, text_under}
use Rattle.entry_store.proofs.Numbering.{as_many, below, beyond, cut_at_end, found}
use Rattle.entry_store.proofs.numbered_texts.text_in.Goals as goal

pub loop-at-init : goal.loop-at-init
loop-at-init c =
    let all : List Numbered = numbered c.args.numbers.now c.args.texts.now in
    let many : length all ≡ length c.args.numbers.now = as_many c.args.numbers.now c.args.texts.now c.requires in
    ap (λ (l : List Numbered). text_under c.args.number l)
    (cut_at_end all c.args.from c.args.count c.min-end.result
    (omega (arith, many, c.min-end.ensures))
    (omega (arith, c.min-end.ensures, c.saturating_add.ensures))
    (λ less. omega (arith, less, many, c.min-end.ensures, c.saturating_add.ensures)))

pub returns-then-other-number-2 : goal.returns-then-other-number-2
returns-then-other-number-2 c =
    c.at.ensures
    ∙ sym (found c.args.numbers.now c.args.texts.now c.args.number c.loop-at.at c.min-end.result c.requires
    (omega (arith, c.min-end.ensures)) (omega (arith, c.loop-at-test.true)) (omega (arith, c.if-other-number-2.true)))
    ∙ c.loop-at.invariant

pub returns-then-other-number : goal.returns-then-other-number
returns-then-other-number c =
    sym (beyond c.args.numbers.now c.args.texts.now c.args.number c.loop-at.at c.min-end.result c.requires
    (omega (arith, c.min-end.ensures)) (omega (arith, c.loop-at-test.true)) (omega (arith, c.if-other-number.true, c.if-other-number-2.false)))
    ∙ c.loop-at.invariant

pub loop-at-preserved : goal.loop-at-preserved
loop-at-preserved c =
    let next : c.loop-at.at + 1 ≡ suc c.loop-at.at = omega arith in
    ap (λ (n : ℕ). text_under c.args.number (take (c.min-end.result - n) (drop n (numbered c.args.numbers.now c.args.texts.now)))) next
    ∙ sym (below c.args.numbers.now c.args.texts.now c.args.number c.loop-at.at c.min-end.result c.requires
    (omega (arith, c.min-end.ensures)) (omega (arith, c.loop-at-test.true)) (omega (arith, c.if-other-number.false)))
    ∙ c.loop-at.invariant
