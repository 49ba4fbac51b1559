use Rattle.std.proofs.Common.{◌≡◌, ◌+◌, ◌∙◌, ap, sym, Some, ◌∷◌, [], ◌++◌, take}
use Rattle.std.specs.Prelude.{slice_get}
use Rattle.bib_read.proofs.Tables.{one, take_next}
use Rattle.bib_read.proofs.macros.Macros.to_seq.Goals as goal

pub loop-i-preserved : goal.loop-i-preserved
loop-i-preserved c =
    let i = c.loop-i.i in
    let all = c.args.self.now in
    let entries = c.self.inside.table.entries in
    let name = c.in-Some.name.now in
    let value = c.in-Some.value.now in
    let got : slice_get entries i ≡ Some (name, value) = sym c.in-Some.ensures.entry in
    c.in_ok-push.ensures.ok
    ∙ ap (λ l. l ++ one c.in_ok-from_slice.field-0 c.in_ok-from_slice-2.field-0 ∷ []) c.loop-i.invariant
    ∙ ap (λ n. take i all ++ one n c.in_ok-from_slice-2.field-0 ∷ [])
    (c.in_ok-from_slice.ensures ∙ c.as_slice.ensures.value)
    ∙ ap (λ v. take i all ++ one name.items v ∷ [])
    (c.in_ok-from_slice-2.ensures ∙ c.as_slice-in-loop-i.ensures.value)
    ∙ ap (λ ms. take i ms ++ one name.items value.items ∷ []) (sym c.self.view_is)
    ∙ sym (take_next entries i (name, value) got)
    ∙ ap (take (i + 1)) c.self.view_is
