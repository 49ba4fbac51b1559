-- The stretch up to the next separator, or the last stretch, is taken and trimmed.
use Rattle.std.proofs.Common.{ℕ, ◌+◌, List, length, ◌∙◌, ap, refl}
use Rattle.bv_base.specs.Bytes.{is_white}
use Rattle.name_split.specs.Names.{Names}
use Rattle.name_split.specs.declared.spans.Span.{Span}
use Rattle.name_split.specs.Spans.{slice, trimmed}
use Rattle.name_split.proofs.Leaving.{trimmed_is, stretch_before, stretch_last, name_taken, last_taken}
use Rattle.name_split.proofs.names.NameList.next.Goals as goal

pub returns-in-Some-clause-name : goal.returns-in-Some-clause-name
returns-in-Some-clause-name c =
    let text : List ℕ = c.self.inside.text.now in
    let rest : List ℕ = c.split_at.result.1.now in
    let start : ℕ = c.self.inside.start in
    let at : ℕ = c.in-Some.at in
    let span : Span = record { start = start; end = start + at } in
    let stretch = stretch_before text rest c.split_at-in-Some.result.0.now start at c.split_at.ensures.back c.split_at-in-Some.ensures.front in (
      trimmed is_white text span,
      name_taken text rest c.self.inside.ended start at _ _ c.self.view_is c.if-self.false c.split_at.ensures.back
          (c.in-Some.ensures.separators start) refl,
      trimmed_is text c.split_at-in-Some.result.0.now c.trimmed.result.now span stretch c.trimmed.ensures
          ∙ ap (λ (v : Names). slice v.text (trimmed is_white text span)) c.self.view_is,
    )

pub returns-in-None-clause-name : goal.returns-in-None-clause-name
returns-in-None-clause-name c =
    let text : List ℕ = c.self.inside.text.now in
    let rest : List ℕ = c.split_at.result.1.now in
    let start : ℕ = c.self.inside.start in
    let span : Span = record { start = start; end = length text } in (
      trimmed is_white text span,
      last_taken text rest c.self.inside.ended start _ c.self.view_is c.if-self.false c.split_at.ensures.back
          (c.in-None.ensures.separators start),
      trimmed_is text rest c.trimmed-in-None.result.now span (stretch_last text rest start c.split_at.ensures.back) c.trimmed-in-None.ensures
          ∙ ap (λ (v : Names). slice v.text (trimmed is_white text span)) c.self.view_is,
    )
