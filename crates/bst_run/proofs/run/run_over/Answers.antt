use Rattle.std.proofs.Common.{◌∙◌}
use Rattle.bst_run.proofs.RunLemmas.{asked_over}
use Rattle.bst_run.proofs.run.run_over.Goals as goal

pub returns : goal.returns
returns c =
    c.asked.ensures ∙ asked_over c.args.steps c.args.sources c.in_ok-style.style c.in_ok-style.reading c.in_ok-style.found c.from_vec.result
    c.in_ok-style.ensures.style c.in_ok-style.ensures.found c.in_ok-style.ensures.reading (c.from_vec.ensures ∙ c.new.ensures.items)
