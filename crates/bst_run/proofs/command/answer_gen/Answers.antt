use Rattle.bst_run.proofs.CommandLemmas.{gen_told}
use Rattle.bst_run.proofs.command.answer_gen.Goals as goal

pub returns : goal.returns
returns c = record {
  answer =
      gen_told c.args.seed c.args.count c.make_and_show.result c.told.result c.make_and_show.ensures.decides
      c.make_and_show.ensures.decided c.make_and_show.ensures.safe c.make_and_show.ensures.inside (rw c.made.ensures at c.told.ensures);
}
