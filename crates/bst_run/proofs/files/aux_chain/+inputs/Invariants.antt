use Rattle.std.proofs.Common.{◌≡◌, ◌+◌, ◌*◌, ◌≤◌}
use Rattle.std.specs.Vec.Iter.{into_iter_items}
use Rattle.aux_read.specs.FileNames.{HaveFileNames}
use Rattle.aux_read.specs.Keys.{HaveKeys}
use Rattle.entry_list.specs.Keys.{AreCitations}
use Rattle.bst_run.specs.AuxChain.{take_input, with_names}
use Rattle.bst_run.specs.FileNames.{NamesFiles}
use Rattle.bst_run.specs.FilesBegun.{input_begun, items_begun}
use Rattle.bst_run.proofs.BegunLemmas.{AreSoFar}
use Rattle.bst_run.proofs.ChainLemmas.{AreLeft}
use Rattle.bst_run.proofs.files.aux_chain.+inputs.Given as goal

abbrev pub decreases-take_aux : goal.decreases-take_aux
decreases-take_aux g l = 2 * l.levels + 1

abbrev pub decreases-take_input : goal.decreases-take_input
decreases-take_input g l = 2 * l.levels

-- what is left of the items, after what was asked for so far, asks for what all of them do
abbrev pub invariant-take_aux-loop-item : goal.invariant-take_aux-loop-item
invariant-take_aux-loop-item g l = record {
  told : g.F.Files.told l.files ≡ g.F.Files.told l.initial.files;
  count : g.F.Files.faults l.initial.files ≤ g.F.Files.faults l.files;
  left : AreLeft (g.F.Files.told l.initial.files) l.levels l.fn.before l.fn.aux (into_iter_items l.item-iterator) l.requests;
  begun : AreSoFar (g.F.Files.told l.initial.files)
      (λ t. items_begun (take_input l.levels t) (input_begun l.levels t) l.fn.aux.items (with_names l.fn.aux l.fn.before))
      (λ t. items_begun (take_input l.levels t) (input_begun l.levels t) (into_iter_items l.item-iterator) l.requests)
      (g.F.Files.begun l.initial.files) (g.F.Files.begun l.files);
  cited : AreCitations l.requests.items;
  keys : HaveKeys (into_iter_items l.item-iterator);
  named : NamesFiles l.requests;
  inputs : HaveFileNames (into_iter_items l.item-iterator);
}
