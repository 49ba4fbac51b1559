-- A name that is UTF-8 is text.
use Rattle.std.proofs.Common.{ap, ◌∙◌}
use Rattle.std.proofs.lemmas.Str.{IsUtf8-from_is_utf8}
use Rattle.aux_read.specs.Items.{is_utf8}
use Rattle.bst_run.proofs.files.names.text_of.Goals as goal

pub unreachable-requires : goal.unreachable-requires
unreachable-requires c = c.in-Err.ensures.cases.0 (IsUtf8-from_is_utf8 _ (ap is_utf8 c.as_slice.ensures ∙ c.requires))
