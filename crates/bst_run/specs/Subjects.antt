-- What the contracts of the commands speak of beside the commands' own rules: what is known of a style, a condition, a certificate and
-- the files of a run when it was read, and what reading, checking and searching come to (docs/COMMANDS.md).
pub use Rattle.name_table.specs.declared.style.Style.{Style}
pub use Rattle.bst_meaning.specs.EntryLists.{EntryList}
pub use Rattle.cert_format.specs.declared.cert.Cert.{Cert}
pub use Rattle.cert_check.specs.declared.refusal.Refusal.{Refusal}
pub use Rattle.aux_read.specs.FileNames.{AreFileNames, GivesFileNames, IsFileName}
pub use Rattle.bst_step.specs.Lines.{added, first, page_in}
pub use Rattle.bst_step.specs.Machine.{configuration, key_of, turn_of}
pub use Rattle.cert_format.specs.Texts.{cert_of, cond_of}
pub use Rattle.aux_read.specs.Keys.{HaveKeys}
pub use Rattle.bib_read.specs.Additions.{AreKeyed}
pub use Rattle.bib_read.specs.Reading.{database_of}
pub use Rattle.bst_meaning.specs.Condition.{Meets}
pub use Rattle.bst_meaning.specs.Config.{Config, Stopped}
pub use Rattle.bst_meaning.specs.Entries.{Fits}
pub use Rattle.bst_meaning.specs.Lines.{lines_of}
pub use Rattle.bst_meaning.specs.Machine.{steps}
pub use Rattle.bst_meaning.specs.Safe.{Safe}
pub use Rattle.bst_parse.specs.PlacesStand.{IsOfByte}
pub use Rattle.bst_parse.specs.Reading.{style_of}
pub use Rattle.bv_base.specs.Outside.{Listing}
pub use Rattle.bv_base.specs.Places.{StandsIn}
pub use Rattle.cert_check.specs.Certified.{IsCertified}
pub use Rattle.cert_format.specs.CertText.{IsCert}
pub use Rattle.cert_format.specs.CondText.{IsCond}
pub use Rattle.command_flow.specs.Checks.{checked}
pub use Rattle.cond_eval.specs.Unmet.{first_unmet}
pub use Rattle.entry_list.specs.Joining.{joined}
pub use Rattle.entry_list.specs.Keys.{AreCitations}
pub use Rattle.infer.specs.Infer.{infer_of}
pub use Rattle.name_table.specs.Sound.{IsSound}
