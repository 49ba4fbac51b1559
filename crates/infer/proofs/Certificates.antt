-- The certificate that is found keeps the limits and the canonical form and is one of the style, as is the bare one that it begins with.
use Rattle.std.proofs.Common.{◌≡◌, ◌≤◌, true, nat_lt, List, [], ◌∷◌, length, Option, None, IfSome, lit≤, refl, sym, ap, subst, ◌∙◌, arith}
use Rattle.std.specs.List.{All}
use Rattle.std.proofs.lemmas.List.Elements.{All-nil}
use Rattle.bv_base.specs.declared.limits.TheConstants.{STYLE_BYTES}
use Rattle.name_table.specs.Sound.{Each, IsSound}
use Rattle.name_table.specs.declared.style.Style.{Style}
use Rattle.bst_meaning.specs.declared.condition.Cond.{Cond}
use Rattle.cert_format.specs.CertText.{IsCert, IsCommandPart, IsLoop}
use Rattle.cert_format.specs.CondText.{IsCond, is_chain}
use Rattle.cert_format.specs.declared.cert.Cert.{Cert}
use Rattle.cert_format.specs.declared.cert.CommandPart.{CommandPart}
use Rattle.cert_format.specs.declared.cert.Loop.{Loop}
use Rattle.sym_state.specs.declared.piece.Piece.{Piece}
use Rattle.cert_check.specs.Certified.{IsCertified, IsCommandOf, IsLoopOf}
use Rattle.cert_check.specs.declared.limits.TheConstants.{MOST_LOOPS}
use Rattle.cert_check.proofs.Certifying.{cond_limits, hints_few}
use Rattle.cert_check.proofs.ReadPieces.{each_all}
use Rattle.command_flow.specs.Finding.{AreRecords, IsRecord}
use Rattle.infer.specs.Infer.{bare}

-- the bare certificate of a condition is one of the style, with loops and records of it
pub certified_with : (style : Style) (admits : Cond) (loops : List Loop) (parts : List CommandPart) → IsCond style.names admits → All (IsLoopOf style) loops
    → All (IsCommandOf style) parts → is_chain (λ a b. nat_lt a.index b.index) parts ≡ true
    → IsCertified style (record (bare admits) { loops = loops; commands = parts })
certified_with style admits loops parts is of_style commands rise =
    let limits = cond_limits style admits is in
    record {
      limits = limits.0;
      fields = limits.1;
      summaries = All-nil _;
      few_summaries = omega arith;
      loops = of_style;
      commands = commands;
      rise = rise;
    }

pub bare_certified : (style : Style) (admits : Cond) → IsCond style.names admits → IsCertified style (bare admits)
bare_certified style admits is = certified_with style admits [] [] is (All-nil _) (All-nil _) refl

-- a piece that isn't there
no_piece : (P : Piece → Type 0) (piece : Option Piece) → piece ≡ None → IfSome piece P
no_piece P piece none = subst (λ (o : Option Piece). IfSome o P) (sym none) tt

-- the record of a command has a text
record_written : (style : Style) (part : CommandPart) → length style.commands ≤ STYLE_BYTES → IsRecord style part → IsCommandPart style part
record_written style part few is =
    let there = is.there in
    record {
      there = there;
      small = omega (arith, there, few);
      after = no_piece _ part.after is.after;
      visit = no_piece _ part.visit is.visit;
      keeps = no_piece _ part.keeps is.keeps;
      hints = is.hints;
    }

-- and so have records
records_written : (style : Style) (parts : List CommandPart) → length style.commands ≤ STYLE_BYTES → Each (IsRecord style) parts → Each (IsCommandPart style) parts
records_written style [] few are = tt
records_written style (part ∷ parts) few are = (record_written style part few are.0, records_written style parts few are.1)

-- the bare certificate has a text, with loops and records that have one
pub written_with : (style : Style) (admits : Cond) (loops : List Loop) (parts : List CommandPart) → IsCond style.names admits → Each (IsLoop style) loops
    → length loops ≤ MOST_LOOPS → Each (IsCommandPart style) parts → is_chain (λ a b. nat_lt a.index b.index) parts ≡ true
    → IsCert style (record (bare admits) { loops = loops; commands = parts })
written_with style admits loops parts is written few commands rise = record {
  list = (lit≤ tt, lit≤ tt);
  cond = is;
  summaries = tt;
  few_summaries = omega arith;
  loops = written;
  few_loops = few;
  commands = commands;
  rise = rise;
}

found_written : (style : Style) (admits : Cond) (parts : List CommandPart) → IsSound style → IsCond style.names admits → AreRecords style parts
    → IsCert style (record (bare admits) { commands = parts })
found_written style admits parts sound is are =
    written_with style admits [] parts is tt (omega arith) (records_written style parts sound.few_commands are.each) are.rise

-- and so does one that begins as the bare one
pub written_as : (style : Style) (admits : Cond) (begun : Cert) (parts commands : List CommandPart) → IsSound style → IsCond style.names admits
    → begun ≡ bare admits → commands ≡ parts → AreRecords style parts → IsCert style (record begun { commands = commands })
written_as style admits begun parts commands sound is one two are =
    subst (IsCert style)
    (sym (ap (λ (c : Cert). record c { commands = commands }) one ∙ ap (λ (l : List CommandPart). record (bare admits) { commands = l }) two))
    (found_written style admits parts sound is are)

-- the record of a command is one of the style
record_certified : (style : Style) (part : CommandPart) → IsRecord style part → IsCommandOf style part
record_certified style part is = record {
  there = is.there;
  after = no_piece _ part.after is.after;
  after_pos = no_piece _ part.after is.after;
  visit = no_piece _ part.visit is.visit;
  moves = no_piece _ part.visit is.visit;
  keeps = no_piece _ part.keeps is.keeps;
  keeps_pos = no_piece _ part.keeps is.keeps;
  hints = hints_few part.hints is.hints;
}

-- the bare certificate with records is one of the style
found_certified : (style : Style) (admits : Cond) (parts : List CommandPart) → IsCond style.names admits → AreRecords style parts
    → IsCertified style (record (bare admits) { commands = parts })
found_certified style admits parts is are =
    certified_with style admits [] parts is (All-nil _) (each_all (IsRecord style) (IsCommandOf style) (record_certified style) parts are.each) are.rise

-- and so is one that begins as the bare one
pub certified_as : (style : Style) (admits : Cond) (begun : Cert) (parts commands : List CommandPart) → IsCond style.names admits
    → begun ≡ bare admits → commands ≡ parts → AreRecords style parts → IsCertified style (record begun { commands = commands })
certified_as style admits begun parts commands is one two are =
    subst (IsCertified style)
    (sym (ap (λ (c : Cert). record c { commands = commands }) one ∙ ap (λ (l : List CommandPart). record (bare admits) { commands = l }) two))
    (found_certified style admits parts is are)
