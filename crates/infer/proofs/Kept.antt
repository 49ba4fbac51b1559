-- A certificate that is found keeps the condition, has a text and is one of the style.
use Rattle.std.proofs.Common.{◌≡◌, ℕ, List, refl, sym, ap, subst, ◌∙◌}
use Rattle.name_table.specs.Sound.{IsSound}
use Rattle.name_table.specs.declared.style.Style.{Style}
use Rattle.cert_format.specs.CertText.{IsCert}
use Rattle.cert_format.specs.CondText.{IsCond}
use Rattle.cert_format.specs.declared.cert.Cert.{Cert}
use Rattle.cert_format.specs.declared.cert.CommandPart.{CommandPart}
use Rattle.cert_check.specs.Certified.{IsCertified}
use Rattle.command_flow.specs.Finding.{AreRecords}
use Rattle.command_flow.specs.Templates.{AreMadeBefore, CanLast}
use Rattle.command_flow.specs.declared.templates.Made.{Made}
use Rattle.infer.specs.Infer.{Keeps, bare}
use Rattle.infer.proofs.Certificates.{certified_as, written_as}
use Rattle.infer.proofs.MadeCertificates.{made_of_style, made_written}

-- one with the records that are found
pub parts_kept : (style : Style) (begun made : Cert) (parts : List CommandPart) → IsSound style → IsCond style.names begun.cond → begun ≡ bare begun.cond
    → made ≡ record begun { commands = parts } → AreRecords style parts → Keeps style begun.cond made
parts_kept style begun made parts sound is_cond is_bare put are = record {
  kept = ap (λ (c : Cert). c.cond) put;
  written = subst (IsCert style) (sym put) (written_as style begun.cond begun parts parts sound is_cond is_bare refl are);
  certified = subst (IsCertified style) (sym put) (certified_as style begun.cond begun parts parts is_cond is_bare refl are);
}

-- one with what is made for commands
pub made_kept : (style : Style) (begun made : Cert) (n : ℕ) (found : Made) → IsCond style.names begun.cond → begun ≡ bare begun.cond
    → made ≡ record begun { loops = found.lasting.loops; commands = found.parts } → AreMadeBefore style n found.parts → CanLast style found.lasting
    → Keeps style begun.cond made
made_kept style begun made n found is_cond is_bare put are last =
    let same = put ∙ ap (λ (c : Cert). record c { loops = found.lasting.loops; commands = found.parts }) is_bare in
    record {
      kept = ap (λ (c : Cert). c.cond) put;
      written = subst (IsCert style) (sym same) (made_written style begun.cond n found is_cond are last);
      certified = subst (IsCertified style) (sym same) (made_of_style style begun.cond n found is_cond are last);
    }
