-- The certificate with what was made for commands has a text, and is one of its style.
use Rattle.std.proofs.Common.{ℕ, List, [], ◌∷◌}
use Rattle.std.specs.List.{All}
use Rattle.std.proofs.lemmas.List.Elements.{All-head, All-tail, All-weaker}
use Rattle.name_table.specs.Sound.{Each}
use Rattle.name_table.specs.declared.style.Style.{Style}
use Rattle.bst_meaning.specs.declared.condition.Cond.{Cond}
use Rattle.cert_format.specs.CertText.{IsCert, IsLoop}
use Rattle.cert_format.specs.CondText.{IsCond}
use Rattle.cert_format.specs.declared.cert.Loop.{Loop}
use Rattle.cert_check.specs.Certified.{IsCertified, IsLoopOf, IsStanding}
use Rattle.command_flow.specs.Templates.{AreMadeBefore, CanLast}
use Rattle.command_flow.specs.declared.templates.Made.{Made}
use Rattle.infer.specs.Infer.{bare}
use Rattle.infer.proofs.Certificates.{certified_with, written_with}

-- loops that stand in a certificate have a text
loops_stand : (style : Style) (loops : List Loop) → All (IsStanding style) loops → Each (IsLoop style) loops
loops_stand style [] all = tt
loops_stand style (one ∷ loops) all = ((All-head (IsStanding style) one loops all).stands, loops_stand style loops (All-tail (IsStanding style) one loops all))

-- the certificate has a text
pub made_written : (style : Style) (admits : Cond) (n : ℕ) (made : Made) → IsCond style.names admits → AreMadeBefore style n made.parts
    → CanLast style made.lasting → IsCert style (record (bare admits) { loops = made.lasting.loops; commands = made.parts })
made_written style admits n made is are last =
    written_with style admits made.lasting.loops made.parts is (loops_stand style made.lasting.loops last.loops) last.few are.each are.rise

-- it is one of the style
pub made_of_style : (style : Style) (admits : Cond) (n : ℕ) (made : Made) → IsCond style.names admits → AreMadeBefore style n made.parts
    → CanLast style made.lasting → IsCertified style (record (bare admits) { loops = made.lasting.loops; commands = made.parts })
made_of_style style admits n made is are last =
    certified_with style admits made.lasting.loops made.parts is
    (All-weaker (IsStanding style) (IsLoopOf style) (λ one is. is.of_style) made.lasting.loops last.loops) are.of_style are.rise
