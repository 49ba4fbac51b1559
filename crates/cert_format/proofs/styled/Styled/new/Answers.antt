use Rattle.std.proofs.Common.{◌∙◌, ap, List}
use Rattle.std.specs.Prelude.{slice_get}
use Rattle.name_table.specs.declared.style.Body.{Body}
use Rattle.name_table.specs.declared.style.BodyId.{BodyId}
use Rattle.cert_format.specs.PieceItems.{blocks_of}
use Rattle.cert_format.proofs.Blocks.{block_of_number}
use Rattle.cert_format.proofs.styled.Styled.new.Goals as goal

pub invariant_of-result : goal.invariant_of-result
invariant_of-result c =
    λ number.
    ap (λ (l : List BodyId). slice_get l number) c.in_ok-blocks.ensures
    ∙ ap (λ (l : List Body). slice_get (blocks_of l) number) c.as_slice.ensures
    ∙ block_of_number c.args.style.now.bodies number c.requires.numbered
