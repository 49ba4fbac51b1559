use Rattle.name_table.proofs.Numbered.{one_place}
use Rattle.name_table.proofs.laws.one_body_a_number.Goals as goal

pub returns : goal.returns
returns c = λ style a b number sound first second. one_place 0 style.bodies a.0 b.0 number sound.numbered first second
