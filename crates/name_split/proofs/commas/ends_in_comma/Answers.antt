-- Where every byte is a joint no comma stands at the end.
use Rattle.std.proofs.Common.{refl, arith}
use Rattle.std.specs.List.{list_all}
use Rattle.name_split.specs.Tokens.{is_joint}
use Rattle.name_split.proofs.Counting.{end_begun}
use Rattle.name_split.proofs.commas.ends_in_comma.Goals as goal

pub loop-b-init : goal.loop-b-init
loop-b-init c = record { low = omega arith; same = end_begun (list_all is_joint c.args.name.now) c.args.name.now refl }
