-- Lines and columns by induction on the bytes before the place.
use Rattle.bst_lex.proofs.Placing.{columns_counted, lines_counted}
use Rattle.bst_lex.proofs.laws.places_counted.Goals as goal

pub returns : goal.returns
returns c = record {
  line = λ at. lines_counted c.args.source.now at;
  column = λ at front line e begins none. columns_counted c.args.source.now at front line e begins none;
}
