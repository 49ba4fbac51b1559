use Rattle.std.proofs.Common.{◌≡◌, length}
use Rattle.name_split.specs.Parts.{is_high, is_tied, last_end}
use Rattle.name_split.proofs.Surveying.{cut_fold, low_fold}
use Rattle.name_split.proofs.survey.surveyed.Given as goal

abbrev pub invariant-loop-token : goal.invariant-loop-token
invariant-loop-token l = record {
  all : last_end l.last l.tokens ≡ last_end l.initial.last l.initial.tokens;
  low : low_fold l.first.start l.before l.low l.last l.tokens
      ≡ low_fold l.first.start l.initial.before l.initial.low l.initial.last l.initial.tokens;
  von : cut_fold is_high l.first.start l.von l.last l.tokens
      ≡ cut_fold is_high l.first.start l.initial.von l.initial.last l.initial.tokens;
  chain : cut_fold is_tied l.first.start l.chain l.last l.tokens
      ≡ cut_fold is_tied l.first.start l.initial.chain l.initial.last l.initial.tokens;
}

abbrev pub decreases-loop-token : goal.decreases-loop-token
decreases-loop-token l = length l.tokens
