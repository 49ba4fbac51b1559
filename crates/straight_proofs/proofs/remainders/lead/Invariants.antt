-- The highest term of the parts that are left and of those before is the highest of all.
use Rattle.std.proofs.Common.{◌≡◌, drop, None}
use Rattle.std.specs.List.{fold}
use Rattle.lin_facts.specs.Rows.{coefficient_of}
use Rattle.straight_proofs.specs.Remainders.{counted_in}
use Rattle.straight_proofs.proofs.remainders.lead.Given as goal

abbrev pub invariant-loop-part : goal.invariant-loop-part
invariant-loop-part l =
    fold (λ highest part. counted_in (coefficient_of l.parts part.term) part.term highest) l.highest (drop l.part-index l.parts)
    ≡ fold (λ highest part. counted_in (coefficient_of l.parts part.term) part.term highest) None l.parts
