-- Why no certificate is found, as a last line tells it (docs/COMMANDS.md, "A certificate that is found").
use Rattle.std.specs.Prelude.{ℕ, List, ◌++◌, codes, Option, None}
use Rattle.infer.specs.declared.unknown.UnknownReason.{UnknownReason}
use Rattle.infer.specs.declared.unknown.UnknownReason.TheVariants.{Demand, Loop, TooManyCases, WalkTooLong, WalkTooDeep, UnknownFunction, Rejected, NoMemory}
use Rattle.bst_run.specs.Refusals.{demand_name, number_text, operand_of}

-- the name of a reason, which for a demand is the demand's
abbrev pub name_of : UnknownReason → List ℕ
name_of (Demand demand) = demand_name demand.kind
name_of Loop = codes "Loop"
name_of TooManyCases = codes "TooManyCases"
name_of WalkTooLong = codes "WalkTooLong"
name_of WalkTooDeep = codes "WalkTooDeep"
name_of UnknownFunction = codes "UnknownFunction"
name_of Rejected = codes "Rejected"
name_of NoMemory = codes "NoMemory"

-- the number behind the name: the operand of a demand
abbrev pub number_of : UnknownReason → Option ℕ
number_of (Demand demand) = operand_of demand.operand
number_of _ = None

-- the name of a reason, and its number where it has one
abbrev pub reason_text : UnknownReason → List ℕ
reason_text reason = name_of reason ++ number_text (number_of reason)
