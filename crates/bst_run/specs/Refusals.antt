-- Why a certificate isn't accepted, as a last line tells it (docs/CHECKER.md, "Refusals").
use Rattle.std.specs.Prelude.{ℕ, zero, suc, List, [], ◌++◌, codes, Option, None, Some}
use Rattle.std.specs.Fmt.{decimal}
use Rattle.sym_state.specs.declared.demand.DemandKind.{DemandKind}
use Rattle.sym_state.specs.declared.demand.DemandKind.TheVariants.{EmptyPop, WrongKind, NotVariable, NoEntry, BadCase, NotOneByte, NotAscii, BadNameIndex, BadName, BadPattern, IntRange, StackLeft, WholeStack}
use Rattle.cert_check.specs.declared.refusal.Reason.{Reason}
use Rattle.cert_check.specs.declared.refusal.Reason.TheVariants.{Demand, NotEntailed, NoSummary, NoInvariant, UnknownFunction, HintsLeft, HintsShort, TooManyCases, NoMemory, CommandShape, WalkTooLong, WalkTooDeep, WrongHint}

-- the name of a demand
abbrev pub demand_name : DemandKind → List ℕ
demand_name EmptyPop = codes "EmptyPop"
demand_name WrongKind = codes "WrongKind"
demand_name NotVariable = codes "NotVariable"
demand_name NoEntry = codes "NoEntry"
demand_name BadCase = codes "BadCase"
demand_name NotOneByte = codes "NotOneByte"
demand_name NotAscii = codes "NotAscii"
demand_name BadNameIndex = codes "BadNameIndex"
demand_name BadName = codes "BadName"
demand_name BadPattern = codes "BadPattern"
demand_name IntRange = codes "IntRange"
demand_name StackLeft = codes "StackLeft"
demand_name WholeStack = codes "WholeStack"

-- the name of a rule, which for a demand is the demand's
abbrev pub name_of : Reason → List ℕ
name_of (Demand demand) = demand_name demand.kind
name_of (NotEntailed line) = codes "NotEntailed"
name_of NoSummary = codes "NoSummary"
name_of NoInvariant = codes "NoInvariant"
name_of UnknownFunction = codes "UnknownFunction"
name_of HintsLeft = codes "HintsLeft"
name_of HintsShort = codes "HintsShort"
name_of TooManyCases = codes "TooManyCases"
name_of NoMemory = codes "NoMemory"
name_of CommandShape = codes "CommandShape"
name_of WalkTooLong = codes "WalkTooLong"
name_of WalkTooDeep = codes "WalkTooDeep"
name_of WrongHint = codes "WrongHint"

-- the operand that a demand is about, counted from 1 at the top of the stack; 0 stands for none
abbrev pub operand_of : ℕ → Option ℕ
operand_of zero = None
operand_of (suc operand) = Some (suc operand)

-- the number behind the name: the operand of a demand, and the line that isn't shown
abbrev pub number_of : Reason → Option ℕ
number_of (Demand demand) = operand_of demand.operand
number_of (NotEntailed line) = Some line
number_of _ = None

-- a number behind a name
abbrev pub number_text : Option ℕ → List ℕ
number_text None = []
number_text (Some number) = codes " " ++ decimal number

-- the name of a rule, and its number where it has one
abbrev pub reason_text : Reason → List ℕ
reason_text reason = name_of reason ++ number_text (number_of reason)
