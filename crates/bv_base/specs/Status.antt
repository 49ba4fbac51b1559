-- The exit status of each answer (docs/COMMANDS.md, "Statuses").
use Rattle.std.specs.Prelude.{ℕ}
use Rattle.bv_base.specs.declared.status.Status.{Status}
use Rattle.bv_base.specs.declared.status.Status.TheVariants.{Done, Refused, Usage, NoFile, ReadFailed, WriteFailed, NoMemory, BadStyle, BadCert, BadData, Fault, Budget, TooLong, Unknown}

-- the number with which the program ends
abbrev pub number_of : Status → ℕ
number_of Done = 0
number_of Refused = 1
number_of Usage = 2
number_of NoFile = 3
number_of ReadFailed = 4
number_of WriteFailed = 5
number_of NoMemory = 6
number_of BadStyle = 7
number_of BadCert = 8
number_of BadData = 9
number_of Fault = 10
number_of Budget = 11
number_of TooLong = 12
number_of Unknown = 13
