-- How far a walk has come (docs/CHECKER.md, "The walk"): a rule takes a course and gives one, or fails at a place with a reason.
use Rattle.std.specs.Prelude.{ℕ, ◌+◌, nat_le, nat_lt, if◌then◌else◌, List, [], ◌∷◌, ◌++◌, length, Option, None, Some, Result, Ok, Err}
use Rattle.bv_base.specs.Answers.{then_do}
use Rattle.bv_base.specs.declared.place.Place.{Place}
use Rattle.cert_format.specs.declared.cert.Loop.{Loop}
use Rattle.sym_state.specs.State.{State}
use Rattle.sym_state.specs.declared.demand.EffectFault.{EffectFault}
use Rattle.sym_state.specs.declared.demand.EffectFault.TheVariants as fault
use Rattle.sym_state.specs.declared.hint.Hint.{Hint}
use Rattle.straight_hints.specs.declared.finding.Finding.{Finding}
use Rattle.cert_check.specs.declared.limits.TheConstants.{MOST_CASES, MOST_COUNT}
use Rattle.cert_check.specs.declared.refusal.Reason.{Reason}
use Rattle.cert_check.specs.declared.refusal.Reason.TheVariants.{Demand, NotEntailed, HintsShort, TooManyCases, NoMemory, WalkTooLong, WrongHint}
use Rattle.cert_check.specs.declared.refusal.Refusal.{Refusal}

-- the states that the token in hand has given so far, the hints of the certificate that are left, and how much the unit's walk has
-- counted; where hints are found and not read, how that is done, those that were found so far, and the loops that were made, behind so
-- many that stay from walks before
pub record Course : Type 0 where
  pub given : List State
  pub hints : List Hint
  pub count : ℕ
  pub finding : Option Finding
  pub found : List Hint
  pub stay : ℕ
  pub loops : List Loop

-- the number of the first loop that is made for the token in hand
abbrev pub first_number : Course → ℕ
first_number course = course.stay + length course.loops

-- the course after a rule, or the first rule that fails
abbrev pub Walk : Type 0
Walk = Result Course Refusal

-- a rule fails at a place
abbrev pub refuses : {X : Type 0} → Place → Reason → Result X Refusal
refuses place reason = Err (record { place = place; reason = reason })

-- why a rule on states fails
abbrev pub reason_of : EffectFault → Reason
reason_of (fault.Demand demand) = Demand demand
reason_of (fault.NotEntailed line) = NotEntailed line
reason_of fault.HintsShort = HintsShort
reason_of fault.WrongHint = WrongHint
reason_of fault.NoMemory = NoMemory

-- what a rule on states gives, where it is taken at a place
abbrev pub placed : {X : Type 0} → Place → Result X EffectFault → Result X Refusal
placed place (Ok x) = Ok x
placed place (Err fault) = refuses place (reason_of fault)

-- the walk counts
abbrev pub counts : ℕ → Place → Course → Walk
counts n place course =
    if nat_le (course.count + n) MOST_COUNT then Ok (record course { count = course.count + n }) else refuses place WalkTooLong

-- the token in hand gives one state more
abbrev pub gives : Place → State → Course → Walk
gives place state course =
    if nat_lt (length course.given) MOST_CASES then Ok (record course { given = course.given ++ state ∷ [] }) else refuses place TooManyCases

-- it gives these states, one after the other
abbrev pub gives_all : Place → List State → Course → Walk
gives_all place [] course = Ok course
gives_all place (state ∷ states) course = then_do (gives place state course) (gives_all place states)

-- the hints that a rule is handed: those that are left, or those that are found for it
abbrev pub handed : Option Finding → List Hint → (Finding → List Hint) → List Hint
handed None left find = left
handed (Some finding) left find = find finding

-- those of the certificate that are left behind a rule: all of them where hints are found
abbrev pub left_behind : Option Finding → List Hint → List Hint → List Hint
left_behind None before after = after
left_behind (Some finding) before after = before

-- those that were found, with those that a rule was handed
abbrev pub found_with : Option Finding → List Hint → List Hint → List Hint
found_with None found hints = found
found_with (Some finding) found hints = found ++ hints

-- the course behind a rule that was handed hints and left some
abbrev pub behind : List Hint → List Hint → Course → Course
behind hints after course = record course {
  hints = left_behind course.finding course.hints after;
  found = found_with course.finding course.found hints;
}
