-- The records of commands from one number on, upwards.
use Rattle.std.specs.Prelude.{◌≡◌, ℕ, nat_eq, nat_lt, ◌≤◌, true, find, List, Option}
use Rattle.std.specs.List.{All}
use Rattle.cert_format.specs.CondText.{is_chain}
use Rattle.cert_format.specs.declared.cert.CommandPart.{CommandPart}

-- the record of the command of a number
abbrev pub record_at : ℕ → List CommandPart → Option CommandPart
record_at index parts = find (λ part. nat_eq part.index index) parts

-- they are upwards by their numbers, of which none is below this one
pub record AreFrom (index : ℕ) (parts : List CommandPart) : Type 0 where
  pub behind : All (λ part. index ≤ part.index) parts
  pub rise : is_chain (λ a b. nat_lt a.index b.index) parts ≡ true
