-- What is entered where a rule is taken (docs/CHECKER.md, "The walk").
use Rattle.std.specs.Prelude.{Option}
use Rattle.cert_check.specs.Walks.{Call, Enter, Make, Onward, Scope, body_walked, chosen_in, name_entered, scope_of}
use Rattle.cert_check.specs.declared.at.At.{At}

-- where the walk is
abbrev pub here : {M : Type 0} → (M → Option Make) → At M → Scope
here made at = scope_of at.scope.now (made at.maker.now)

-- how a body is walked that a token enters here
abbrev pub inside : {M : Type 0} → (M → Option Make) → At M → Enter
inside made at = body_walked (here made at) at.more

-- how `if$` goes on here
abbrev pub choosing : {M : Type 0} → (M → Option Make) → At M → Onward
choosing made at = chosen_in (here made at) (inside made at) at.place

-- how a name is entered that is known here
abbrev pub entering : {M : Type 0} → (M → Option Make) → At M → Call
entering made at = name_entered (here made at) (inside made at) (choosing made at) at.place
