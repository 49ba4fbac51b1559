-- What surrounds a call of a built-in function, as the machine's definition has it.
use Rattle.bst_meaning.specs.Builtins.{Context}
use Rattle.bst_step.specs.declared.surroundings.Surroundings.{Surroundings}

-- what surrounds a call
abbrev pub context_in : Surroundings → Context
context_in around = record { style = around.style.now; preamble = around.preamble.now; entry = around.entry }
