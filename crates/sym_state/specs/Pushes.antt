-- The tokens that push a value, on a state (docs/STATES.md, "Tokens that push"): a literal is a new symbol with its exact fact, and a
-- variable or a field gives the symbol that is bound to it.
use Rattle.std.specs.Prelude.{ℕ, List, [], ◌∷◌, Option, None, Some}
use Rattle.std.specs.Option.{option_map, option_and_then}
use Rattle.name_table.specs.Sound.{block_of}
use Rattle.name_table.specs.declared.style.Style.{Style}
use Rattle.name_table.specs.declared.style.Token.{Token}
use Rattle.name_table.specs.declared.style.Token.TheVariants.{Int as IntToken, Str as StrToken, Quote, Block as BlockToken, Call}
use Rattle.bst_meaning.specs.StyleParts.{text_of}
use Rattle.sym_state.specs.declared.symbol.Fact.TheVariants.{Int as IntFact, Text as TextFact, Call as CallFact, Block as BlockFact}
use Rattle.sym_state.specs.declared.symbol.Kinds.TheVariants.{Int, Str, Func}
use Rattle.sym_state.specs.Changes.{bound}
use Rattle.sym_state.specs.Results.{next_of, with_result, with_top}
use Rattle.sym_state.specs.State.{State}

-- a block by its number, where it has one
abbrev pub block_pushed : Option ℕ → State → Option State
block_pushed None state = None
block_pushed (Some number) state = Some (with_result Func (BlockFact (next_of state) number ∷ []) [] state)

-- the state after a literal, or after the name of a variable or a field that the state binds; other tokens push nothing
abbrev pub pushed_by : Style → Token → State → Option State
pushed_by style (IntToken n) state = Some (with_result Int (IntFact (next_of state) n ∷ []) [] state)
pushed_by style (StrToken text) state = Some (with_result Str (TextFact (next_of state) (text_of style text) ∷ []) [] state)
pushed_by style (Quote name) state = Some (with_result Func (CallFact (next_of state) name ∷ []) [] state)
pushed_by style (BlockToken body) state = block_pushed (option_and_then (λ number. number) (block_of body style.bodies)) state
pushed_by style (Call name) state = option_map (λ s. with_top s state) (bound name state)
