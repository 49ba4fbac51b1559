-- What a call gives, beside what a definition says (docs/EFFECTS.md, "Cases").
use Rattle.std.specs.Prelude.{◌≡◌, Bool, true, false, List, ◌++◌, Option, Result, Ok, MatchResult}
use Rattle.std.specs.Option.{option_to_list}
use Rattle.std.specs.Global.{Vec}
use Rattle.bv_base.specs.Answers.{Refuses}
use Rattle.sym_state.specs.declared.demand.EffectFault.{EffectFault}
use Rattle.sym_state.specs.declared.demand.EffectFault.TheVariants.{NoMemory}
use Rattle.sym_state.specs.declared.hint.Hint.{Hint}
use Rattle.sym_state.specs.State.{State}
use Rattle.sym_state.specs.Cases.{Labelled, Split, given, with_label}

-- the states that are given, with the hints that are left, are what a definition says; want of memory is free
abbrev pub Gives : Result (Vec State) EffectFault → List Hint → Split → Type 0
Gives result left wanted = MatchResult result (λ states. wanted ≡ given states.items left) (Refuses NoMemory wanted)

-- the states with their labels that are given, with the hints that are left, are what a definition says
abbrev pub GivesLabelled : Result (Vec (Bool × State)) EffectFault → List Hint → Result Labelled EffectFault → Type 0
GivesLabelled result left wanted = MatchResult result (λ cases. wanted ≡ Ok (record { cases = cases.items; hints = left })) (Refuses NoMemory wanted)

-- a state of each label at most is given, with the hints that are left, as a definition says
abbrev pub GivesTwo : Result (Option State × Option State) EffectFault → List Hint → Result Labelled EffectFault → Type 0
GivesTwo result left wanted = MatchResult result
    (λ two. wanted ≡ Ok (record { cases = with_label true (option_to_list two.0) ++ with_label false (option_to_list two.1); hints = left }))
    (Refuses NoMemory wanted)

-- a state at most is given, with the hints that are left, as a definition says
abbrev pub GivesOne : Result (Option State) EffectFault → List Hint → Split → Type 0
GivesOne result left wanted = MatchResult result (λ found. wanted ≡ given (option_to_list found) left) (Refuses NoMemory wanted)
