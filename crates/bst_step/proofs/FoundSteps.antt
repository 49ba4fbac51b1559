-- A value that may not be there is pushed, or its absence is a fault.
use Rattle.std.proofs.Common.{◌≡◌, true, false, Option, None, Some, is_some, refl}
use Rattle.bv_base.specs.declared.place.Place.{Place}
use Rattle.bst_meaning.specs.declared.fault.Fault.TheVariants.{NoEntry}
use Rattle.bst_meaning.specs.declared.value.Value.{Value}
use Rattle.bst_meaning.specs.Config.{Config}
use Rattle.bst_meaning.specs.Machine.{stopped_by, with_found}
use Rattle.bst_step.specs.Moves.{with_stack}
use Rattle.bst_step.specs.Values.{with_pushed}

pub found_pushed : (o : Option Value) (place : Place) (c : Config) → is_some o ≡ true
    → with_stack (with_pushed o c.stack) c ≡ with_found o place c
found_pushed None place c e = absurd (cc)
found_pushed (Some value) place c e = refl

pub found_stopped : (o : Option Value) (place : Place) (c : Config) → is_some o ≡ false
    → stopped_by NoEntry place (with_stack (with_pushed o c.stack) c) ≡ with_found o place c
found_stopped None place c e = refl
found_stopped (Some value) place c e = absurd (cc)
