-- Of the cases of a built-in function's test, one covers what the machine does.
use Rattle.std.proofs.Common.{◌≡◌, List, Some, Ok, subst}
use Rattle.name_table.specs.declared.builtin.Builtin.{Builtin}
use Rattle.name_table.specs.declared.builtin.Builtin.TheVariants as builtin
use Rattle.sym_state.specs.declared.hint.Hint.{Hint}
use Rattle.sym_state.specs.declared.test.Test.{Test}
use Rattle.sym_state.specs.declared.test.Test.TheVariants.{Empty, Missing, Equal, Less, Greater, Above}
use Rattle.sym_state.specs.Cases.{Cases, split_of}
use Rattle.sym_state.proofs.Spots.{Spot}
use Rattle.refinements.specs.Covered.{function_of}
use Rattle.refinements.proofs.Comparing.{equal_found, greater_found, less_found}
use Rattle.refinements.proofs.Taking.{Found}
use Rattle.refinements.proofs.Testing.{empty_found, missing_found}

pub test_found : (p : Spot) (test : Test) (op : Builtin) (hints : List Hint) (cases : Cases) → function_of test ≡ Some op
    → split_of p.admits p.state test hints ≡ Ok cases → Found p op cases
test_found p Empty op hints cases is e = let same : builtin.Empty ≡ op = cc in subst (λ (o : Builtin). Found p o cases) same (empty_found p hints cases e)
test_found p Missing op hints cases is e = let same : builtin.Missing ≡ op = cc in subst (λ (o : Builtin). Found p o cases) same (missing_found p hints cases e)
test_found p Equal op hints cases is e = let same : builtin.Equal ≡ op = cc in subst (λ (o : Builtin). Found p o cases) same (equal_found p hints cases e)
test_found p Less op hints cases is e = let same : builtin.Less ≡ op = cc in subst (λ (o : Builtin). Found p o cases) same (less_found p hints cases e)
test_found p Greater op hints cases is e = let same : builtin.Greater ≡ op = cc in subst (λ (o : Builtin). Found p o cases) same (greater_found p hints cases e)
test_found p (Above s) op hints cases is e = absurd (cc)
