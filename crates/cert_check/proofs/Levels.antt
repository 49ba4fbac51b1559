-- What is safe for how many steps: bodies that are walked, and units that are used.
use Rattle.std.proofs.Common.{◌≡◌, ℕ, ◌<◌, ◌≤◌, slice_get, Some, arith}
use Rattle.bv_base.specs.declared.place.Place.{Place}
use Rattle.name_table.specs.declared.style.BodyId.{BodyId}
use Rattle.bst_meaning.specs.EntryLists.{EntryList}
use Rattle.bst_meaning.specs.declared.value.Target.{Target}
use Rattle.bst_meaning.specs.declared.value.Target.TheVariants.{Block}
use Rattle.bst_meaning.specs.Invariant.{IsWellFormed}
use Rattle.cert_format.specs.declared.cert.Loop.{Loop}
use Rattle.cert_check.specs.Safely.{loop_step}
use Rattle.cert_check.specs.Walks.{Enter, Scope, loop_used}
use Rattle.cert_check.proofs.Bodies.{EnterSafe}
use Rattle.cert_check.proofs.Entering.{OnwardSafe, UseSafe}
use Rattle.cert_check.proofs.Safety.{Start}

-- a loop of the certificate is used
abbrev pub LoopSafe : Scope → EntryList → ℕ → Type 0
LoopSafe scope list n = (k : ℕ) (one : Loop) (place at : Place) (s : Start scope list) → slice_get scope.cert.loops k ≡ Some one
    → IsWellFormed scope.style list (loop_step scope.style one at s.c)
    → OnwardSafe scope list n s.c.frames (loop_used scope place one) s (loop_step scope.style one at s.c)

-- every unit of the certificate is used safely
pub record UnitsSafe (scope : Scope) (list : EntryList) (n : ℕ) : Type 0 where
  pub uses : (target : Target) → UseSafe scope list n target
  pub loops : LoopSafe scope list n

-- bodies, blocks and loops for so many steps, and calls of names for fewer
pub record Levels (scope : Scope) (list : EntryList) (n : ℕ) (enter : Enter) : Type 0 where
  pub enters : (m : ℕ) → m ≤ n → EnterSafe scope list m enter
  pub blocks : (m : ℕ) → m ≤ n → (body : BodyId) → UseSafe scope list m (Block body)
  pub loops : (m : ℕ) → m ≤ n → LoopSafe scope list m
  pub uses : (m : ℕ) → m < n → (target : Target) → UseSafe scope list m target

pub lower_levels : (scope : Scope) (list : EntryList) (m n : ℕ) (enter : Enter) → m ≤ n → Levels scope list n enter → Levels scope list m enter
lower_levels scope list m n enter less levels = record {
  enters = λ k few. levels.enters k (omega (arith, less, few));
  blocks = λ k few. levels.blocks k (omega (arith, less, few));
  loops = λ k few. levels.loops k (omega (arith, less, few));
  uses = λ k few. levels.uses k (omega (arith, less, few));
}
