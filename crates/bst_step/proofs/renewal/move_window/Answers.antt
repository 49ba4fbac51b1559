-- The bytes of the window are gathered, those of the one list before those of the other.
use Rattle.std.proofs.Common.{◌++◌, ◌∙◌, List, ℕ, ap}
use Rattle.bst_step.specs.Settled.{first_behind, values_bytes}
use Rattle.bst_step.proofs.renewal.move_window.Goals as goal

pub put_window-requires-clause-gathered : goal.put_window-requires-clause-gathered
put_window-requires-clause-gathered c = record {
  until = c.requires.until;
  globals_within = c.requires.globals;
  own_within = c.requires.own;
  parted = c.requires.parted;
  bytes =
      c.as_slice-3.ensures.value
      ∙ c.in_ok-next-2.ensures.moved
      ∙ ap (λ (l : List ℕ). l ++ values_bytes c.args.window c.as_slice-2.result.now c.args.own.now)
      (c.in_ok-next.ensures.moved
      ∙ ap (λ (l : List ℕ). l ++ values_bytes c.args.window c.as_slice.result.now c.args.globals.now) c.clear.ensures.items
      ∙ ap (λ (l : List ℕ). values_bytes c.args.window l c.args.globals.now) c.as_slice.ensures.value)
      ∙ ap (λ (l : List ℕ). values_bytes c.args.window c.args.pool.now.items c.args.globals.now ++ values_bytes c.args.window l c.args.own.now)
      c.as_slice-2.ensures.value;
  first = c.in_ok-next-2.ensures.next ∙ ap (λ (n : ℕ). first_behind c.args.window.until n c.args.own.now) c.in_ok-next.ensures.next;
}
