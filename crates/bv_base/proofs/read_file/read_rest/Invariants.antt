-- What was left at the start is what was read, and then what is left.
use Rattle.std.proofs.Common.{◌≡◌, ◌+◌, ◌≤◌, ◌++◌, IfSome, ◌-◌, vec_len}
use Rattle.bv_base.proofs.read_file.read_rest.Given as goal

abbrev pub invariant-loop-buffer : goal.invariant-loop-buffer
invariant-loop-buffer g l = record {
  told : g.F.Files.told l.files ≡ g.F.Files.told l.initial.files;
  begun : g.F.Files.begun l.files ≡ g.F.Files.begun l.initial.files;
  count : g.F.Files.faults l.initial.files ≤ g.F.Files.faults l.files;
  read : IfSome (g.F.Files.told l.initial.files) (λ _. g.F.Files.rest l.initial.files ≡ l.bytes.items ++ g.F.Files.rest l.files);
  limit : l.most ≡ l.limit;
  within : vec_len l.bytes ≤ l.limit + 1;
}

abbrev pub decreases-loop-buffer : goal.decreases-loop-buffer
decreases-loop-buffer g l = l.limit + 1 - vec_len l.bytes
