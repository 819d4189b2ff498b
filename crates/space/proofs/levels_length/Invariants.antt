use Rattle.std.proofs.Common.{◌≡◌, ◌+◌, ◌-◌, ◌*◌, ◌≤◌}
use Rattle.tree.specs.Space.{space_from}
use Rattle.space.proofs.Levels.{keepable}
use Rattle.space.proofs.levels_length.Given as goal

abbrev pub invariant-loop-k : goal.invariant-loop-k
invariant-loop-k l = record {
  few : l.kept ≤ l.most;
  kept : l.kept ≡ keepable l.most l.k;
  sum : l.space + space_from l.most (l.n - l.k) l.k ≡ space_from l.most (l.n - 1) 1;
  bound : l.space ≤ 5242806 * (l.k - 1);
}
