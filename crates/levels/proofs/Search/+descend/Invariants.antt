-- `Search::descend` meets its contract. The measure is how many levels are left.
use Prim.Native.Nat.{◌+◌, ◌-◌}
use Rattle.levels.proofs.Search.+descend.Given as goal

abbrev pub decreases-descend : goal.decreases-descend
decreases-descend l = l.self.now.last + 1 - l.k
