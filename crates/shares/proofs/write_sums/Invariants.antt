use Prim.Native.Nat.{◌-◌, ◌*◌, ◌/◌}
use lib.ListN.{length}
use Rattle.shares.proofs.Sums.{Passed}
use Rattle.shares.proofs.write_sums.Given as goal

abbrev pub invariant-loop-i : goal.invariant-loop-i
invariant-loop-i l = Passed l.share0 l.share1 l.initial.out l.out (length l.share0 / 8 - l.i) (8 * l.i)
