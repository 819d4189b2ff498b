use Prim.Native.Nat.{◌-◌, ◌*◌, ◌/◌}
use mathlib.Core.Path.{◌≡◌}
use lib.ListN.{length}
use Rattle.shares.specs.ShareNumbers.{numbers, all_below}
use Rattle.query.proofs.Pieces.{numbers_at}
use Rattle.shares.proofs.all_below.Given as goal

abbrev pub invariant-loop-i : goal.invariant-loop-i
invariant-loop-i l = all_below (numbers l.share) ≡ all_below (numbers_at (length l.share / 8 - l.i) (8 * l.i) l.share)
