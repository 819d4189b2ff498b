use mathlib.Core.Path.{◌≡◌}
use lib.ListN.{drop}
use Rattle.bits.specs.Packing.{bytes_before}
use Rattle.bits.proofs.before.Given as goal

abbrev pub invariant-loop-i : goal.invariant-loop-i
invariant-loop-i l = bytes_before l.a l.b ≡ bytes_before (drop l.i l.a) (drop l.i l.b)
