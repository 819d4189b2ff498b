use Prim.Native.Nat.{◌+◌, ◌-◌, ◌*◌, ◌^◌}
use mathlib.Core.Path.{◌≡◌}
use lib.ListN.{drop}
use Rattle.bits.specs.Packing.{value}
use Rattle.exam_text.specs.Reader.{bits_read}
use Rattle.exam_reading.proofs.parts.byte_read.Given as goal

abbrev pub invariant-loop-k : goal.invariant-loop-k
invariant-loop-k l =
    l.x * 2 ^ (l.from + 8 - l.k) + value (l.from + 8 - l.k) (drop l.k (bits_read l.digits)) ≡ value 8 (drop l.from (bits_read l.digits))
