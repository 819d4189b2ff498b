use Prim.Native.Nat.{◌-◌, ◌*◌}
use mathlib.Core.Path.{◌≡◌}
use mathlib.Core.Bool.{true}
use mathlib.Core.List.{◌++◌}
use lib.ListN.{length, take, drop}
use Rattle.exam_text.specs.Reader.{are_hex, bytes_read}
use Rattle.exam_reading.proofs.parts.read_seed.Given as goal

abbrev pub invariant-loop-i : goal.invariant-loop-i
invariant-loop-i l =
    (length l.seed ≡ 16)
    × (are_hex (take (32 - 2 * l.i) (drop (2 * l.i) l.digits)) ≡ true)
    × (take l.i l.seed ++ bytes_read (take (32 - 2 * l.i) (drop (2 * l.i) l.digits)) ≡ bytes_read l.digits)
