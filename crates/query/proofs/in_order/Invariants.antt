use Prim.Native.Nat.{◌+◌, ◌-◌, ◌*◌, ◌/◌, ◌≤◌}
use mathlib.Core.Path.{◌≡◌}
use mathlib.Core.Bool.{true}
use mathlib.Core.List.{map}
use lib.ListN.{length, drop}
use Rattle.bits.specs.Packing.{unpack}
use Rattle.query.specs.Query.{parts, spares_zero, is_ascending}
use Rattle.query.proofs.in_order.Given as goal

abbrev pub invariant-loop : goal.invariant-loop
invariant-loop l = record {
  room : l.at + (length l.packed / l.w + 1 - l.counter) * l.w ≤ length l.packed;
  clear : spares_zero l.len (parts l.w (length l.packed / l.w + 1 - l.counter) (drop l.at l.packed)) ≡ true;
  left : is_ascending (map (unpack l.len) (parts l.w (length l.packed / l.w) l.packed))
      ≡ is_ascending (map (unpack l.len) (parts l.w (length l.packed / l.w + 1 - l.counter) (drop l.at l.packed)));
}
