use Prim.Native.Nat.{◌+◌, ◌-◌, ◌*◌, ◌/◌, ◌≤◌}
use mathlib.Core.Path.{◌≡◌}
use lib.ListN.{length, drop}
use Rattle.query.specs.Query.{parts, spares_zero}
use Rattle.query.proofs.spares_zero.Given as goal

abbrev pub invariant-loop : goal.invariant-loop
invariant-loop l = record {
  room : l.at + (length l.packed / l.w - l.counter) * l.w ≤ length l.packed;
  left : spares_zero l.len (parts l.w (length l.packed / l.w) l.packed) ≡ spares_zero l.len (parts l.w (length l.packed / l.w - l.counter) (drop l.at l.packed));
}
