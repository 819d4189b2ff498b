-- `bits::child::put_child_of_all` meets its contract. Outside nothing is written; within, the bytes are copied and one with the bit stands after them.
use native.Mathlib.Omega.{arith}
use Prim.Native.Nat.{◌+◌, ◌≤◌}
use mathlib.Core.Path.{ap}
use lib.ListN.{length}
use Rattle.places.proofs.Places.{put_at_length}
use Rattle.places.proofs.Inside.{inside, outside}
use Rattle.bits.proofs.Longer.{all_outside, all_inside}
use Rattle.bits.proofs.child.put_child_of_all.Goals as goal
use Rattle.bits.proofs.child.put_child_of_all.Goals.{Else-not-within}

-- the places lie within
room : (c : Else-not-within)
    → c.args.at + (length c.args.prefix.now + 1)
    ≤ length c.args.out.now
room c = inside _ _ _ _ c.within.ensures c.if-not-within.false-raw

pub returns-then-not-within : goal.returns-then-not-within
returns-then-not-within c =
    let a = c.args in
    all_outside a.prefix.now a.bit (λ i. omega (arith, c.shared_slice_known-1.given i))
    a.out.now a.at (outside _ _ _ _ c.within.ensures c.if-not-within.true-raw)

pub overflow_add-out : goal.overflow_add-out
overflow_add-out c = omega (arith, room (goal.at.overflow_add-out c).Else-not-within)

pub bounds-out-at : goal.bounds-out-at
bounds-out-at c =
    let a = c.args in
    omega (arith, room (goal.at.bounds-out-at c).Else-not-within, ap length c.copy.ensures, put_at_length a.out.now a.at a.prefix.now)

pub returns : goal.returns
returns c =
    let a = c.args in
    let last = c.last_byte-last in
    all_inside a.prefix.now a.bit (λ i. omega (arith, c.shared_slice_known-1.given i))
    a.out.now a.at (room (goal.at.returns c).Else-not-within) _ last.result c.copy.ensures last.ensures
