-- `bits::child::put_child` meets its contract. Outside nothing is written; within, the bytes are copied and the last one takes the place of byte `whole`.
use native.Mathlib.Omega.{arith}
use Prim.Native.Nat.{◌+◌, ◌≤◌}
use mathlib.Core.Path.{sym, ap}
use lib.ListN.{length, take}
use lib.Seq.{length-take-le}
use Rattle.places.proofs.Places.{put_at_length}
use Rattle.places.proofs.Inside.{inside, outside}
use Rattle.bits.proofs.Longer.{child_outside, child_inside}
use Rattle.bits.proofs.child.put_child.Goals as goal
use Rattle.bits.proofs.child.put_child.Goals.{Else-not-within}

-- the places lie within
room : (c : Else-not-within)
    → c.args.at + (c.args.whole + 1)
    ≤ length c.args.out.now
room c = inside _ _ _ _ c.within.ensures c.if-not-within.false-raw

pub returns-then-not-within : goal.returns-then-not-within
returns-then-not-within c =
    let a = c.args in
    child_outside a.whole a.rest a.prefix.now a.bit (λ i. omega (arith, c.shared_slice_known-1.given i))
    c.requires.0 (omega arith) a.out.now a.at (outside _ _ _ _ c.within.ensures c.if-not-within.true-raw)

pub slice_bounds-copy-end : goal.slice_bounds-copy-end
slice_bounds-copy-end c =
    sym (length-take-le (c.args.whole + 1) c.args.prefix.now (omega (arith, c.requires.1)))

pub overflow_add-out : goal.overflow_add-out
overflow_add-out c = omega (arith, room (goal.at.overflow_add-out c).Else-not-within)

pub bounds-out-at : goal.bounds-out-at
bounds-out-at c =
    let a = c.args in
    omega (arith, room (goal.at.bounds-out-at c).Else-not-within, ap length c.copy.ensures, put_at_length a.out.now a.at (take (a.whole + 1) a.prefix.now))

pub returns : goal.returns
returns c =
    let a = c.args in
    let last = c.last_byte-last in
    child_inside a.whole a.rest a.prefix.now a.bit (λ i. omega (arith, c.shared_slice_known-1.given i))
    c.requires.0 (omega arith) a.out.now a.at (room (goal.at.returns c).Else-not-within) last.result c.requires.1 _ c.copy.ensures last.ensures
