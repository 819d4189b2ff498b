-- `query::prefix_at` meets its contract. Part i lies within exactly when it is counted among the whole parts past the fields.
use native.Mathlib.Omega.{arith}
use Prim.Native.Nat.{◌+◌, ◌-◌, ◌*◌, ◌≤◌}
use mathlib.Core.Path.{sym}
use lib.ListN.{length}
use Rattle.query.proofs.Place.{part_ends, part_past, prefix_inside, prefix_outside}
use Rattle.query.proofs.prefix_at.Goals as goal
use Rattle.query.proofs.prefix_at.Goals.{Else-q-w}

-- prefix i lies within
room : (c : Else-q-w)
    → 6 + c.args.i * c.packed_length-w.result + c.packed_length-w.result
    ≤ length c.args.q.now
room c =
    let a = c.args in
    let w = c.packed_length-w.result in
    omega (arith, part_ends (length a.q.now - 6) w a.i (omega arith) (omega arith))

pub returns-then-q-lt6 : goal.returns-then-q-lt6
returns-then-q-lt6 c =
    let a = c.args in
    let len = c.prefix_length in
    let w = c.packed_length-w in
    sym (prefix_outside a.q.now a.i len.result w.result len.ensures.0 w.ensures (omega arith))

pub returns-then-q-w : goal.returns-then-q-w
returns-then-q-w c =
    let a = c.args in
    let len = c.prefix_length in
    let w = c.packed_length-w in
    let past = part_past (length a.q.now - 6) w.result a.i (omega arith) (omega arith) in
    sym (prefix_outside a.q.now a.i len.result w.result len.ensures.0 w.ensures (omega arith))

pub overflow_mul-at : goal.overflow_mul-at
overflow_mul-at c = omega (arith, room c)

pub overflow_add-at : goal.overflow_add-at
overflow_add-at c = omega (arith, room c)

pub overflow_add-end : goal.overflow_add-end
overflow_add-end c = omega (arith, room c)

pub slice_bounds-result-end-2 : goal.slice_bounds-result-end-2
slice_bounds-result-end-2 c = omega (arith, room c)

pub returns : goal.returns
returns c =
    let a = c.args in
    let len = c.prefix_length in
    let w = c.packed_length-w in
    sym (prefix_inside a.q.now a.i len.result w.result len.ensures.0 w.ensures (room (goal.at.returns c).Else-q-w)
    (6 + a.i * w.result + w.result - (6 + a.i * w.result)) (omega arith))
