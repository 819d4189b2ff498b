-- `query::spares_zero` meets its contract. The loop's invariant: what is left decides, and lies within.
use Prim.Native.Nat.{ℕ, ◌+◌, ◌-◌, ◌/◌, ◌≤◌}
use native.Mathlib.Nat.{div-mul-le_self}
use native.Mathlib.Omega.{arith}
use mathlib.Core.Path.{◌≡◌, refl, sym, ◌∙◌}
use borrow.Author.Tests.{not-true, not-false}
use lib.ListN.{length, drop}
use Rattle.query.proofs.Parts.{peel, spares_none, spares_no, spares_yes}
use Rattle.query.proofs.spares_zero.Goals as goal
use Rattle.query.proofs.spares_zero.Goals.{In-loop}

-- how many are left
abbrev left : In-loop → ℕ
left c = length c.args.packed.now / c.packed_length-w.result - c.loop.counter

-- the next one lies within
room : (c : In-loop) → c.loop.at + c.packed_length-w.result ≤ length c.args.packed.now
room c = omega (arith, peel (left c) c.packed_length-w.result (omega arith), c.loop.invariant.room)

pub loop-init : goal.loop-init
loop-init c =
    let w = c.packed_length-w.result in
    let m = length c.args.packed.now / w in
    let all : m - 0 ≡ m = omega arith in
    rw all (record { room = omega (arith, div-mul-le_self (length c.args.packed.now) w); left = refl })

pub overflow_add-end : goal.overflow_add-end
overflow_add-end c = omega (arith, room (goal.at.overflow_add-end c).In-loop)

pub returns-then-not-spare_zero : goal.returns-then-not-spare_zero
returns-then-not-spare_zero c =
    let i = (goal.at.returns-then-not-spare_zero c).In-loop in
    let w = c.packed_length-w in
    let size : c.loop.at + w.result - c.loop.at ≡ w.result = omega arith in
    rw (← w.ensures) (sym (c.loop.invariant.left
    ∙ spares_no c.args.len w.result c.loop.at (left i) c.args.packed.now (omega arith)
    c.spare_zero.result (rw size at c.spare_zero.ensures) (not-true _ c.if-not-spare_zero.true-raw)))

pub loop-preserved : goal.loop-preserved
loop-preserved c =
    let i = (goal.at.loop-preserved c).In-loop in
    let w = c.packed_length-w.result in
    let m = length c.args.packed.now / w in
    let size : c.loop.at + w - c.loop.at ≡ w = omega arith in
    let fewer : m - (c.loop.counter + 1) ≡ m - c.loop.counter - 1 = omega arith in
    rw fewer (record {
      room = omega (arith, peel (left i) w (omega arith), c.loop.invariant.room);
      left = c.loop.invariant.left
          ∙ spares_yes c.args.len w c.loop.at (left i) c.args.packed.now (omega arith)
          c.spare_zero.result (rw size at c.spare_zero.ensures) (not-false _ c.if-not-spare_zero.false-raw);
    })

pub returns : goal.returns
returns c =
    let w = c.packed_length-w in
    rw (← w.ensures) (sym (c.loop.invariant.left
    ∙ spares_none c.args.len w.result (length c.args.packed.now / w.result - c.loop.counter) (drop c.loop.at c.args.packed.now) (omega arith)))
