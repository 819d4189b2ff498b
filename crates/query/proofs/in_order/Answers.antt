-- `query::in_order` meets its contract. The loop's invariant: what is left decides, lies within and has no spare bits.
use Prim.Native.Nat.{ℕ, ◌+◌, ◌-◌, ◌/◌, ◌≤◌}
use native.Mathlib.Nat.{div-mul-le_self}
use native.Mathlib.Omega.{arith}
use mathlib.Core.Path.{◌≡◌, refl, sym, ◌∙◌}
use borrow.Author.Tests.{not-true, not-false}
use lib.ListN.{length, drop}
use Rattle.query.proofs.Parts.{peel, spares_rest, ascending_few, ascending_no, ascending_yes}
use Rattle.query.proofs.in_order.Goals as goal
use Rattle.query.proofs.in_order.Goals.{In-loop}

-- how many are left
abbrev left : In-loop → ℕ
left c = length c.args.packed.now / c.packed_length-w.result + 1 - c.loop.counter

-- the next two lie within
room : (c : In-loop) → c.loop.at + c.packed_length-w.result + c.packed_length-w.result ≤ length c.args.packed.now
room c =
    let w = c.packed_length-w.result in
    omega (arith, peel (left c) w (omega arith), peel (left c - 1) w (omega arith), c.loop.invariant.room)

pub loop-init : goal.loop-init
loop-init c =
    let w = c.packed_length-w in
    let m = length c.args.packed.now / w.result in
    let all : m + 1 - 1 ≡ m = omega arith in
    rw all (record { room = omega (arith, div-mul-le_self (length c.args.packed.now) w.result); clear = rw w.ensures c.requires.1; left = refl })

pub overflow_add-middle : goal.overflow_add-middle
overflow_add-middle c = omega (arith, room (goal.at.overflow_add-middle c).In-loop)

pub overflow_add-end : goal.overflow_add-end
overflow_add-end c = omega (arith, room (goal.at.overflow_add-end c).In-loop)

pub returns-then-not-before : goal.returns-then-not-before
returns-then-not-before c =
    let i = (goal.at.returns-then-not-before c).In-loop in
    let a = c.args in
    let w = c.packed_length-w in
    let inv = c.loop.invariant in
    let first : c.loop.at + w.result - c.loop.at ≡ w.result = omega arith in
    let second : c.loop.at + w.result + w.result - (c.loop.at + w.result) ≡ w.result = omega arith in
    rw (← w.ensures) (sym (inv.left
    ∙ ascending_no a.len w.result c.loop.at (left i) a.packed.now w.ensures (λ i. omega (arith, c.type_inv.packed i))
    (omega arith) inv.room inv.clear c.before-in-loop.result (rw (first, second) at c.before-in-loop.ensures) (not-true _ c.if-not-before.true-raw)))

pub loop-preserved : goal.loop-preserved
loop-preserved c =
    let i = (goal.at.loop-preserved c).In-loop in
    let a = c.args in
    let w = c.packed_length-w.result in
    let m = length a.packed.now / w in
    let inv = c.loop.invariant in
    let first : c.loop.at + w - c.loop.at ≡ w = omega arith in
    let second : c.loop.at + w + w - (c.loop.at + w) ≡ w = omega arith in
    let fewer : m + 1 - (c.loop.counter + 1) ≡ m + 1 - c.loop.counter - 1 = omega arith in
    rw fewer (record {
      room = omega (arith, peel (left i) w (omega arith), inv.room);
      clear = spares_rest a.len w c.loop.at (left i) a.packed.now (omega arith) inv.clear;
      left = inv.left
          ∙ ascending_yes a.len w c.loop.at (left i) a.packed.now c.packed_length-w.ensures (λ i. omega (arith, c.type_inv.packed i))
          (omega arith) inv.room inv.clear c.before-in-loop.result (rw (first, second) at c.before-in-loop.ensures) (not-false _ c.if-not-before.false-raw);
    })

pub returns : goal.returns
returns c =
    let w = c.packed_length-w in
    let m = length c.args.packed.now / w.result in
    rw (← w.ensures) (sym (c.loop.invariant.left
    ∙ ascending_few c.args.len w.result (m + 1 - c.loop.counter) (drop c.loop.at c.args.packed.now) (omega arith)))
