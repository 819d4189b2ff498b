-- `bits::child::last_byte` meets its contract. What is left of x past its first bits is taken off, and the bit is added.
use native.Mathlib.Omega.{arith}
use Prim.Native.Nat.{◌+◌, ◌-◌, ◌/◌, ◌%◌, ◌^◌}
use native.Mathlib.Nat.{mod-le}
use mathlib.Core.Path.{◌≡◌}
use lib.ListN.{take}
use Rattle.bits.specs.Strings.{◌▹◌}
use Rattle.bits.specs.Packing.{value, digits}
use Rattle.bits.proofs.Packed.{value_below}
use Rattle.bits.proofs.Longer.{unit_pos, last_clear, last_set}
use Rattle.bits.proofs.child.last_byte.Goals as goal
use Rattle.bits.proofs.child.last_byte.Goals.{Then-bit}

-- the byte with the bit set
with_bit : (c : Then-bit)
    → c.from-y.result - c.from-y.result % (256 / 2 ^ c.args.rest) + 256 / 2 ^ c.args.rest / 2
    ≡ value 8 (take c.args.rest (digits 8 c.args.x) ▹ c.args.bit)
with_bit c =
    let a = c.args in
    rw c.from-y.ensures (last_set a.x a.rest a.bit (omega arith) (omega arith) c.if-bit.true)

pub nonzero_rem-kept : goal.nonzero_rem-kept
nonzero_rem-kept c = unit_pos c.args.rest (omega arith)

pub overflow_sub-kept : goal.overflow_sub-kept
overflow_sub-kept c = mod-le _ _

pub overflow_add-result : goal.overflow_add-result
overflow_add-result c =
    let a = c.args in
    omega (arith, with_bit c, value_below 8 (take a.rest (digits 8 a.x) ▹ a.bit))

pub overflow_cast-result : goal.overflow_cast-result
overflow_cast-result c =
    let a = c.args in
    omega (arith, with_bit c, value_below 8 (take a.rest (digits 8 a.x) ▹ a.bit))

pub returns-then-bit : goal.returns-then-bit
returns-then-bit c = with_bit c

pub returns : goal.returns
returns c =
    let a = c.args in
    rw c.from-y.ensures (last_clear a.x a.rest a.bit (omega arith) (omega arith) c.if-bit.false)
