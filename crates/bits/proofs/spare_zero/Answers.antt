-- `bits::spare_zero` meets its contract. The byte that holds bit n is tested by a remainder, those after it one by one.
use Prim.Native.Nat.{◌/◌}
use native.Mathlib.Omega.{arith}
use native.Mathlib.Numerals.{add-one}
use mathlib.Core.Path.{sym, ◌∙◌}
use Rattle.bits.proofs.Spare.{weight_pos, spare_past, spare_yes, spare_no}
use Rattle.bits.proofs.spare_zero.Goals as goal

pub returns-then-s-k : goal.returns-then-s-k
returns-then-s-k c = sym (spare_past c.args.n c.args.s.now (omega arith))

pub nonzero_rem-from : goal.nonzero_rem-from
nonzero_rem-from c = weight_pos c.args.n

pub returns-then-from-n-ne0 : goal.returns-then-from-n-ne0
returns-then-from-n-ne0 c =
    let a = c.args in
    sym (spare_no a.n a.s.now (omega arith) c.from.result c.from.ensures c.if-from-n-ne0.true)

pub returns : goal.returns
returns c =
    let a = c.args in
    c.zero_from.ensures
    ∙ rw (add-one (a.n / 8)) (sym (spare_yes a.n a.s.now (omega arith) c.from.result c.from.ensures c.if-from-n-ne0.false))
