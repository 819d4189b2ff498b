-- `combine::writing::write_one` meets its contract.
use Prim.Native.Nat.{◌+◌, ◌-◌}
use native.Mathlib.Omega.{arith}
use mathlib.Core.Path.{◌≡◌}
use Rattle.query.proofs.Pieces.{part_inside}
use Rattle.combine.proofs.writing.write_one.Goals as goal

pub returns : goal.returns
returns c =
    let a = c.args in
    let f : a.from + a.w - a.from ≡ a.w = omega arith in
    rw (c.if-last.false, part_inside a.w a.from a.q.now c.requires) (record { out_after = rw f at c.write_both_children.ensures.out_after; value = rw f at c.write_both_children.ensures.value })
