-- `walk::checks::spare_bits_zero` meets its contract.
use mathlib.Core.Path.{sym}
use Rattle.walk.proofs.PublicTests.{spare_full, spare_last}
use Rattle.walk.proofs.checks.spare_bits_zero.Goals as goal

pub returns-then-m-eq0 : goal.returns-then-m-eq0
returns-then-m-eq0 c =
    let a = c.args in
    rw c.if-m-eq0.true (sym (spare_full a.n a.share.now c.if-m-eq0.true))

pub returns-else-m-eq0 : goal.returns-else-m-eq0
returns-else-m-eq0 c =
    let a = c.args in
    rw c.byte_at.ensures (sym (spare_last a.n a.share.now c.if-m-eq0.false))
