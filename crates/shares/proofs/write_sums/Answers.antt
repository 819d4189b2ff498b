-- `shares::write_sums` meets its contract. The loop's invariant: the sums passed are written.
use Prim.Native.Nat.{◌+◌, ◌-◌, ◌*◌, ◌/◌}
use native.Mathlib.Omega.{arith}
use mathlib.Core.Path.{◌≡◌}
use lib.ListN.{length}
use Rattle.shares.proofs.Sums.{sums_start, sums_more, sums_end}
use Rattle.shares.proofs.write_sums.Goals as goal

pub loop-i-init : goal.loop-i-init
loop-i-init c =
    let a = c.args in
    let all : length a.share0.now / 8 - 0 ≡ length a.share0.now / 8 = omega arith in
    rw all (sums_start a.share0.now a.share1.now c.requires.0 a.out.now c.requires.1)

pub loop-i-preserved : goal.loop-i-preserved
loop-i-preserved c =
    let l = c.loop-i in
    let a = c.args in
    let fewer : length a.share0.now / 8 - (l.i + 1) ≡ length a.share0.now / 8 - l.i - 1 = omega arith in
    let next : 8 * (l.i + 1) ≡ 8 * l.i + 8 = omega arith in
    rw (fewer, next)
    (sums_more a.share0.now a.share1.now c.requires.0 a.out.now c.requires.1 l.out (length a.share0.now / 8 - l.i) (8 * l.i) (omega arith) (omega arith)
    l.invariant c.sum_at.result c.sum_at.ensures _ c.write_le8.ensures)

pub returns : goal.returns
returns c =
    let l = c.loop-i in
    let a = c.args in
    sums_end a.share0.now a.share1.now c.requires.0 a.out.now c.requires.1 l.out (length a.share0.now / 8 - l.i) (8 * l.i) (omega arith) l.invariant
