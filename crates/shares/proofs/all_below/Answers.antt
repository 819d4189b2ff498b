-- `shares::all_below` meets its contract. The loop's invariant: what is left decides.
use Prim.Native.Nat.{◌+◌, ◌-◌, ◌*◌, ◌/◌}
use native.Mathlib.Omega.{arith}
use mathlib.Core.Path.{◌≡◌, sym, ◌∙◌}
use lib.ListN.{length}
use Rattle.shares.proofs.Numbers.{below_yes, below_no, below_none}
use Rattle.shares.proofs.all_below.Goals as goal

pub returns-then-read_le8-ge-P : goal.returns-then-read_le8-ge-P
returns-then-read_le8-ge-P c =
    let s = c.args.share.now in
    let i = c.loop-i.i in
    let r = c.read_le8 in
    sym (c.loop-i.invariant ∙ below_no (length s / 8 - i) (8 * i) s (omega arith) (omega arith) r.result r.ensures c.if-read_le8-ge-P.true)

pub loop-i-preserved : goal.loop-i-preserved
loop-i-preserved c =
    let s = c.args.share.now in
    let i = c.loop-i.i in
    let r = c.read_le8 in
    let fewer : length s / 8 - (i + 1) ≡ length s / 8 - i - 1 = omega arith in
    let next : 8 * (i + 1) ≡ 8 * i + 8 = omega arith in
    rw (fewer, next) (c.loop-i.invariant ∙ below_yes (length s / 8 - i) (8 * i) s (omega arith) (omega arith) r.result r.ensures c.if-read_le8-ge-P.false)

pub returns : goal.returns
returns c =
    let s = c.args.share.now in
    let i = c.loop-i.i in
    sym (c.loop-i.invariant ∙ below_none (length s / 8 - i) (8 * i) s (omega arith))
