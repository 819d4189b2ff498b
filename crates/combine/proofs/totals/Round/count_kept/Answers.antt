-- `Round::count_kept` meets its contract. The loop's invariant: those counted and those left make up the whole.
use Prim.Native.Nat.{◌+◌, ◌-◌, ◌*◌, ◌/◌, ◌≤◌, ◌<◌}
use native.Mathlib.Omega.{arith}
use mathlib.Core.Path.{◌≡◌}
use lib.ListN.{length}
use Rattle.kept.specs.Kept.{reaches_by}
use Rattle.combine.proofs.Numbers.{number_yes, number_no, number_none}
use Rattle.combine.proofs.totals.Round.count_kept.Goals as goal
use Rattle.combine.proofs.totals.Round.count_kept.Goals.{else-is_kept, then-is_kept}

pub loop-i-preserved : goal.loop-i-preserved
loop-i-preserved c =
    let s = c.args.self in
    let l = c.loop-i in
    let k = c.is_kept in
    let m = length s.share0.now / 8 - l.i in
    let fewer : length s.share0.now / 8 - (l.i + 1) ≡ m - 1 = omega arith in
    let next : 8 * (l.i + 1) ≡ 8 * l.i + 8 = omega arith in
    let h : 0 < m = omega arith in
    let room0 : 8 * l.i + 8 ≤ length s.share0.now = omega arith in
    let room1 : 8 * l.i + 8 ≤ length s.share1.now = omega (arith, c.requires) in
    let yes = number_yes s.share0.now s.share1.now (reaches_by s.rule) m (8 * l.i) h room0 room1 k.result k.ensures in
    let no = number_no s.share0.now s.share1.now (reaches_by s.rule) m (8 * l.i) h room0 room1 k.result k.ensures in
    rw (fewer, next) (
      elim c.if-is_kept.branch [ then-is_kept w ↦ omega (arith, yes w.if-is_kept.true) | else-is_kept w ↦ omega (arith, no w.if-is_kept.false) ],
      elim c.if-is_kept.branch [ then-is_kept w ↦ omega arith | else-is_kept w ↦ omega arith ],
    )

pub returns : goal.returns
returns c =
    let s = c.args.self in
    let l = c.loop-i in
    (omega (arith, number_none s.share0.now s.share1.now (reaches_by s.rule) (length s.share0.now / 8 - l.i) (8 * l.i) (omega arith)), omega arith)
