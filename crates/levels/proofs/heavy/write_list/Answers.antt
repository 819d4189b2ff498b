-- `levels::heavy::write_list` meets its contract. The loop's invariant: the kept prefixes passed are written, and what is left lies within the area.
use Prim.Native.Nat.{◌+◌, ◌-◌, ◌*◌, ◌≤◌, ◌<◌}
use native.Mathlib.Omega.{arith}
use native.Mathlib.Nat.{zero-add, add-mul, zero-mul}
use mathlib.Core.Path.{◌≡◌, ap, ◌∙◌}
use mathlib.Core.Bool.{cond}
use mathlib.Core.List.{[], ◌++◌}
use lib.ListN.{length}
use Rattle.places.proofs.Places.{Grown, grown_start, grown_end}
use Rattle.query.specs.Query.{packs}
use Rattle.query.specs.Prefix as prefix
use Rattle.query.proofs.Pieces.{next_room, numbers_at, grown_fitting}
use Rattle.kept.proofs.Onward.{list_none}
use Rattle.kept.specs.Kept.{reaches_by}
use Rattle.tree.proofs.Levels.{reaching_at}
use Rattle.levels.specs.LevelRead.{reaching_in}
use Rattle.levels.proofs.Pieces.{packed_step, list_at}
use Rattle.levels.proofs.heavy.write_list.Goals as goal

pub loop-i-init : goal.loop-i-init
loop-i-init c =
    let a = c.args in
    let v = a.level in
    let w = c.packed_length-w.result in
    let all : v.count - 0 ≡ v.count = omega arith in
    let first : v.from + 0 * w ≡ v.from = omega (arith, zero-mul w) in
    let total : v.place + 8 * 0 ≡ v.place = omega arith in
    rw (all, first, total) (rw c.packed_length-w.ensures c.requires.in_bounds.0, c.requires.packed, grown_start a.list.now 0 _)

pub loop-i-preserved : goal.loop-i-preserved
loop-i-preserved c =
    let a = c.args in
    let v = a.level in
    let l = c.loop-i in
    let w = c.packed_length-w.result in
    let m = v.count - l.i in
    let source = v.from + l.i * w in
    let total = v.place + 8 * l.i in
    let whole = packs (reaching_in a.rule v a.area.now) in
    let left = packs (reaching_at (reaches_by a.rule) v.k a.area.now (m - 1) (source + w) (total + 8)) in
    let piece = cond c.reaches-kept.result (prefix.part w source a.area.now) [] in
    let fewer : v.count - (l.i + 1) ≡ m - 1 = omega arith in
    let next : v.from + (l.i + 1) * w ≡ source + w = omega (arith, add-mul l.i 1 w) in
    let on : v.place + 8 * (l.i + 1) ≡ total + 8 = omega arith in
    let h : 0 < m = omega (arith, c.loop-i-test.true) in
    let inside : total + 8 ≤ length a.area.now = omega (arith, c.requires.in_bounds.1, c.loop-i-test.true) in
    let room : 0 + length whole ≤ length a.list.now = rw (zero-add (length whole)) c.requires.list_in_bounds in
    let placed = next_room m w source (length a.area.now) h l.invariant.0 in
    let packed = packed_step v.k w c.packed_length-w.ensures a.area.now m source h l.invariant.1 in
    let turn : Grown a.list.now 0 l.list l.here (piece ++ left) whole =
    rw (← list_at (reaches_by a.rule) v.k a.area.now w c.packed_length-w.ensures m source total h inside
    c.reaches-kept.result (c.reaches-kept.ensures ∙ ap (reaches_by a.rule) c.read_le8.ensures) placed.0 packed.0) l.invariant.2 in
    rw (fewer, next, on) (
      placed.1,
      packed.1,
      grown_fitting a.list.now 0 l.list l.here piece left whole turn room _ _ c.write_prefix-here.ensures.out_after c.write_prefix-here.ensures.value,
    )

pub returns : goal.returns
returns c =
    let a = c.args in
    let v = a.level in
    let l = c.loop-i in
    let source = v.from + l.i * c.packed_length-w.result in
    let total = v.place + 8 * l.i in
    grown_end a.list.now 0 l.list l.here _
    (rw (list_none (reaches_by a.rule) v.k a.area.now (v.count - l.i) source (numbers_at (v.count - l.i) total a.area.now) (omega arith)) at l.invariant.2)
