-- `levels::children::write_children` meets its contract. The loop's invariant: the children of the kept prefixes passed are written, and what is left
-- stands before them.
use Prim.Native.Nat.{◌+◌, ◌-◌, ◌*◌, ◌≤◌, ◌<◌}
use native.Mathlib.Omega.{arith}
use native.Mathlib.Nat.{add-mul, zero-mul}
use mathlib.Core.Path.{◌≡◌, ap, ◌∙◌}
use mathlib.Core.Bool.{cond}
use mathlib.Core.List.{[], ◌++◌}
use lib.ListN.{length, take, drop}
use Rattle.numbers.specs.Numbers.{from_little}
use Rattle.bits.specs.Packing.{packed_length, unpack}
use Rattle.places.specs.Places.{window}
use Rattle.places.proofs.Places.{Grown, grown_start, grown_end}
use Rattle.query.specs.Query.{packs, children}
use Rattle.query.specs.Written.{both_children}
use Rattle.query.proofs.Pieces.{part_length, next_room, numbers_at, grown_fitting}
use Rattle.kept.proofs.Onward.{children_none}
use Rattle.kept.specs.Kept.{reaches_by}
use Rattle.tree.proofs.Levels.{reaching_at}
use Rattle.levels.specs.LevelRead.{reaching_in}
use Rattle.levels.proofs.Pieces.{unpack_padded, children_at, grown_part, grown_window}
use Rattle.levels.proofs.children.write_children.Goals as goal

pub loop-i-init : goal.loop-i-init
loop-i-init c =
    let a = c.args in
    let v = a.level in
    let w = c.packed_length-w.result in
    let all : v.count - 0 ≡ v.count = omega arith in
    let first : v.from + 0 * w ≡ v.from = omega (arith, zero-mul w) in
    let total : v.place + 8 * 0 ≡ v.place = omega arith in
    rw (all, first, total) (rw c.packed_length-w.ensures c.requires.before.1, grown_start a.area.now a.at _)

pub loop-i-preserved : goal.loop-i-preserved
loop-i-preserved c =
    let a = c.args in
    let v = a.level in
    let l = c.loop-i in
    let w = c.packed_length-w.result in
    let m = v.count - l.i in
    let source = v.from + l.i * w in
    let total = v.place + 8 * l.i in
    let whole = packs (children (reaching_in a.rule v a.area.now)) in
    let left = packs (children (reaching_at (reaches_by a.rule) v.k a.area.now (m - 1) (source + w) (total + 8))) in
    let own = take w (drop source a.area.now) in
    let piece = cond c.reaches-kept.result (both_children (unpack v.k own)) [] in
    let fewer : v.count - (l.i + 1) ≡ m - 1 = omega arith in
    let next : v.from + (l.i + 1) * w ≡ source + w = omega (arith, add-mul l.i 1 w) in
    let on : v.place + 8 * (l.i + 1) ≡ total + 8 = omega arith in
    let h : 0 < m = omega (arith, c.loop-i-test.true) in
    let room : a.at + length whole ≤ length a.area.now = c.requires.at_in_bounds in
    let inside : a.at ≤ length a.area.now = omega (arith, room) in
    let before : total + 8 ≤ a.at = omega (arith, c.requires.before.2, c.loop-i-test.true) in
    let placed = next_room m w source a.at h l.invariant.0 in
    let number : window 8 total l.area ≡ window 8 total a.area.now = grown_window a.area.now a.at l.area l.here _ _ l.invariant.1 8 total before (omega (arith, before, inside)) in
    let kept : c.reaches-kept.result ≡ reaches_by a.rule (from_little (window 8 total a.area.now)) =
    c.reaches-kept.ensures ∙ ap (reaches_by a.rule) (c.read_le8.ensures ∙ ap from_little number) in
    let turn : Grown a.area.now a.at l.area l.here (piece ++ left) whole =
    rw (← children_at (reaches_by a.rule) v.k a.area.now w c.packed_length-w.ensures m source total h (omega (arith, before, inside)) c.reaches-kept.result kept) l.invariant.1 in
    let size : length own ≡ packed_length v.k = part_length w source a.area.now (omega (arith, placed.0, inside)) ∙ c.packed_length-w.ensures in
    let copy : take w (drop source l.area) ≡ own = grown_part a.area.now a.at l.area l.here _ _ l.invariant.1 w source placed.0 (omega (arith, placed.0, inside)) in
    let bits : unpack v.k c.read_prefix-prefix.result ≡ unpack v.k own =
    ap (unpack v.k) (c.read_prefix-prefix.ensures ∙ rw copy) ∙ unpack_padded v.k 32 own size (omega (arith, size, c.requires.before.0)) in
    rw (fewer, next, on) (
      placed.1,
      grown_fitting a.area.now a.at l.area l.here piece left whole turn room _ _
          (rw bits at c.write_both_children-here.ensures.out_after) (rw bits at c.write_both_children-here.ensures.value),
    )

pub returns : goal.returns
returns c =
    let a = c.args in
    let v = a.level in
    let l = c.loop-i in
    let source = v.from + l.i * c.packed_length-w.result in
    let total = v.place + 8 * l.i in
    grown_end a.area.now a.at l.area l.here _
    (rw (children_none (reaches_by a.rule) v.k a.area.now (v.count - l.i) source (numbers_at (v.count - l.i) total a.area.now) (omega arith)) at l.invariant.1)
