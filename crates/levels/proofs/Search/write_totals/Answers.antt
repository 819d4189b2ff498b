-- `Search::write_totals` meets its contract. The loop's invariant: the totals of the prefixes passed are written, and those that reach t are counted.
use Prim.Native.Nat.{ℕ, ◌+◌, ◌-◌, ◌*◌}
use native.Mathlib.Omega.{arith}
use native.Mathlib.Nat.{add-mul, zero-mul}
use mathlib.Core.Path.{◌≡◌}
use mathlib.Core.Bool.{Bool}
use Rattle.bits.specs.Strings.{Bits}
use Rattle.kept.specs.Kept.{reaches_by}
use Rattle.tree.specs.SearchRule.{is_kept}
use Rattle.levels.specs.Levels.{total_in}
use Rattle.levels.proofs.LevelTotals.{standing_start, standing_end, standing_more}
use Rattle.levels.proofs.Search.write_totals.Goals as goal
use Rattle.levels.proofs.Search.write_totals.Goals.{In-loop-i}

abbrev total : In-loop-i → Bits → ℕ
total l = total_in l.args.self.now

abbrev kept : In-loop-i → Bits → Bool
kept l = is_kept (reaches_by l.args.self.now.rule) (total l)

pub loop-i-init : goal.loop-i-init
loop-i-init c =
    let a = c.args in
    let v = a.level in
    let w = c.packed_length-w.result in
    let T = total_in a.self.now in
    let all : v.count - 2 * 0 ≡ v.count = omega arith in
    let first : v.from + 2 * 0 * w ≡ v.from = omega (arith, zero-mul w) in
    let place : v.place + 16 * 0 ≡ v.place = omega arith in
    rw (all, first, place)
    (standing_start T (is_kept (reaches_by a.self.now.rule) T) v.k w a.area.now v.count v.from v.place c.packed_length-w.ensures c.requires.1 c.requires.0 c.requires.2)

pub overflow_add-kept : goal.overflow_add-kept
overflow_add-kept c =
    let i = (goal.at.overflow_add-kept c).In-loop-i in
    let v = c.args.level in
    let next = standing_more (total i) (kept i) v.k c.packed_length-w.result c.args.area.now v.count v.from v.place c.packed_length-w.ensures c.requires.1 c.loop-i.invariant
    (omega (arith, c.loop-i-test.true)) c.write_total_pair-kept.ensures.area_after c.write_total_pair-kept.ensures.value in
    omega (arith, next.fewer, c.requires.1, c.well_formed.1.0.0)

pub loop-i-preserved : goal.loop-i-preserved
loop-i-preserved c =
    let i = (goal.at.loop-i-preserved c).In-loop-i in
    let a = c.args in
    let v = a.level in
    let l = c.loop-i in
    let w = c.packed_length-w.result in
    let fewer : v.count - 2 * (l.i + 1) ≡ v.count - 2 * l.i - 2 = omega arith in
    let next : v.from + 2 * (l.i + 1) * w ≡ v.from + 2 * l.i * w + 2 * w = omega (arith, add-mul (2 * l.i) 2 w) in
    let on : v.place + 16 * (l.i + 1) ≡ v.place + 16 * l.i + 16 = omega arith in
    rw (fewer, next, on)
    (standing_more (total i) (kept i) v.k w a.area.now v.count v.from v.place c.packed_length-w.ensures c.requires.1 l.invariant
    (omega (arith, c.loop-i-test.true)) c.write_total_pair-kept.ensures.area_after c.write_total_pair-kept.ensures.value)

pub returns : goal.returns
returns c =
    let a = c.args in
    let v = a.level in
    let T = total_in a.self.now in
    let both = standing_end T (is_kept (reaches_by a.self.now.rule) T) v.k c.packed_length-w.result a.area.now v.count v.from v.place c.loop-i.invariant (omega arith) in
    record { area_after = both.0; value = both.1 }
