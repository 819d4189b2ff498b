-- `Round::write_kept` meets its contract. The loop's invariant: what is due to the kept prefixes passed is written, and what is left lies within.
use Prim.Native.Nat.{ℕ, ◌+◌, ◌-◌, ◌*◌, ◌≤◌, ◌<◌}
use native.Mathlib.Omega.{arith}
use native.Mathlib.Nat.{add-mul, zero-mul}
use mathlib.Core.Path.{◌≡◌}
use mathlib.Core.Bool.{cond}
use mathlib.Core.List.{List, [], ◌++◌}
use lib.ListN.{length}
use Rattle.places.proofs.Places.{Grown, grown_start, grown_end}
use Rattle.kept.specs.Kept.{reaches_by}
use Rattle.query.specs.Query.{packs}
use Rattle.query.specs.Prefix.{part}
use Rattle.query.proofs.Parts.{spare_first, spares_rest}
use Rattle.query.proofs.Pieces.{next_room, grown_fitting, grown_length}
use Rattle.kept.proofs.Onward.{onward, onward_bytes, onward_none}
use Rattle.combine.specs.Combine.{passing}
use Rattle.combine.proofs.Pieces.{kept_from, onward_step, query_room, query_spares, kept_whole}
use Rattle.combine.proofs.totals.Round.write_kept.Goals as goal
use Rattle.combine.proofs.totals.Round.write_kept.Goals.{After-is_kept, In-loop-i}

-- how many prefixes are left, and where the first of them is
abbrev many : In-loop-i → ℕ
many i = i.prefix_count-count.result - i.loop-i.i

abbrev from : In-loop-i → ℕ
from i = 6 + i.loop-i.i * i.packed_length-w.result

some : (i : In-loop-i) → 0 < many i
some i = omega (arith, i.loop-i-test.true)

room : (i : In-loop-i) → from i + i.packed_length-w.result ≤ length i.args.self.query.now
room i = (next_room (many i) i.packed_length-w.result (from i) (length i.args.self.query.now) (some i) i.loop-i.invariant.0).0

-- what is written of the prefix, and what is left after it
abbrev piece : After-is_kept → List ℕ
piece i =
    cond i.is_kept.result
    (onward_bytes i.args.last i.prefix_length-len.result
    (part i.packed_length-w.result (6 + i.loop-i.i * i.packed_length-w.result) i.args.self.query.now))
    []

abbrev left : In-loop-i → List ℕ
left i =
    let s = i.args.self in
    packs (onward i.args.last (kept_from (reaches_by s.rule) i.prefix_length-len.result s.query.now s.share0.now s.share1.now (many i - 1)
    (from i + i.packed_length-w.result) (8 * i.loop-i.i + 8)))

abbrev whole : In-loop-i → List ℕ
whole i =
    let s = i.args.self in
    packs (onward i.args.last (passing (reaches_by s.rule) s.query.now s.share0.now s.share1.now))

-- ---- the needs
pub loop-i-init : goal.loop-i-init
loop-i-init c =
    let s = c.args.self in
    let len = c.prefix_length-len in
    let w = c.packed_length-w in
    let n = c.prefix_count-count in
    let all =
    kept_whole s.query.now len.result w.result n.result len.ensures.0 w.ensures n.ensures.0 (reaches_by s.rule) s.share0.now
    s.share1.now c.requires.share_lengths.0 c.requires.share_lengths.1 in
    let none : n.result - 0 ≡ n.result = omega arith in
    let first : 6 + 0 * w.result ≡ 6 = omega (arith, zero-mul w.result) in
    rw (none, first) (
      query_room s.query.now len.result w.result n.result len.ensures.0 w.ensures n.ensures.0 c.requires.query_in_bounds,
      query_spares s.query.now len.result w.result n.result len.ensures.0 w.ensures n.ensures.0 c.requires.spares,
      rw all (grown_start c.args.out.now c.args.at _),
    )

pub write_one-here-requires : goal.write_one-here-requires
write_one-here-requires c = room (goal.at.write_one-here-requires c).In-loop-i

pub loop-i-preserved : goal.loop-i-preserved
loop-i-preserved c =
    let a = c.args in
    let s = c.args.self in
    let l = c.loop-i in
    let i = (goal.at.loop-i-preserved c).In-loop-i in
    let len = c.prefix_length-len.result in
    let w = c.packed_length-w.result in
    let h = some i in
    let fewer : c.prefix_count-count.result - (l.i + 1) ≡ c.prefix_count-count.result - l.i - 1 = omega arith in
    let next : 6 + (l.i + 1) * w ≡ 6 + l.i * w + w = omega (arith, add-mul l.i 1 w) in
    let on : 8 * (l.i + 1) ≡ 8 * l.i + 8 = omega arith in
    let turn : Grown a.out.now a.at l.out l.here (piece (goal.at.loop-i-preserved c).After-is_kept ++ left i) (whole i) =
    rw (← onward_step (reaches_by s.rule) len s.query.now s.share0.now s.share1.now w c.packed_length-w.ensures (many i) (from i) (8 * l.i)
    h (omega (arith, c.requires.share_lengths)) (omega (arith, c.requires.share_lengths)) c.is_kept.result c.is_kept.ensures a.last
    c.requires.query_bytes
    (room i) (spare_first len w (from i) (many i) s.query.now h l.invariant.1))
    l.invariant.2 in
    rw (fewer, next, on) (
      (next_room (many i) w (from i) (length s.query.now) h l.invariant.0).1,
      spares_rest len w (from i) (many i) s.query.now h l.invariant.1,
      grown_fitting a.out.now a.at l.out l.here (piece (goal.at.loop-i-preserved c).After-is_kept) (left i) (whole i) turn c.requires.out_in_bounds _ _
          c.write_one-here.ensures.out_after c.write_one-here.ensures.value,
    )

pub shape_of-out : goal.shape_of-out
shape_of-out c =
    let l = c.loop-i in
    grown_length c.args.out.now c.args.at l.out l.here _ _ l.invariant.2

pub returns : goal.returns
returns c =
    let l = c.loop-i in
    let s = c.args.self in
    grown_end c.args.out.now c.args.at l.out l.here _
    (rw (onward_none (reaches_by s.rule) c.prefix_length-len.result s.query.now (c.prefix_count-count.result - l.i) (6 + l.i * c.packed_length-w.result) _ (omega arith) c.args.last)
    at l.invariant.2)
