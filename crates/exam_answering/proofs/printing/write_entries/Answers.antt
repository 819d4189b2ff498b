-- `exam_answering::printing::write_entries` meets its contract. The loop's invariant: the lines of the prefixes passed are written.
use Prim.Native.Nat.{ℕ, ◌+◌, ◌-◌, ◌*◌}
use native.Mathlib.Nat.{suc-mul}
use native.Mathlib.Numerals.{add-one}
use native.Mathlib.Omega.{arith}
use mathlib.Core.Path.{◌≡◌}
use mathlib.Core.List.{List, ◌++◌}
use lib.ListN.{take, drop}
use Rattle.numbers.specs.Numbers.{from_little}
use Rattle.bits.specs.Packing.{unpack}
use Rattle.places.proofs.Places.{Grown, grown_start, grown_room, grown_more}
use Rattle.exam_lines.specs.Lines.{prefix_line}
use Rattle.exam_answering.specs.Printing.{entry_lines}
use Rattle.fields.proofs.FieldChain.{all_written}
use Rattle.exam_answering.proofs.PrintedLines.{entries_none, entries_step}
use Rattle.exam_answering.proofs.printing.write_entries.Goals as goal
use Rattle.exam_answering.proofs.printing.write_entries.Goals.{In-loop-i}

-- where the prefix and its total stand
abbrev from : In-loop-i → ℕ
from c = 6 + c.loop-i.i * c.packed_length-w.result

abbrev place : In-loop-i → ℕ
place c = c.args.totals + c.loop-i.i * 8

-- the line, and what is left after it
abbrev line : In-loop-i → List ℕ
line c =
    let a = c.args in
    prefix_line (unpack a.k (take c.packed_length-w.result (drop (from c) a.round.now))) (from_little (take 8 (drop (place c) a.round.now)))

abbrev others : In-loop-i → List ℕ
others c =
    let a = c.args in
    entry_lines a.k (a.count - c.loop-i.i - 1) (drop (from c + c.packed_length-w.result) a.round.now) (drop (place c + 8) a.round.now)

abbrev whole : In-loop-i → List ℕ
whole c = let a = c.args in entry_lines a.k a.count (drop 6 a.round.now) (drop a.totals a.round.now)

turn : (c : In-loop-i) → Grown c.args.out.now c.args.at c.loop-i.out c.loop-i.here (line c ++ others c) (whole c)
turn c =
    let a = c.args in
    rw (← entries_step a.k c.packed_length-w.result (a.count - c.loop-i.i) (from c) (place c) a.round.now c.packed_length-w.ensures (omega arith)) c.loop-i.invariant

-- ---- the needs
pub loop-i-init : goal.loop-i-init
loop-i-init c =
    let a = c.args in
    let e : a.count - 0 ≡ a.count = omega arith in
    let f : 6 + 0 * c.packed_length-w.result ≡ 6 = omega arith in
    let g : a.totals + 0 ≡ a.totals = omega arith in
    rw (e, f, g) (grown_start a.out.now a.at _)

pub write_entry-here-requires-clause-round_in_bounds : goal.write_entry-here-requires-clause-round_in_bounds
write_entry-here-requires-clause-round_in_bounds c =
    let i = (goal.at.write_entry-here-requires-clause-round_in_bounds c).In-loop-i in
    grown_room c.args.out.now c.args.at c.loop-i.out c.loop-i.here (line i) (others i) (whole i) (turn i) c.requires.round_in_bounds

pub loop-i-preserved : goal.loop-i-preserved
loop-i-preserved c =
    let i = (goal.at.loop-i-preserved c).In-loop-i in
    let a = c.args in
    let w = c.packed_length-w.result in
    let l = c.loop-i in
    let e : a.count - (l.i + 1) ≡ a.count - l.i - 1 = omega arith in
    let f : 6 + (l.i + 1) * w ≡ 6 + l.i * w + w = rw (add-one l.i) (omega (arith, suc-mul l.i w)) in
    let g : a.totals + (l.i + 1) * 8 ≡ a.totals + l.i * 8 + 8 = omega arith in
    rw (e, f, g)
    (grown_more a.out.now a.at l.out l.here (line i) (others i) (whole i) (turn i) c.requires.round_in_bounds _ _ c.write_entry-here.ensures.out_after c.write_entry-here.ensures.value)

pub returns : goal.returns
returns c =
    let l = c.loop-i in
    let a = c.args in
    let both = all_written a.out.now a.at l.out l.here _
    (rw (entries_none a.k (a.count - l.i) (drop (6 + l.i * c.packed_length-w.result) a.round.now) (drop (a.totals + l.i * 8) a.round.now) (omega arith)) at l.invariant) in
    record { value = both.0; out_after = both.1 }
