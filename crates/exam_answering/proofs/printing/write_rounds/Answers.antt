-- `exam_answering::printing::write_rounds` meets its contract. The loop's invariant: the lines of the rounds passed are written, and what is left are rounds.
use Prim.Native.Nat.{ℕ, ◌+◌, ◌-◌, ◌≤◌, ◌<◌}
use native.Mathlib.Omega.{arith}
use mathlib.Core.Path.{◌≡◌, refl}
use mathlib.Core.List.{List, ◌++◌}
use borrow.Author.Rules.{rules}
use lib.ListN.{length, drop}
use Rattle.places.proofs.Places.{Grown, grown_start, grown_room, grown_more}
use Rattle.exam_text.proofs.Records.{Rounds}
use Rattle.exam_answering.specs.Printing.{round_length, rounds_lines}
use Rattle.fields.proofs.FieldChain.{all_written}
use Rattle.exam_answering.proofs.PrintedLines.{round_lines, rest_of, record_none, record_end_lem, record_step, rounds_step}
use Rattle.exam_answering.proofs.printing.write_rounds.Goals as goal
use Rattle.exam_answering.proofs.printing.write_rounds.Goals.{Else-is_empty}

some : (c : Else-is_empty) → 0 < length c.loop.rest.now
some c = search rules

-- the lines of the rounds after the first of them, which is of this size
abbrev others : Else-is_empty → ℕ → List ℕ
others c size = rounds_lines (c.args.n - c.loop.counter - 1) (drop size c.loop.rest.now)

abbrev whole : Else-is_empty → List ℕ
whole c = rounds_lines c.args.n c.args.rounds.now

turn : (c : Else-is_empty) (size : ℕ) → size ≡ round_length c.loop.rest.now
    → Grown c.args.out.now c.args.at c.loop.out c.loop.here (round_lines c.loop.rest.now ++ others c size) (whole c)
turn c size e = rw (← record_step (c.args.n - c.loop.counter) size c.loop.rest.now e (omega arith) (some c)) c.loop.invariant.1

next : (c : Else-is_empty) (size : ℕ) → size ≡ round_length c.loop.rest.now
    → (round_length c.loop.rest.now ≤ length c.loop.rest.now) × Rounds round_length (c.args.n - c.loop.counter - 1) (drop size c.loop.rest.now)
next c size e = rounds_step (c.args.n - c.loop.counter) size c.loop.rest.now e (omega arith) (some c) c.loop.invariant.0

-- ---- the needs
pub loop-init : goal.loop-init
loop-init c =
    let a = c.args in
    let e : a.n - 0 ≡ a.n = omega arith in
    rw e (c.requires.0, grown_start a.out.now a.at _)

pub returns-then-is_empty : goal.returns-then-is_empty
returns-then-is_empty c =
    let l = c.loop in
    let a = c.args in
    let e : length l.rest.now ≡ 0 = search rules in
    let both = all_written a.out.now a.at l.out l.here _ (rw (record_end_lem (a.n - l.counter) l.rest.now e) at l.invariant.1) in
    record { value = both.0; out_after = both.1 }

pub write_round-here-requires : goal.write_round-here-requires
write_round-here-requires c =
    let i = (goal.at.write_round-here-requires c).Else-is_empty in
    let l = c.loop in
    let size = round_length l.rest.now in
    record {
      rounds_in_bounds = (next i size refl).0;
      rounds_in_bounds_2 = grown_room c.args.out.now c.args.at l.out l.here (round_lines l.rest.now) (others i size) (whole i) (turn i size refl) c.requires.1;
    }

pub slice_bounds-rest-count : goal.slice_bounds-rest-count
slice_bounds-rest-count c = omega (arith, c.round_length.ensures, (next (goal.at.slice_bounds-rest-count c).Else-is_empty _ refl).0)

pub slice_bounds-rest-start : goal.slice_bounds-rest-start
slice_bounds-rest-start c = omega (arith, c.round_length.ensures, (next (goal.at.slice_bounds-rest-start c).Else-is_empty _ refl).0)

pub loop-preserved : goal.loop-preserved
loop-preserved c =
    let a = c.args in
    let l = c.loop in
    let i = (goal.at.loop-preserved c).Else-is_empty in
    let size = c.round_length.result in
    let w = c.write_round-here.ensures in
    let e : a.n - (l.counter + 1) ≡ a.n - l.counter - 1 = omega arith in
    rw (e, rest_of size l.rest.now) (
      (next i size c.round_length.ensures).1,
      grown_more a.out.now a.at l.out l.here (round_lines l.rest.now) (others i size) (whole i) (turn i size c.round_length.ensures) c.requires.1 _ _ w.out_after w.value,
    )

pub returns : goal.returns
returns c =
    let l = c.loop in
    let a = c.args in
    let both = all_written a.out.now a.at l.out l.here _ (rw (record_none (a.n - l.counter) l.rest.now (omega arith)) at l.invariant.1) in
    record { value = both.0; out_after = both.1 }
