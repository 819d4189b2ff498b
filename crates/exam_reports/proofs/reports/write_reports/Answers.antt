-- `exam_reports::reports::write_reports` meets its contract. The loop's invariant: the reports of the lines passed are written.
use mathlib.Core.Path.{◌≡◌, ap}
use mathlib.Core.Bool.{true}
use Prim.Native.Nat.{ℕ, suc, ◌+◌, ◌*◌, ◌≤◌, ◌<◌}
use native.Mathlib.Nat.{mul-suc}
use native.Mathlib.Numerals.{add-one}
use native.Mathlib.Omega.{arith}
use lib.ListN.{length}
use Rattle.point.specs.PublicShare.{public_share_length}
use Rattle.exam_text.specs.Reader.{has_line}
use Rattle.exam_text.proofs.Placed.{line_place, stands_within, line_stands}
use Rattle.exam_reports.proofs.LineReports.{Areas, areas, Room, room_less, written_none, written_lengths, written_more, written_all}
use Rattle.exam_reports.proofs.reports.write_reports.Goals as goal
use Rattle.exam_reports.proofs.reports.write_reports.Goals.{At-loop-i, In-loop-i}

-- the areas as they were
abbrev old : At-loop-i → Areas
old l = let a = l.args in areas a.seeds0.now a.seeds1.now a.shares.now

room : (l : At-loop-i) → Room l.args.sheet.n l.args.sheet.count (old l)
room l = record { seeds0 = l.requires.count_in_bounds.0; seeds1 = l.requires.count_in_bounds.1; shares = l.requires.count_in_bounds.2 }

lengths : (l : At-loop-i)
    → (length l.loop-i.seeds0 ≡ length l.args.seeds0.now) × (length l.loop-i.seeds1 ≡ length l.args.seeds1.now)
    × (length l.loop-i.shares ≡ length l.args.shares.now)
lengths l = let s = l.args.sheet in written_lengths s.n s.expander l.args.text.now s.lines l.loop-i.i (old l) _ l.loop-i.invariant

-- the line of a turn
is_left : (c : In-loop-i) → c.loop-i.i < c.args.sheet.count
is_left c = omega (arith, c.loop-i-test.true, c.from-i-end.ensures)

-- it begins here
here_is : (c : In-loop-i) → c.args.sheet.lines + c.loop-i.i * (c.from-size.result + 67) ≡ line_place c.args.sheet.lines c.args.sheet.n c.loop-i.i
here_is c = ap (λ (k : ℕ). c.args.sheet.lines + c.loop-i.i * (k + 67)) c.from-size.ensures

stands : (c : In-loop-i) → has_line c.args.sheet.n (line_place c.args.sheet.lines c.args.sheet.n c.loop-i.i) c.args.text.now ≡ true
stands c =
    let s = c.args.sheet in
    line_stands c.args.text.now s.lines s.n s.count c.loop-i.i (is_left c) c.requires.le_n.1 c.requires.le_n.3

-- ---- the needs
pub loop-i-init : goal.loop-i-init
loop-i-init c =
    let s = c.args.sheet in
    written_none s.n s.expander c.args.text.now s.lines _

pub overflow_add-sheet : goal.overflow_add-sheet
overflow_add-sheet c =
    let i = (goal.at.overflow_add-sheet c).In-loop-i in
    let s = c.args.sheet in
    omega (arith, here_is i, stands_within s.n (line_place s.lines s.n c.loop-i.i) c.args.text.now (stands i))

pub write_report-requires : goal.write_report-requires
write_report-requires c =
    let i = (goal.at.write_report-requires c).In-loop-i in
    let l = (goal.at.write_report-requires c).At-loop-i in
    let s = c.args.sheet in
    let fits = room_less s.n (suc c.loop-i.i) s.count (old l) (is_left i) (room l) in
    let same = lengths l in
    let all : public_share_length s.n * c.loop-i.i + public_share_length s.n ≤ length c.loop-i.shares =
    rw (same.2, ← mul-suc (public_share_length s.n) c.loop-i.i) fits.shares in record {
      le_n = (c.requires.le_n.0, c.requires.le_n.1, c.requires.le_n.2, rw (here_is i) (stands i));
      i_in_bounds = (omega (arith, fits.seeds0, same.0), omega (arith, fits.seeds1, same.1), all);
    }

pub loop-i-preserved : goal.loop-i-preserved
loop-i-preserved c =
    let i = (goal.at.loop-i-preserved c).In-loop-i in
    let l = (goal.at.loop-i-preserved c).At-loop-i in
    let s = c.args.sheet in
    let w = c.write_report.ensures in
    rw (add-one c.loop-i.i)
    (written_more s.n s.expander c.requires.le_n.0 c.requires.le_n.1 c.requires.le_n.2 c.args.text.now s.lines s.count c.requires.le_n.3 (old l) (room l)
    c.loop-i.i (is_left i) _ c.loop-i.invariant _
    (rw (here_is i) at w.seeds0_after) (rw (here_is i) at w.seeds1_after) (rw (here_is i) at w.shares_after))

pub returns : goal.returns
returns c =
    let l = (goal.at.returns c).At-loop-i in
    let s = c.args.sheet in
    let all : c.loop-i.i ≡ s.count = omega (arith, c.loop-i-test.false, c.from-i-end.ensures) in
    let both = written_all s.n s.expander c.requires.le_n.0 c.requires.le_n.1 c.requires.le_n.2 c.args.text.now s.lines s.count c.requires.le_n.3 (old l) (room l)
    _ (rw all at c.loop-i.invariant) in record { seeds0_after = both.0; seeds1_after = both.1.0; shares_after = both.1.1 }
