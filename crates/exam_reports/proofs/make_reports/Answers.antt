-- `exam_reports::make_reports` meets its contract: each test is one of those that the reports are made by, and what is then written are they.
use mathlib.Core.Path.{◌≡◌, sym, ap, ◌∙◌}
use mathlib.Core.Bool.{true, ◌&&◌}
use mathlib.Core.List.{List}
use Prim.Native.Nat.{ℕ, ◌*◌, ◌≤◌}
use native.Mathlib.Omega.{arith}
use borrow.Author.Tests.{leb-true}
use lib.ListN.{length}
use lib.Dec.{leb}
use Rattle.places.proofs.Lists.{and_left, and_right}
use Rattle.expander.specs.Expander.{is_expander}
use Rattle.point.specs.PublicShare.{public_share_length}
use Rattle.exam_text.specs.Sheet.{expander_number, Within}
use Rattle.exam_text.specs.Reader.{is_sheet, sheet_of, SheetSays}
use Rattle.exam_text.proofs.ReaderExact.{sheet_within}
use Rattle.exam_text.proofs.Placed as placed
use Rattle.exam_reports.proofs.SheetMaking.{no_sheet_lem, no_bits, no_expander, no_room_lem, all_made}
use Rattle.exam_reports.proofs.make_reports.Goals as goal
use Rattle.exam_reports.proofs.make_reports.Goals.{Else-sheet-eq0, Else-not-fit, Else-not-is_expander, In-Some}

abbrev text : In-Some → List ℕ
text e = e.args.text.now

read : (e : In-Some) → is_sheet (text e) ≡ true
read e = sym e.in-Some.ensures.sheet

says : (e : In-Some) → let r = e.in-Some.sheet in SheetSays (text e) r.n r.t r.count r.expander r.lines
says e = e.in-Some.ensures.says

within : (e : In-Some) → Within (sheet_of (text e))
within e = (sheet_within (text e) (read e)).0

from : (e : Else-sheet-eq0) → 1 ≤ (sheet_of (e.args.text.now)).n
from e =
    let s = e.in-Some.ensures.says in
    omega (arith, s.n_read, e.if-sheet-eq0.false)

known : (e : Else-not-is_expander) → is_expander (expander_number (sheet_of (e.args.text.now)).expander) ≡ true
known e =
    let s = e.in-Some.ensures.says in
    ap is_expander (sym s.expander_read) ∙ sym e.is_expander.ensures ∙ e.if-not-is_expander.false

-- all fit
passed : (e : Else-not-fit) → e.fit.result ≡ true
passed e = e.if-not-fit.false

rooms : (e : Else-not-fit) → let a = e.args in let r = e.in-Some.sheet in
    (16 * r.count ≤ length a.seeds0.now) × (16 * r.count ≤ length a.seeds1.now) × (public_share_length r.n * r.count ≤ length a.shares.now)
rooms e =
    let a = e.args in
    let r = e.in-Some.sheet in
    let all = sym e.fit.ensures ∙ passed e in
    let first = leb (16 * r.count) (length a.seeds0.now) in
    let second = leb (16 * r.count) (length a.seeds1.now) in
    let third = leb (public_share_length r.n * r.count) (length a.shares.now) in
    let others = and_right first (second && third) all in
    (leb-true _ _ (and_left first (second && third) all), leb-true _ _ (and_left second third others), leb-true _ _ (and_right second third others))

-- ---- the needs
pub returns-in_default : goal.returns-in_default
returns-in_default c =
    let a = c.args in
    no_sheet_lem a.text.now a.seeds0.now a.seeds1.now a.shares.now (sym c.in_default.ensures.sheet)

pub returns-then-sheet-eq0 : goal.returns-then-sheet-eq0
returns-then-sheet-eq0 c = no_bits (text (goal.at.returns-then-sheet-eq0 c).In-Some) _ _ _ (read (goal.at.returns-then-sheet-eq0 c).In-Some) (omega (arith, (says (goal.at.returns-then-sheet-eq0 c).In-Some).n_read, c.if-sheet-eq0.true))

pub returns-then-not-is_expander : goal.returns-then-not-is_expander
returns-then-not-is_expander c =
    no_expander (text (goal.at.returns-then-not-is_expander c).In-Some) _ _ _ (read (goal.at.returns-then-not-is_expander c).In-Some) (from (goal.at.returns-then-not-is_expander c).Else-sheet-eq0) (ap is_expander (sym (says (goal.at.returns-then-not-is_expander c).In-Some).expander_read) ∙ sym c.is_expander.ensures ∙ c.if-not-is_expander.true)

pub fit-requires : goal.fit-requires
fit-requires c =
    (omega (arith, (says (goal.at.fit-requires c).In-Some).n_read, (within (goal.at.fit-requires c).In-Some).n_most), omega (arith, (says (goal.at.fit-requires c).In-Some).count_is_read, (within (goal.at.fit-requires c).In-Some).lines_at_most))

pub returns-then-not-fit : goal.returns-then-not-fit
returns-then-not-fit c =
    no_room_lem (text (goal.at.returns-then-not-fit c).In-Some) _ _ _ (read (goal.at.returns-then-not-fit c).In-Some) (from (goal.at.returns-then-not-fit c).Else-sheet-eq0) (known (goal.at.returns-then-not-fit c).Else-not-is_expander) _ _ (says (goal.at.returns-then-not-fit c).In-Some).n_read (says (goal.at.returns-then-not-fit c).In-Some).count_is_read (sym c.fit.ensures ∙ c.if-not-fit.true)

pub write_reports-requires : goal.write_reports-requires
write_reports-requires c =
    let s = says (goal.at.write_reports-requires c).In-Some in record {
      le_n = (
        omega (arith, c.if-sheet-eq0.false),
        omega (arith, s.n_read, (within (goal.at.write_reports-requires c).In-Some).n_most),
        sym c.is_expander.ensures ∙ c.if-not-is_expander.false,
        placed.sheet_laid (text (goal.at.write_reports-requires c).In-Some) _ _ c.in-Some.sheet.lines s.n_read s.count_is_read s.lines_placed (read (goal.at.write_reports-requires c).In-Some),
      );
      count_in_bounds = rooms (goal.at.write_reports-requires c).Else-not-fit;
    }

pub returns : goal.returns
returns c =
    let s = says (goal.at.returns c).In-Some in
    let r = c.in-Some.sheet in
    all_made (text (goal.at.returns c).In-Some) _ _ _ (read (goal.at.returns c).In-Some) (from (goal.at.returns c).Else-sheet-eq0) (known (goal.at.returns c).Else-not-is_expander) r.n r.count s.n_read s.count_is_read (sym c.fit.ensures ∙ passed (goal.at.returns c).Else-not-fit) r.expander r.lines s.expander_read
    (placed.sheet_lines (text (goal.at.returns c).In-Some) r.n r.count r.lines s.n_read s.count_is_read s.lines_placed) _ _ _ c.write_reports.ensures.seeds0_after c.write_reports.ensures.seeds1_after c.write_reports.ensures.shares_after
