-- `exam_answering::solving::print_answer` meets its contract: what is lent to the search are the sheet's own reports.
use mathlib.Core.Path.{◌≡◌, refl, sym, ap, ap₂, subst, ◌∙◌}
use mathlib.Core.Bool.{Bool, true, false}
use mathlib.Core.List.{List}
use Prim.Native.Nat.{ℕ, ◌*◌, ◌≤◌}
use native.Mathlib.Omega.{arith}
use lib.ListN.{length, take, drop}
use lib.Seq.{length-take-le}
use Rattle.places.specs.Places.{overlay}
use Rattle.expander.specs.Expander.{is_expander}
use Rattle.point.specs.PublicShare.{public_share_length}
use Rattle.tree.specs.SearchRule.{heading_length}
use Rattle.search.specs.Search.{Lent, lent}
use Rattle.honest.specs.Honest.{Accepted, record_read, list_read}
use Rattle.exam_text.specs.Sheet.{Sheet, expander_number, Within}
use Rattle.exam_text.specs.Reader.{read_sheet, sheet_of}
use Rattle.exam_text.proofs.Records.{Rounds}
use Rattle.exam_text.proofs.ReaderExact.{sheet_within}
use Rattle.exam_reports.specs.SheetReports.{made_with, reports_made, seeds0_of, seeds1_of, public_shares_of}
use Rattle.exam_reports.proofs.SheetMaking.{reports_stand, reports_read}
use Rattle.exam_answering.specs.Printing.{printed, round_length}
use Rattle.exam_answering.specs.SheetSearch.{sheet_search, searched_text}
use Rattle.exam_answering.proofs.Longest.{answer_most}
use Rattle.exam_answering.proofs.SheetSearch.{shares_room, same_lent, sheet_accepted, sheet_printed, sheet_rounds}
use borrow.Author.Rules.{rules}
use Rattle.exam_answering.proofs.solving.print_answer.Goals as goal
use Rattle.exam_answering.proofs.solving.print_answer.Goals.{Start}

-- ---- the sheet
abbrev sheet : Start → Sheet
sheet s = sheet_of s.args.text.now

within : (s : Start) → Within (sheet s)
within s = (sheet_within s.args.text.now s.requires.text_value.0).0

from : (s : Start) → 1 ≤ (sheet s).n
from s = omega (arith, s.requires.text_value.1, s.requires.n_value.0)

known : (s : Start) → is_expander (expander_number (sheet s).expander) ≡ true
known s = rw (← s.requires.n_value.2) s.requires.text_value.5

least : (s : Start) → 1 ≤ (sheet s).t
least s = omega (arith, s.requires.text_value.3, s.requires.n_value.1)

most : (s : Start) → (sheet s).t ≤ 65535
most s = omega (arith, s.requires.text_value.4, s.requires.n_value.1)

-- ---- its search
abbrev asked : Start → Lent
asked s = sheet_search (sheet s) s.args.area.now s.args.list.now

accepted : (s : Start) → Accepted (asked s)
accepted s = sheet_accepted (sheet s) (within s) (from s) (known s) s.args.area.now s.args.list.now (least s) (most s) s.requires.seeds0_len.3 s.requires.seeds0_len.4

rounds : (s : Start) → Rounds round_length (sheet s).n (drop heading_length (record_read (asked s)))
rounds s = sheet_rounds (sheet s) (within s) (from s) (known s) s.args.area.now s.args.list.now (least s) (most s) s.requires.seeds0_len.3 s.requires.seeds0_len.4

fits : (s : Start) → length (searched_text (sheet s) s.args.area.now s.args.list.now) ≤ 43232
fits s =
    rw (sheet_printed (sheet s) (within s) (from s) (known s) s.args.area.now s.args.list.now (least s) (most s) s.requires.seeds0_len.3 s.requires.seeds0_len.4)
    (answer_most (sheet s) (within s) (least s))

-- ---- what is lent to it
room : (s : Start) (w : ℕ) → w ≡ public_share_length s.args.sheet.n → w * s.args.sheet.count ≤ 24832
room s w size = shares_room s.args.sheet.n s.args.sheet.count w size s.requires.text_value.2 s.requires.text_value.6

-- the reports that were made, in the space for the first seeds, the second seeds and the public shares
module _ (s : Start) (r : Bool) (first second third : List ℕ)
    (made : let a = s.args in made_with r first second third ≡ reports_made (read_sheet a.text.now) a.seeds0.now a.seeds1.now a.shares.now) where
  stand : (first ≡ overlay (seeds0_of (sheet s)) s.args.seeds0.now) × (second ≡ overlay (seeds1_of (sheet s)) s.args.seeds1.now)
      × (third ≡ overlay (public_shares_of (sheet s)) s.args.shares.now)
  stand =
      let a = s.args in
      let q = s.requires in
      reports_stand a.text.now a.seeds0.now a.seeds1.now a.shares.now q.text_value.0 (from s) (known s) a.sheet.n a.sheet.count q.n_value.0 q.n_value.3
      (omega (arith, q.text_value.6, q.seeds0_len.0)) (omega (arith, q.text_value.6, q.seeds0_len.1)) (omega (arith, room s _ refl, q.seeds0_len.2)) _ _ _ _ made

  reports : let n = s.args.sheet.n in let C = s.args.sheet.count in
      (take (16 * C) first ≡ seeds0_of (sheet s)) × (take (16 * C) second ≡ seeds1_of (sheet s)) × (take (public_share_length n * C) third ≡ public_shares_of (sheet s))
  reports =
      let a = s.args in
      let q = s.requires in
      reports_read a.text.now a.seeds0.now a.seeds1.now a.shares.now q.text_value.0 (from s) (known s) a.sheet.n a.sheet.count q.n_value.0 q.n_value.3
      (omega (arith, q.text_value.6, q.seeds0_len.0)) (omega (arith, q.text_value.6, q.seeds0_len.1)) (omega (arith, room s _ refl, q.seeds0_len.2)) _ _ _ _ made

  module _ (w : ℕ) (size : w ≡ public_share_length s.args.sheet.n) where
    -- the search that is asked for is the sheet's
    abbrev lent_to : Lent
    lent_to =
        let a = s.args in
        let m = w * a.sheet.count in
        lent a.sheet.n false a.sheet.t a.sheet.expander (take (16 * a.sheet.count) first) (take m third) (take (16 * a.sheet.count) second) (take m third) a.area.now a.list.now

    same_search : lent_to ≡ asked s
    same_search =
        let q = s.requires in
        same_lent (sheet s) _ _ _ _ _ _ _ _ q.n_value.0 q.n_value.1 q.n_value.2 reports.0 reports.1 (ap (λ (m : ℕ). take (m * s.args.sheet.count) third) size ∙ reports.2)

    same_text : let a = s.args in printed a.sheet.n (record_read lent_to) (list_read lent_to) ≡ searched_text (sheet s) a.area.now a.list.now
    same_text = ap₂ (λ (n : ℕ) (q : Lent). printed n (record_read q) (list_read q)) s.requires.n_value.0 same_search

    -- what is printed of it
    text_size : (n : ℕ) → let a = s.args in n ≡ length (printed a.sheet.n (record_read lent_to) (list_read lent_to)) → n ≡ length (searched_text (sheet s) a.area.now a.list.now)
    text_size n e = e ∙ ap length same_text

    text_stands : (new : List ℕ) → let a = s.args in new ≡ overlay (printed a.sheet.n (record_read lent_to) (list_read lent_to)) a.out.now
        → new ≡ overlay (searched_text (sheet s) a.area.now a.list.now) a.out.now
    text_stands new e = e ∙ ap (λ (bytes : List ℕ). overlay bytes s.args.out.now) same_text

-- ---- the needs
pub overflow_mul-shares_end : goal.overflow_mul-shares_end
overflow_mul-shares_end c = omega (arith, room (goal.at.overflow_mul-shares_end c).Start _ c.public_share_length.ensures)

pub slice_bounds-search_printed-end-2 : goal.slice_bounds-search_printed-end-2
slice_bounds-search_printed-end-2 c = sym (length-take-le _ _ (search rules))

pub slice_bounds-search_printed-end-4 : goal.slice_bounds-search_printed-end-4
slice_bounds-search_printed-end-4 c = sym (length-take-le _ _ (search rules))

pub slice_bounds-search_printed-end-5 : goal.slice_bounds-search_printed-end-5
slice_bounds-search_printed-end-5 c = omega (arith, room (goal.at.slice_bounds-search_printed-end-5 c).Start _ c.public_share_length.ensures)

pub slice_bounds-search_printed-end-6 : goal.slice_bounds-search_printed-end-6
slice_bounds-search_printed-end-6 c =
    sym (length-take-le _ _ (omega (arith, room (goal.at.slice_bounds-search_printed-end-6 c).Start _ c.public_share_length.ensures)))

pub search_printed-requires : goal.search_printed-requires
search_printed-requires c =
    let s = (goal.at.search_printed-requires c).Start in
    let m = c.make_reports in
    let q = c.requires in
    let same = sym (same_search s _ _ _ _ m.ensures _ c.public_share_length.ensures) in
    let text = sym (same_text s _ _ _ _ m.ensures _ c.public_share_length.ensures) in
    record {
      le_n = (q.text_value.1, q.text_value.2, subst Accepted same (accepted s));
      rounds =
          subst (λ (q : Lent). Rounds round_length c.args.sheet.n (drop heading_length (record_read q))) same
          (subst (λ (n : ℕ). Rounds round_length n (drop heading_length (record_read (asked s)))) (sym q.n_value.0) (rounds s));
      list_in_bounds = subst (λ (bytes : List ℕ). length bytes ≤ length c.args.out.now) text (omega (arith, fits s, q.seeds0_len.5));
    }

pub returns : goal.returns
returns c =
    let s = (goal.at.returns c).Start in
    let m = c.make_reports in
    let w = c.public_share_length in
    let size = text_size s _ _ _ _ m.ensures _ w.ensures _ c.search_printed.ensures.value in
    record {
      seeds0_after = stand s _ _ _ _ m.ensures;
      value = (size, omega (arith, size, fits s));
      out_after = text_stands s _ _ _ _ m.ensures _ w.ensures _ c.search_printed.ensures.out_after;
    }
