-- The answer to a sheet is what is printed of an accepted search of its own reports, which are honest.
use Prim.Native.Nat.{ℕ}
use mathlib.Core.Path.{◌≡◌, sym, ◌∙◌}
use borrow.Author.Tests.{ltb-false, not-false}
use lib.ListN.{replicate, length-replicate}
use lib.Dec.{ltb}
use Rattle.calls.proofs.Decisions.{neither}
use Rattle.weights.proofs.Ones.{ones}
use Rattle.honest.specs.Honest.{Accepted, Honest}
use Rattle.exam_text.specs.Sheet.{Sheet, strings, text, Within}
use Rattle.exam_answering.specs.Exam.{exam_outcome}
use Rattle.exam_answering.specs.SheetSearch.{sheet_search, search_text}
use Rattle.exam_answering.proofs.Exam.{sheet_outcome, sheet_clear, sheet_answer}
use Rattle.exam_answering.proofs.SheetSearch.{sheet_honest, sheet_accepted, search_answer}

-- The answer that is written to a sheet is what is printed of the record and the list of the search of its own reports, with its n, t and expander. They are
-- honest, made for its strings with the weight one each, and the search is accepted.
pub exam_searched : (s : Sheet) → Within s → (room : ℕ) → (exam_outcome (text s) room).number ≡ 0
    → Honest (sheet_search s (replicate 19382 0) (replicate 128 0)) (strings s) (ones (strings s)) × Accepted (sheet_search s (replicate 19382 0) (replicate 128 0))
    × ((exam_outcome (text s) room).written ≡ search_text s)
exam_searched s w room h =
    let clear = sheet_clear s w room (rw (sheet_outcome s w room) at h) in
    let length-in = neither (ltb s.n 1) (ltb 256 s.n) clear.0 in
    let threshold-in = neither (ltb s.t 1) (ltb 65535 s.t) clear.1.0 in
    let from = ltb-false s.n 1 length-in.0 in
    let least = ltb-false s.t 1 threshold-in.0 in
    let most = ltb-false 65535 s.t threshold-in.1 in
    let known = not-false _ clear.1.1.0 in (
      sheet_honest s w from known (replicate 19382 0) (replicate 128 0),
      sheet_accepted s w from known (replicate 19382 0) (replicate 128 0) least most (length-replicate {A = ℕ} 19382 0) (length-replicate {A = ℕ} 128 0),
      sheet_answer s w room h ∙ sym (search_answer s w from known least most),
    )
