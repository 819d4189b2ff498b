-- The search of a sheet's own reports, and what is printed of it: document 01, 'Exam program'.
use Rattle.std.specs.Prelude.{ℕ, false, List, replicate}
use Rattle.search.specs.Search.{Lent, lent}
use Rattle.honest.specs.Honest.{record_read, list_read}
use Rattle.exam_text.specs.Sheet.{Sheet, expander_number}
use Rattle.exam_reports.specs.SheetReports.{seeds0_of, seeds1_of, public_shares_of}
use Rattle.exam_answering.specs.Printing.{printed}

-- the search with the sheet's n, t and expander, not weighted, and its reports; both servers are lent the same public shares
abbrev pub sheet_search : Sheet → List ℕ → List ℕ → Lent
sheet_search s record_area list_area =
    lent s.n false s.t (expander_number s.expander) (seeds0_of s) (public_shares_of s) (seeds1_of s) (public_shares_of s) record_area list_area

-- what is printed of its record and its list
abbrev pub searched_text : Sheet → List ℕ → List ℕ → List ℕ
searched_text s record_area list_area = printed s.n (record_read (sheet_search s record_area list_area)) (list_read (sheet_search s record_area list_area))

-- the same in the areas that the exam gives it, which are enough for every sheet
abbrev pub search_text : Sheet → List ℕ
search_text s = searched_text s (replicate 19382 0) (replicate 128 0)
