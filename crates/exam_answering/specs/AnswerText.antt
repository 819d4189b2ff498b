-- The answer to an exam sheet, as text: document 01, 'Exam program'.
use Rattle.std.specs.Prelude.{ℕ, zero, suc, Bool, List, [], ◌∷◌, ◌++◌}
use Rattle.places.specs.Lists.{select}
use Rattle.bits.specs.Strings.{Bits, count}
use Rattle.kept.specs.Kept.{reaches}
use Rattle.tree.specs.SearchRule.{start, is_kept}
use Rattle.query.specs.Query.{children}
use Rattle.tree.specs.Cut.{honest_list}
use Rattle.exam_text.specs.Sheet.{Sheet, strings}
use Rattle.exam_lines.specs.Lines.{prefix_line, heavy_line}

-- ---- lines

-- a line for each of the prefixes, where T gives the totals
unfoldable pub prefix_lines : (Bits → ℕ) → List Bits → List ℕ
prefix_lines T [] = []
prefix_lines T (q ∷ qs) = prefix_line q (T q) ++ prefix_lines T qs

-- a line for each of the heavy strings
unfoldable pub heavy_lines : List Bits → List ℕ
heavy_lines [] = []
heavy_lines (s ∷ ss) = heavy_line s ++ heavy_lines ss

-- ---- the answer

-- the prefixes of m queries, the first for both children of the prefixes ps; `keeps` tells which prefixes are kept
unfoldable pub queried_from : (Bits → Bool) → ℕ → List Bits → List Bits
queried_from keeps zero ps = []
queried_from keeps (suc m) ps = children ps ++ queried_from keeps m (select keeps (children ps))

-- the queried prefixes of a search for strings of n bits with threshold t among the strings xs, in the order of the record
abbrev pub queried : ℕ → ℕ → List Bits → List Bits
queried n t xs = queried_from (is_kept (reaches t) (count xs)) n start

-- a line for each queried prefix, with its total; then the heavy strings, a line each
unfoldable pub answer_text : Sheet → List ℕ
answer_text s = prefix_lines (count (strings s)) (queried s.n s.t (strings s)) ++ heavy_lines (honest_list s.n s.t (strings s))
