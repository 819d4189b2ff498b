-- A bound on the length of an answer to a sheet within its bounds.
use Prim.Native.Nat.{ℕ, zero, suc, ◌+◌, ◌*◌, ◌≤◌}
use native.Mathlib.Omega.{arith}
use native.Mathlib.Nat.{suc-mul, mul-le-mul, div-le_self}
use mathlib.Core.Path.{◌≡◌, refl, ap}
use mathlib.Core.List.{List, [], ◌∷◌, ◌++◌}
use lib.ListN.{length, length-append, length-map}
use Rattle.places.specs.Lists.{select}
use Rattle.bits.specs.Strings.{Bits, count}
use Rattle.kept.specs.Kept.{reaches}
use Rattle.query.specs.Query.{OfLength, children}
use Rattle.tree.specs.SearchRule.{start, search_list}
use Rattle.places.proofs.Lists.{all_map}
use Rattle.query.proofs.Children.{children_length, children_longer}
use Rattle.tree.proofs.Kept.{Survives, list_length_lem}
use Rattle.tree.proofs.Totals.{count_le, heavy, heavy_held, Stands, stands_start, stands_kept, stands_few, kept_length}
use Rattle.exam_text.specs.Characters.{space, newline, binary, decimal}
use Rattle.exam_text.specs.Sheet.{Sheet, strings, Within}
use Rattle.exam_lines.specs.Lines.{prefix_line, heavy_line}
use Rattle.exam_answering.specs.AnswerText.{heavy_lines, prefix_lines, queried_from, queried, answer_text}
use Rattle.exam_answering.specs.Exam.{answer_space}
use Rattle.exam_text.proofs.LineFields.{binary_length}
use Rattle.exam_answering.proofs.Printed.{lines_append}
use Rattle.exam_text.proofs.TextLengths.{decimal_length_lem}

-- ---- one line

prefix_line_most : (q : Bits) (x : ℕ) → x ≤ 32 → length (prefix_line q x) ≤ length q + 4
prefix_line_most q x h =
    let total = decimal x ++ (newline ∷ []) in
    omega (arith, length-append (binary q) (space ∷ total), binary_length q, length-append (decimal x) (newline ∷ []), decimal_length_lem 1 20 x (omega arith))

heavy_line_length : (s : Bits) → length (heavy_line s) ≡ length s + 7
heavy_line_length s = omega (arith, length-append (binary s) (newline ∷ []), binary_length s)

-- ---- a query, and a list

query_lines_most : (T : Bits → ℕ) → ((q : Bits) → T q ≤ 32) → (k : ℕ) (qs : List Bits) → OfLength k qs → length (prefix_lines T qs) ≤ length qs * (k + 4)
unfolding prefix_lines
query_lines_most T small k [] a = omega arith
query_lines_most T small k (q ∷ qs) a =
    omega (arith, length-append (prefix_line q (T q)) (prefix_lines T qs), prefix_line_most q (T q) (small q), a.0, query_lines_most T small k qs a.1, suc-mul (length qs) (k + 4))

heavy_lines_length : (n : ℕ) (ss : List Bits) → OfLength n ss → length (heavy_lines ss) ≡ length ss * (n + 7)
unfolding heavy_lines
heavy_lines_length n [] a = omega arith
heavy_lines_length n (s ∷ ss) a =
    omega (arith, length-append (heavy_line s) (heavy_lines ss), heavy_line_length s, a.0, heavy_lines_length n ss a.1, suc-mul (length ss) (n + 7))

-- ---- the queries

-- the lines of m queries of at most 64 prefixes, the first of k + 1 bits
unfoldable lines_most : ℕ → ℕ → ℕ
lines_most zero k = 0
lines_most (suc m) k = 64 * (k + 5) + lines_most m (suc k)

most_grows : (m n k : ℕ) → m ≤ n → lines_most m k ≤ lines_most n k
unfolding lines_most
most_grows zero n k h = omega arith
most_grows (suc m) zero k h = absurd (omega arith)
most_grows (suc m) (suc n) k h = omega (arith, most_grows m n (suc k) (omega arith))

most_is : lines_most 32 0 ≡ 41984
unfolding lines_most
most_is = refl

-- At most 32 strings of n bits, and a threshold of at least 1.
module _ (n t : ℕ) (xs : List Bits) (all : OfLength n xs) (some : 1 ≤ t) (few : length xs ≤ 32) where
  lines_at_most : (m k : ℕ) (ps : List Bits) → Stands (heavy t xs) xs k ps → k + m ≤ n → length ps ≤ 32 → length (prefix_lines (count xs) (queried_from (heavy t xs) m ps)) ≤ lines_most m k
  unfolding queried_from prefix_lines lines_most
  lines_at_most zero k ps a l h = omega arith
  lines_at_most (suc m) k ps a l h =
      let qs = children ps in
      let kept = select (heavy t xs) qs in
      let below = queried_from (heavy t xs) m kept in
      let bits = children_longer k ps (all_map (Survives (heavy t xs) k) _ (λ p v. v.0) ps a.0) in
      let small : (q : Bits) → count xs q ≤ 32 = λ q. omega (arith, count_le xs q) in
      let v = stands_kept (heavy t xs) t n xs all (heavy_held t xs n) k ps a (omega arith) in
      let less : length kept ≤ 32 = omega (arith, stands_few (heavy t xs) t n xs all (heavy_held t xs n) some k (omega arith) kept v, div-le_self (length xs) t) in
      let wide : length qs ≤ 64 = omega (arith, children_length ps) in
      let same : suc k + 4 ≤ k + 5 = omega arith in
      omega (
        arith,
        ap length (lines_append (count xs) qs below),
        length-append (prefix_lines (count xs) qs) (prefix_lines (count xs) below),
        query_lines_most (count xs) small (suc k) qs bits,
        mul-le-mul wide same,
        lines_at_most m (suc k) kept v (omega arith) less,
      )

  list_most : (m : ℕ) → m ≤ n → length (search_list (reaches t) (count xs) m) ≤ 32
  unfolding search_list
  list_most zero l = omega arith
  list_most (suc m) l = omega (arith, kept_length n t xs all some m l, div-le_self (length xs) t)

-- The space that is named for every answer is enough.
pub answer_most : (s : Sheet) → Within s → 1 ≤ s.t → length (answer_text s) ≤ answer_space
unfolding answer_text
answer_most s w some =
    let xs = strings s in
    let few : length xs ≤ 32 = omega (arith, length-map s.lines (λ l. l.string), w.lines_at_most) in
    let ss = search_list (reaches s.t) (count xs) s.n in
    let lines = prefix_lines (count xs) (queried s.n s.t xs) in
    let wide : s.n + 7 ≤ 39 = omega (arith, w.n_most) in
    omega (
      arith,
      length-append lines (heavy_lines ss),
      lines_at_most s.n s.t xs w.n_bits some few s.n 0 start (stands_start (heavy s.t xs) xs) (omega arith) (omega arith),
      most_grows s.n 32 0 w.n_most,
      most_is,
      heavy_lines_length s.n ss (list_length_lem (reaches s.t) (count xs) s.n),
      mul-le-mul (list_most s.n s.t xs w.n_bits some few s.n (omega arith)) wide,
    )
