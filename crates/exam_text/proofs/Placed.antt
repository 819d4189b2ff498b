-- The lines of a sheet at their places in its text.
use Prim.Native.Nat.{ℕ, zero, suc, ◌+◌, ◌*◌, ◌≤◌, ◌<◌}
use native.Mathlib.Nat.{suc-mul, mul-le-mul_right}
use native.Mathlib.Omega.{arith}
use mathlib.Core.Path.{◌≡◌, ◌∙◌}
use mathlib.Core.Bool.{true, false, ◌&&◌}
use mathlib.Core.List.{List}
use borrow.Author.Tests.{leb-true, le-leb}
use lib.ListN.{length, get_or, take, drop, length-drop}
use lib.Seq.{drop-drop, length-take-le}
use lib.Dec.{leb}
use Rattle.places.specs.Places.{Bytes}
use Rattle.places.proofs.Lists.{and_left, and_right}
use Rattle.exam_text.specs.Sheet.{Line}
use Rattle.exam_text.specs.Reader.{line_length, is_line, line_of, are_lines, lines_of, is_first_line, after_first_line, length_read, count_read, is_sheet, sheet_of, has_line, no_line, line_at}
use Rattle.exam_text.proofs.LineTests.{lines_length}
use Rattle.exam_text.proofs.LinesText.{line_string, line_seeds}
use Rattle.exam_text.proofs.SheetTests.{lines_count}

next_place_lem : (i n : ℕ) (cs : List ℕ) → drop (i * line_length n) (drop (line_length n) cs) ≡ drop (suc i * line_length n) cs
next_place_lem i n cs =
    let e : line_length n + i * line_length n ≡ suc i * line_length n = omega (arith, suc-mul i (line_length n)) in
    drop-drop (i * line_length n) (line_length n) cs ∙ rw e

first_place_lem : (n : ℕ) (cs : List ℕ) → drop (0 * line_length n) cs ≡ cs
first_place_lem n cs = let e : 0 * line_length n ≡ 0 = omega arith in rw e

line_at_lem : (n m : ℕ) (cs : List ℕ) (i : ℕ) (d : Line) → i < m
    → get_or (lines_of n m cs) i d ≡ line_of n (take (line_length n) (drop (i * line_length n) cs))
unfolding lines_of
line_at_lem n zero cs i d h = absurd (omega arith)
line_at_lem n (suc m) cs zero d h = rw (first_place_lem n cs)
line_at_lem n (suc m) cs (suc i) d h = line_at_lem n m (drop (line_length n) cs) i d (omega arith) ∙ rw (next_place_lem i n cs)

line_laid : (n m : ℕ) (cs : List ℕ) (i : ℕ) → i < m → are_lines n m cs ≡ true → is_line n (take (line_length n) (drop (i * line_length n) cs)) ≡ true
unfolding are_lines
line_laid n zero cs i h e = absurd (omega arith)
line_laid n (suc m) cs zero h e =
    rw (first_place_lem n cs)
    (and_right (leb (line_length n) (length cs)) _
    (and_left (leb (line_length n) (length cs) && is_line n (take (line_length n) cs)) (are_lines n m (drop (line_length n) cs)) e))
line_laid n (suc m) cs (suc i) h e =
    rw (← next_place_lem i n cs)
    (line_laid n m (drop (line_length n) cs) i (omega arith)
    (and_right (leb (line_length n) (length cs) && is_line n (take (line_length n) cs)) (are_lines n m (drop (line_length n) cs)) e))

-- ---- the line that stands at a place

-- A line is sound: its string has n bits, and its seeds are 16 bytes each.
pub record Sound (n : ℕ) (l : Line) : Type 0 where
  pub bits : length l.string ≡ n
  pub sized0 : Bytes 16 l.seed0
  pub sized1 : Bytes 16 l.seed1

pub none_stands : (n at : ℕ) (t : List ℕ) → has_line n at t ≡ false → line_at n at t ≡ no_line
unfolding line_at
none_stands n at t e = rw e

module _ (n at : ℕ) (t : List ℕ) (e : has_line n at t ≡ true) where
  tests : (leb n 32 && leb (at + line_length n) (length t) ≡ true) × (is_line n (take (line_length n) (drop at t)) ≡ true)
  unfolding has_line
  tests = (
    and_left (leb n 32 && leb (at + line_length n) (length t)) (is_line n (take (line_length n) (drop at t))) e,
    and_right (leb n 32 && leb (at + line_length n) (length t)) (is_line n (take (line_length n) (drop at t))) e,
  )

  pub stands_short : n ≤ 32
  stands_short = leb-true n 32 (and_left (leb n 32) (leb (at + line_length n) (length t)) tests.0)

  pub stands_laid : is_line n (take (line_length n) (drop at t)) ≡ true
  stands_laid = tests.1

  pub stands_within : at + line_length n ≤ length t
  stands_within = leb-true (at + line_length n) (length t) (and_right (leb n 32) (leb (at + line_length n) (length t)) tests.0)

  pub stands_is : line_at n at t ≡ line_of n (take (line_length n) (drop at t))
  unfolding line_at
  stands_is = rw e

  pub stands_sound : Sound n (line_at n at t)
  stands_sound =
      let cs = take (line_length n) (drop at t) in
      let size : length cs ≡ line_length n = length-take-le (line_length n) (drop at t) (omega (arith, stands_within, length-drop at t)) in
      let seeds = line_seeds n cs size tests.1 in
      rw stands_is (record { bits = line_string n cs size tests.1; sized0 = seeds.0; sized1 = seeds.1 })

-- ---- line i of the m lines that stand in the text from place `lines` on

-- where it begins
abbrev pub line_place : ℕ → ℕ → ℕ → ℕ
line_place lines n i = lines + i * line_length n

module _ (t : List ℕ) (lines n m i : ℕ) (h : i < m) (short : n ≤ 32) (e : are_lines n m (drop lines t) ≡ true) where
  -- it lies within the text
  line_within : line_place lines n i + line_length n ≤ length t
  line_within =
      let g : suc i * line_length n ≤ m * line_length n = mul-le-mul_right (line_length n) h in
      omega (arith, g, suc-mul i (line_length n), lines_length n m (drop lines t) e, length-drop lines t)

  -- it stands at its place
  pub line_stands : has_line n (line_place lines n i) t ≡ true
  unfolding has_line
  line_stands =
      rw (le-leb n 32 short, le-leb (line_place lines n i + line_length n) (length t) line_within)
      (rw (drop-drop (i * line_length n) lines t) at (line_laid n m (drop lines t) i h e))

  pub line_placed : (d : Line) → get_or (lines_of n m (drop lines t)) i d ≡ line_at n (line_place lines n i) t
  unfolding line_at
  line_placed d = rw line_stands (line_at_lem n m (drop lines t) i d h ∙ rw (drop-drop (i * line_length n) lines t))

-- ---- the lines of a sheet are such lines

module _ (t : List ℕ) (n m lines : ℕ) (en : n ≡ (sheet_of t).n) (em : m ≡ length (sheet_of t).lines) (el : drop lines t ≡ after_first_line t) where
  n_read : n ≡ length_read t
  unfolding sheet_of
  n_read = en

  m_read : m ≡ count_read t
  unfolding sheet_of
  m_read = em ∙ lines_count (length_read t) (count_read t) (after_first_line t)

  pub sheet_lines : (sheet_of t).lines ≡ lines_of n m (drop lines t)
  unfolding sheet_of
  sheet_lines = rw (n_read, m_read, el)

  pub sheet_laid : is_sheet t ≡ true → are_lines n m (drop lines t) ≡ true
  unfolding is_sheet
  sheet_laid e =
      rw (n_read, m_read, el)
      (and_right (leb (length t) 4096 && is_first_line t && leb (length_read t) 32 && leb (count_read t) 32) (are_lines (length_read t) (count_read t) (after_first_line t)) e)
