-- The reader of a key's line is exact: it reads the text of each line within bounds as that line, and refuses every other text.
use Prim.Native.Nat.{ℕ, ◌≤◌, ◌<◌}
use native.Mathlib.Omega.{arith}
use mathlib.Core.Path.{◌≡◌, refl, sym, ap, ◌∙◌}
use mathlib.Core.Logic.{◌↔◌, ◌≢◌}
use mathlib.Core.Bool.{Bool, true, false, cond, ◌&&◌, and-true}
use mathlib.Core.List.{List, ◌∷◌, ◌++◌}
use mathlib.Core.Option.{none, some}
use borrow.Author.Tests.{leb-true, le-leb, eq-eqb}
use lib.ListN.{length, drop, length-drop}
use lib.Seq.{take_all}
use lib.Dec.{leb}
use Rattle.places.proofs.Lists.{and_left, and_right}
use Rattle.exam_text.specs.Characters.{space, decimal}
use Rattle.exam_text.specs.Sheet.{line_text}
use Rattle.exam_text.specs.Reader.{number_then, first_number, second, third, line_length, is_line, are_lines}
use Rattle.exam_text.specs.KeyLine.{KeyLine, key_line_text, KeyWithin, is_key_line, key_line_of, read_key_line}
use Rattle.exam_text.proofs.NumberText.{printed_ends, printed_first, printed_behind, read_below, read_text_lem}
use Rattle.exam_text.proofs.LineTests.{lines_length}
use Rattle.exam_text.proofs.LinesText.{line_length_lem, line_is_line, read_line_lem, line_read, line_string, line_seeds}

-- ---- one line

-- a text of one line's length is one line exactly if it is laid out so
one_line : (n : ℕ) (cs : List ℕ) → length cs ≡ line_length n → are_lines n 1 cs ≡ is_line n cs
unfolding are_lines
one_line n cs l =
    rw (
      le-leb (line_length n) (length cs) (omega arith),
      take_all (line_length n) cs (omega arith),
      eq-eqb (length (drop (line_length n) cs)) 0 (omega (arith, length-drop (line_length n) cs)),
    )
    (and-true (is_line n cs))

-- ---- the text of a line is read

module _ (k : KeyLine) (w : KeyWithin k) where
  -- what stands behind the first number
  abbrev rest : List ℕ
  rest = decimal k.expander ++ (space ∷ line_text k.line)

  short : k.n < 100000
  short = omega (arith, w.n_most)

  n_ends : number_then space (key_line_text k) ≡ true
  unfolding key_line_text
  n_ends = printed_ends k.n space rest short refl

  n_read : first_number (key_line_text k) ≡ k.n
  unfolding key_line_text
  n_read = printed_first k.n space rest short refl

  at_second : second (key_line_text k) ≡ rest
  unfolding key_line_text
  at_second = printed_behind k.n space rest short refl

  expander_ends : number_then space (second (key_line_text k)) ≡ true
  expander_ends = rw at_second (printed_ends k.expander space (line_text k.line) w.expander_digits refl)

  expander_read : first_number (second (key_line_text k)) ≡ k.expander
  expander_read = rw at_second (printed_first k.expander space (line_text k.line) w.expander_digits refl)

  at_third : third (key_line_text k) ≡ line_text k.line
  at_third = rw at_second (printed_behind k.expander space (line_text k.line) w.expander_digits refl)

  is_key_line_lem : is_key_line (key_line_text k) ≡ true
  unfolding is_key_line
  is_key_line_lem =
      rw (n_ends, expander_ends, n_read, at_third, le-leb k.n 32 w.n_most)
      (one_line k.n (line_text k.line) (line_length_lem k.n k.line w.n_bits w.seeds) ∙ line_is_line k.n k.line w.n_bits w.seeds)

  the_key_line : key_line_of (key_line_text k) ≡ k
  unfolding key_line_of
  the_key_line = rw (n_read, expander_read, at_third, read_line_lem k.n k.line w.n_bits w.seeds)

  -- The text of a line within bounds passes, and is that line's.
  pub key_line_text_lem : (is_key_line (key_line_text k) ≡ true) × (key_line_of (key_line_text k) ≡ k)
  key_line_text_lem = (is_key_line_lem, the_key_line)

  -- The reader reads the text of a line within bounds as that line.
  pub read_printed : read_key_line (key_line_text k) ≡ some k
  unfolding read_key_line
  read_printed = rw (is_key_line_lem, the_key_line)

-- ---- what is read is the text of a line

module _ (cs : List ℕ) (e : is_key_line cs ≡ true) where
  -- the tests that the text passed
  record Passed : Type 0 where
    n_ends : number_then space cs ≡ true
    expander_ends : number_then space (second cs) ≡ true
    n_most : first_number cs ≤ 32
    line : are_lines (first_number cs) 1 (third cs) ≡ true

  passed : Passed
  unfolding is_key_line
  passed =
      let a = number_then space cs in
      let b = number_then space (second cs) in
      let c = leb (first_number cs) 32 in
      let d = are_lines (first_number cs) 1 (third cs) in
      let e₃ = and_left (a && b && c) d e in
      let e₂ = and_left (a && b) c e₃ in
      record {
        n_ends = and_left a b e₂;
        expander_ends = and_right a b e₂;
        n_most = leb-true (first_number cs) 32 (and_right (a && b) c e₃);
        line = and_right (a && b && c) d e;
      }

  size : length (third cs) ≡ line_length (first_number cs)
  size = omega (arith, lines_length (first_number cs) 1 (third cs) passed.line)

  laid : is_line (first_number cs) (third cs) ≡ true
  laid = sym (one_line (first_number cs) (third cs) size) ∙ passed.line

  written : cs ≡ key_line_text (key_line_of cs)
  unfolding key_line_text key_line_of
  written =
      read_text_lem space cs (omega arith) passed.n_ends
      ∙ ap (λ (r : List ℕ). decimal (first_number cs) ++ (space ∷ r))
      (read_text_lem space (second cs) (omega arith) passed.expander_ends
      ∙ ap (λ (r : List ℕ). decimal (first_number (second cs)) ++ (space ∷ r)) (sym (line_read (first_number cs) (third cs) size laid)))

  -- A text that passes is that of its line, which is within bounds.
  pub key_line_within : KeyWithin (key_line_of cs) × (cs ≡ key_line_text (key_line_of cs))
  unfolding key_line_of
  key_line_within = (
    record {
      n_most = passed.n_most;
      expander_digits = read_below space (second cs) (omega arith) passed.expander_ends;
      n_bits = line_string (first_number cs) (third cs) size laid;
      seeds = line_seeds (first_number cs) (third cs) size laid;
    },
    written,
  )

-- What the reader reads is the text of the line that it answers, which is within bounds.
printed_read : (cs : List ℕ) (k : KeyLine) → read_key_line cs ≡ some k → KeyWithin k × (cs ≡ key_line_text k)
unfolding read_key_line
printed_read cs k e = go (is_key_line cs) refl e
  where
    go : (b : Bool) → is_key_line cs ≡ b → cond b (some (key_line_of cs)) none ≡ some k → KeyWithin k × (cs ≡ key_line_text k)
    go true p q = let r : key_line_of cs ≡ k = cc in rw r at (key_line_within cs p)
    go false p q = let z : ◌≡◌ {A = ℕ} 0 1 = cc in absurd (omega arith)

-- A text that does not pass is that of no line within bounds.
pub not_a_key_line : (cs : List ℕ) → is_key_line cs ≡ false → (k : KeyLine) → KeyWithin k → cs ≢ key_line_text k
not_a_key_line cs e k w q =
    let t : true ≡ false = sym (is_key_line_lem k w) ∙ ap is_key_line (sym q) ∙ e in
    let z : ◌≡◌ {A = ℕ} 0 1 = cc in
    omega arith

-- The reader is exact: it reads a text as a line exactly if the line is within bounds and the text is its text.
pub key_reader_exact : (cs : List ℕ) (k : KeyLine) → (read_key_line cs ≡ some k) ↔ (KeyWithin k × (cs ≡ key_line_text k))
key_reader_exact cs k = (printed_read cs k, λ h. ap read_key_line h.1 ∙ read_printed k h.0)
