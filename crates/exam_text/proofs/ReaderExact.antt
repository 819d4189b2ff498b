-- The reader is exact: it reads the text of each sheet within bounds as that sheet, and refuses every other text.
use Prim.Native.Nat.{ℕ, ◌≤◌}
use native.Mathlib.Omega.{arith}
use mathlib.Core.Path.{◌≡◌, refl, sym, ap, ◌∙◌}
use mathlib.Core.Logic.{◌↔◌, ◌≢◌, ◌⊎◌, inl, inr}
use mathlib.Core.Bool.{Bool, true, false, cond, ◌&&◌}
use mathlib.Core.List.{List}
use mathlib.Core.Option.{none, some}
use borrow.Author.Tests.{leb-true, le-leb}
use lib.ListN.{length}
use lib.Dec.{leb}
use Rattle.places.proofs.Lists.{and_left, and_right}
use Rattle.exam_text.specs.Sheet.{Line, Sheet, text, lines_text, Within}
use Rattle.exam_text.specs.Reader.{is_first_line, are_lines, length_read, count_read, after_first_line, is_sheet, sheet_of, read_sheet}
use Rattle.exam_text.proofs.LinesText.{lines_are_lines, read_lines, LinesRead, lines_read}
use Rattle.exam_text.proofs.FirstLineText.{FirstLine, first_printed, FirstLineRead, first_read}

-- ---- the text of a sheet is read

module _ (s : Sheet) (w : Within s) where
  abbrev ls : List Line
  ls = s.lines

  first : FirstLine (text s) s.n s.t (length ls) s.expander (lines_text ls)
  unfolding text
  first = first_printed s.n s.t (length ls) (omega (arith, w.n_most)) w.t_digits (omega (arith, w.lines_at_most)) s.expander w.expander_digits (lines_text ls)

  is_sheet_lem : is_sheet (text s) ≡ true
  unfolding is_sheet
  is_sheet_lem =
      rw (
        le-leb (length (text s)) 4096 w.most,
        first.passes,
        first.n_read,
        first.c_read,
        first.rest_read,
        le-leb s.n 32 w.n_most,
        le-leb (length ls) 32 w.lines_at_most,
        lines_are_lines s.n ls w.n_bits w.seeds,
      )

  the_sheet : sheet_of (text s) ≡ s
  unfolding sheet_of
  the_sheet = rw (first.e_read, first.rest_read, first.n_read, first.t_read, first.c_read, read_lines s.n ls w.n_bits w.seeds)

  -- The text of a sheet within bounds passes, and is read as that sheet.
  pub sheet_text : (is_sheet (text s) ≡ true) × (sheet_of (text s) ≡ s)
  sheet_text = (is_sheet_lem, the_sheet)

  -- The reader reads the text of a sheet within bounds as that sheet.
  pub read_printed : read_sheet (text s) ≡ some s
  unfolding read_sheet
  read_printed = rw (is_sheet_lem, the_sheet)

-- Two sheets within bounds with the same text are the same.
pub text_injective : (s q : Sheet) → Within s → Within q → text s ≡ text q → s ≡ q
text_injective s q w v e = sym (sheet_text s w).1 ∙ ap sheet_of e ∙ (sheet_text q v).1

-- ---- what is read is the text of a sheet

module _ (cs : List ℕ) (e : is_sheet cs ≡ true) where
  -- the tests that the text passed
  record Passed : Type 0 where
    most : length cs ≤ 4096
    first : FirstLineRead cs
    n_most : length_read cs ≤ 32
    c_most : count_read cs ≤ 32
    lines : LinesRead (length_read cs) (count_read cs) (after_first_line cs)

  passed : Passed
  unfolding is_sheet
  passed =
      let a = leb (length cs) 4096 in
      let b = is_first_line cs in
      let c = leb (length_read cs) 32 in
      let d = leb (count_read cs) 32 in
      let l = are_lines (length_read cs) (count_read cs) (after_first_line cs) in
      let e₄ = and_left (a && b && c && d) l e in
      let e₃ = and_left (a && b && c) d e₄ in
      let e₂ = and_left (a && b) c e₃ in
      record {
        most = leb-true (length cs) 4096 (and_left a b e₂);
        first = first_read cs (and_right a b e₂);
        n_most = leb-true (length_read cs) 32 (and_right (a && b) c e₃);
        c_most = leb-true (count_read cs) 32 (and_right (a && b && c) d e₄);
        lines = lines_read (length_read cs) (count_read cs) (after_first_line cs) (and_right (a && b && c && d) l e);
      }

  written : cs ≡ text (sheet_of cs)
  unfolding text sheet_of
  written = rw (passed.lines.count, passed.lines.written) passed.first.written

  -- A text that passes is that of its sheet, which is within bounds.
  pub sheet_within : Within (sheet_of cs) × (cs ≡ text (sheet_of cs))
  unfolding sheet_of
  sheet_within = (
    record {
      n_most = passed.n_most;
      lines_at_most = rw passed.lines.count passed.c_most;
      t_digits = passed.first.t_digits;
      expander_digits = passed.first.e_digits;
      n_bits = passed.lines.strings;
      seeds = passed.lines.seeds;
      most = rw (← written) passed.most;
    },
    written,
  )

-- What the reader reads is the text of the sheet that it answers, which is within bounds.
pub printed_read : (cs : List ℕ) (s : Sheet) → read_sheet cs ≡ some s → Within s × (cs ≡ text s)
unfolding read_sheet
printed_read cs s e = go (is_sheet cs) refl e
  where
    go : (b : Bool) → is_sheet cs ≡ b → cond b (some (sheet_of cs)) none ≡ some s → Within s × (cs ≡ text s)
    go true p q = let r : sheet_of cs ≡ s = cc in rw r at (sheet_within cs p)
    go false p q = let z : ◌≡◌ {A = ℕ} 0 1 = cc in absurd (omega arith)

-- A text that does not pass is that of no sheet within bounds.
pub not_a_sheet : (cs : List ℕ) → is_sheet cs ≡ false → (s : Sheet) → Within s → cs ≢ text s
not_a_sheet cs e s w q =
    let t : true ≡ false = sym (sheet_text s w).0 ∙ ap is_sheet (sym q) ∙ e in
    let z : ◌≡◌ {A = ℕ} 0 1 = cc in
    omega arith

-- The reader is exact: it reads a text as a sheet exactly if the sheet is within bounds and the text is its text.
pub reader_exact : (cs : List ℕ) (s : Sheet) → (read_sheet cs ≡ some s) ↔ (Within s × (cs ≡ text s))
reader_exact cs s = (printed_read cs s, λ h. ap read_sheet h.1 ∙ read_printed s h.0)

-- the bytes are the text of a sheet within bounds, or of none
abbrev pub SheetOrNone : List ℕ → Type 0
SheetOrNone cs = ((s : Sheet) × Within s × (cs ≡ text s)) ⊎ ((s : Sheet) → Within s → cs ≢ text s)

-- Of any bytes one of both holds.
pub sheet_or_none : (cs : List ℕ) → SheetOrNone cs
sheet_or_none cs = go (is_sheet cs) refl
  where
    go : (b : Bool) → is_sheet cs ≡ b → SheetOrNone cs
    go true e = inl (sheet_of cs, (sheet_within cs e).0, (sheet_within cs e).1)
    go false e = inr (not_a_sheet cs e)

-- The text of no sheet within bounds is read as none.
pub none_read_lem : (cs : List ℕ) → ((s : Sheet) → Within s → cs ≢ text s) → read_sheet cs ≡ none
unfolding read_sheet
none_read_lem cs h = go (is_sheet cs) refl
  where
    go : (b : Bool) → is_sheet cs ≡ b → cond b (some (sheet_of cs)) none ≡ none
    go true e = absurd (h (sheet_of cs) (sheet_within cs e).0 (sheet_within cs e).1)
    go false e = refl
