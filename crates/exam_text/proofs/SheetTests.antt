-- The tests of a sheet's text, in their order, and what it says.
use Prim.Native.Nat.{ℕ, zero, suc, ◌≤◌, ◌<◌}
use mathlib.Core.Path.{◌≡◌, refl, sym, ap, ◌∙◌}
use mathlib.Core.Bool.{true, false, ◌&&◌}
use mathlib.Core.List.{List}
use borrow.Author.Tests.{le-leb, lt-leb}
use lib.ListN.{length, drop}
use lib.Dec.{leb}
use Rattle.exam_text.specs.Reader.{is_first_line, after_first_line, line_length, are_lines, lines_of, is_sheet, sheet_of, SheetSays}
use Rattle.exam_text.proofs.Reading.{FirstLineSays}

pub lines_count : (n m : ℕ) (cs : List ℕ) → length (lines_of n m cs) ≡ m
unfolding lines_of
lines_count n zero cs = refl
lines_count n (suc m) cs = ap suc (lines_count n m (drop (line_length n) cs))

module _ (t : List ℕ) where
  pub too_long : 4096 < length t → is_sheet t ≡ false
  unfolding is_sheet
  too_long h = rw (lt-leb (length t) 4096 h)

  module _ (a : length t ≤ 4096) where
    pub no_first_line_lem : is_first_line t ≡ false → is_sheet t ≡ false
    unfolding is_sheet
    no_first_line_lem f = rw (le-leb (length t) 4096 a, f)

    module _ (f : is_first_line t ≡ true) (n u count e here : ℕ) (s : FirstLineSays t n u count e here) where
      left : is_sheet t ≡ (leb n 32 && leb count 32 && are_lines n count (drop here t))
      unfolding is_sheet
      left = rw (le-leb (length t) 4096 a, f, s.n_read, s.count_is_read, s.rest.same)

      pub too_wide : 32 < n → is_sheet t ≡ false
      too_wide h = left ∙ rw (lt-leb n 32 h)

      module _ (b : n ≤ 32) where
        pub too_many : 32 < count → is_sheet t ≡ false
        too_many h = left ∙ rw (le-leb n 32 b, lt-leb count 32 h)

        module _ (d : count ≤ 32) where
          pub lines_decide : is_sheet t ≡ are_lines n count (drop here t)
          lines_decide = left ∙ rw (le-leb n 32 b, le-leb count 32 d)

          pub sheet_says : SheetSays t n u count e here
          unfolding sheet_of
          sheet_says = record {
            n_read = s.n_read;
            t_read = s.t_read;
            count_is_read = s.count_is_read ∙ sym (lines_count _ _ (after_first_line t));
            expander_read = s.expander_read;
            lines_within = s.rest.within;
            lines_placed = s.rest.same;
          }
