-- The outcome of `answer`, cause by cause.
use Prim.Native.Nat.{ℕ, ◌≤◌, ◌<◌}
use native.Mathlib.Omega.{arith}
use mathlib.Core.Path.{◌≡◌}
use mathlib.Core.Bool.{true, false}
use mathlib.Core.List.{List}
use lib.ListN.{length}
use Rattle.std.specs.Prelude.{Err}
use Rattle.places.proofs.Places.{overlay_nil}
use Rattle.calls.specs.Bounds.{most_bits, most_threshold, outside}
use Rattle.calls.specs.Outcome.{refused, answered}
use Rattle.calls.specs.Refusals.{number_of}
use Rattle.calls.specs.declared.Refusal.{Refusal}
use Rattle.calls.proofs.Decisions.{below_bounds, in_bounds}
use Rattle.expander.specs.Expander.{is_expander}
use Rattle.exam_text.specs.Sheet.{expander_number}
use Rattle.exam_text.specs.Reader.{is_sheet, sheet_of, read_sheet}
use Rattle.exam_answering.specs.AnswerText.{answer_text}
use Rattle.exam_lines.specs.Lines.{written_in}
use Rattle.exam_answering.specs.Exam.{exam_outcome, exam_exit}

module _ (text : List ℕ) (room : ℕ) where
  pub no_sheet_lem : is_sheet text ≡ false → exam_outcome text room ≡ refused 10
  unfolding exam_outcome read_sheet
  no_sheet_lem h = rw h

  -- the text of a sheet
  module _ (read : is_sheet text ≡ true) where
    pub no_bits : (sheet_of text).n < 1 → exam_outcome text room ≡ refused 1
    unfolding exam_outcome read_sheet
    no_bits h = rw (read, below_bounds most_bits (sheet_of text).n h)

    -- for strings of 1 to 32 bits
    module _ (from : 1 ≤ (sheet_of text).n) (to : (sheet_of text).n ≤ 32) where
      pub bad_threshold : outside most_threshold (sheet_of text).t ≡ true → exam_outcome text room ≡ refused 2
      unfolding exam_outcome read_sheet
      bad_threshold h = rw (read, in_bounds most_bits (sheet_of text).n from (omega arith), h)

      -- with a threshold of 1 to 65,535
      module _ (inside : outside most_threshold (sheet_of text).t ≡ false) where
        pub no_expander : is_expander (expander_number (sheet_of text).expander) ≡ false → exam_outcome text room ≡ refused 3
        unfolding exam_outcome read_sheet
        no_expander h = rw (read, in_bounds most_bits (sheet_of text).n from (omega arith), inside, h)

        pub last_cause : is_expander (expander_number (sheet_of text).expander) ≡ true → exam_outcome text room ≡ written_in (answer_text (sheet_of text)) room
        unfolding exam_outcome read_sheet
        last_cause h = rw (read, in_bounds most_bits (sheet_of text).n from (omega arith), inside, h)

-- What a refusal returns, and that it leaves the space as it was.
pub refused_reply : (text out : List ℕ) (r : Refusal) → exam_outcome text (length out) ≡ refused (number_of r) → answered (Err r) out ≡ exam_exit text out
refused_reply text out r is = rw (is, overlay_nil out)
