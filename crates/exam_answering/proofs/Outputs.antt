-- The calls `refused_line` and `respond`: the numbers that are due and what is written.
use Prim.Native.Nat.{ℕ, ◌≤◌, ◌<◌}
use native.Mathlib.Omega.{arith}
use native.Mathlib.Decide.{dec_lt}
use mathlib.Core.Path.{◌≡◌, sym, ap, ◌∙◌}
use mathlib.Core.Logic.{◌≢◌, ◌⊎◌, inl, inr}
use mathlib.Core.List.{List, [], ◌∷◌, ◌++◌}
use borrow.Author.Tests.{ltb-false, le-ltb, ne_eqb}
use lib.ListN.{length, take, drop, length-append}
use lib.Seq.{take_all, length-take-le}
use Rattle.places.specs.Places.{overlay}
use Rattle.places.proofs.Places.{overlay_nil}
use Rattle.calls.specs.Bounds.{space_cause}
use Rattle.calls.specs.Causes.{Cause, Due}
use Rattle.calls.specs.Outcome.{Outcome, accepted}
use Rattle.calls.proofs.Judged.{space_decided, due, due_unique, judged_refused, judged_accepted, judged_clear, ◌&◌}
use Rattle.calls.proofs.Judged as judging
use Rattle.exam_text.specs.Characters.{newline, decimal}
use Rattle.exam_text.specs.Sheet.{Sheet, text, Within}
use Rattle.exam_answering.specs.AnswerText.{answer_text}
use Rattle.exam_lines.specs.Lines.{written_in, refused_text, output_for, refused_outcome}
use Rattle.exam_answering.specs.Exam.{exam_causes, exam_outcome, answer_space, output, respond_outcome}
use Rattle.exam_text.proofs.TextLengths.{decimal_length_lem}
use Rattle.exam_text.proofs.SheetTests.{too_long}
use Rattle.exam_answering.proofs.Exam.{exam_due, exam_answered}
use Rattle.exam_answering.proofs.ExamTheorems.{exam_numbers}
use Rattle.exam_answering.proofs.ExamCauses.{no_sheet_lem}

-- ---- a text written where it fits

-- the one cause: the text would not fit
abbrev pub space_causes : List ℕ → ℕ → List Cause
space_causes bytes room = space_cause (length bytes) room ∷ []

module _ (bytes area : List ℕ) where
  abbrev put : Outcome
  put = written_in bytes (length area)

  put_number : Due (space_causes bytes (length area)) put.number × ((k : ℕ) → Due (space_causes bytes (length area)) k → k ≡ put.number)
  put_number =
      let d : Due (space_causes bytes (length area)) put.number =
      due (space_decided (length bytes) (length area) judging.none) bytes in
      (d, λ k h. due_unique (space_causes bytes (length area)) h d)

  put_refused : put.number ≢ 0 → (put.written ≡ []) × (overlay put.written area ≡ area)
  put_refused h =
      let none_written = judged_refused (space_causes bytes (length area)) bytes h in
      (none_written, ap (λ (l : List ℕ). overlay l area) none_written ∙ overlay_nil area)

  put_written : put.number ≡ 0
      → (put.written ≡ bytes) × (length bytes ≤ length area) × (overlay put.written area ≡ bytes ++ drop (length bytes) area)
  unfolding overlay
  put_written h =
      let causes = space_causes bytes (length area) in
      let clear = judged_clear causes bytes (omega arith & tt) h in
      let written : put.written ≡ bytes = ap (λ (o : Outcome). o.written) (judged_accepted causes bytes clear) in
      (written, ltb-false (length area) (length bytes) clear.0, ap (λ (l : List ℕ). l ++ drop (length l) area) written)

-- ---- the line of the refusal k, with the space `area` for it

module _ (k : ℕ) (area : List ℕ) where
  abbrev line : Outcome
  line = refused_outcome k (length area)

  -- Its number is due, and no other is.
  pub line_number : Due (space_causes (refused_text k) (length area)) line.number
      × ((j : ℕ) → Due (space_causes (refused_text k) (length area)) j → j ≡ line.number)
  unfolding refused_outcome
  line_number = put_number (refused_text k) area

  -- A refusal writes nothing, so that its length is 0, and leaves the space as it was.
  pub line_refused : line.number ≢ 0 → (line.written ≡ []) × (overlay line.written area ≡ area)
  unfolding refused_outcome
  line_refused = put_refused (refused_text k) area

  -- Where it succeeds, the line is written and fits, and the bytes past it are as they were.
  pub line_written : line.number ≡ 0
      → (line.written ≡ refused_text k) × (length (refused_text k) ≤ length area)
      × (overlay line.written area ≡ refused_text k ++ drop (length (refused_text k)) area)
  unfolding refused_outcome
  line_written = put_written (refused_text k) area

-- ---- the whole output for an exam text, with the space `area` for it

module _ (bytes area : List ℕ) where
  abbrev response : Outcome
  response = respond_outcome bytes (length area)

  -- Its number is due, and no other is.
  pub respond_number : Due (space_causes (output bytes) (length area)) response.number
      × ((k : ℕ) → Due (space_causes (output bytes) (length area)) k → k ≡ response.number)
  unfolding respond_outcome
  respond_number = put_number (output bytes) area

  -- A refusal writes nothing, so that its length is 0, and leaves the space as it was.
  pub respond_refused : response.number ≢ 0 → (response.written ≡ []) × (overlay response.written area ≡ area)
  unfolding respond_outcome
  respond_refused = put_refused (output bytes) area

  -- Where it succeeds, the output is written and fits, and the bytes past it are as they were.
  pub respond_written : response.number ≡ 0
      → (response.written ≡ output bytes) × (length (output bytes) ≤ length area)
      × (overlay response.written area ≡ output bytes ++ drop (length (output bytes)) area)
  unfolding respond_outcome
  respond_written = put_written (output bytes) area

-- ---- the output

module _ (bytes : List ℕ) where
  abbrev number : ℕ
  number = (exam_outcome bytes answer_space).number

  -- Where a refusal is due in space that is enough for every answer, the output is its line.
  pub output_refused : (k : ℕ) → Due (exam_causes bytes answer_space) k → k ≢ 0 → output bytes ≡ refused_text k
  unfolding output
  output_refused k d h =
      let same : number ≡ k = due_unique (exam_causes bytes answer_space) (exam_due bytes answer_space) d in
      rw (same, ne_eqb k 0 h)

  answered : number ≡ 0 → (s : Sheet) × Within s × (bytes ≡ text s) × (output bytes ≡ answer_text s) × (length (answer_text s) ≤ answer_space)
  unfolding output
  answered h =
      let r = exam_answered bytes answer_space h in
      let written : output_for (exam_outcome bytes answer_space) ≡ (exam_outcome bytes answer_space).written = rw h in
      (r.0, r.1, r.2, written ∙ r.3, r.4)

  line_of : (k : ℕ) → number ≡ k → k ≢ 0 → output bytes ≡ refused_text k
  line_of k same h = output_refused k (rw same at (exam_due bytes answer_space)) h

  -- The output is `refused 10`, `refused 1`, `refused 2`, `refused 3`, or the answer to the sheet within its bounds whose text the bytes are.
  pub output_is : (output bytes ≡ refused_text 10) ⊎ (output bytes ≡ refused_text 1) ⊎ (output bytes ≡ refused_text 2) ⊎ (output bytes ≡ refused_text 3)
      ⊎ ((s : Sheet) × Within s × (bytes ≡ text s) × (output bytes ≡ answer_text s))
  output_is = go (exam_numbers bytes answer_space (omega arith))
    where
      go : (number ≡ 10) ⊎ (number ≡ 1) ⊎ (number ≡ 2) ⊎ (number ≡ 3) ⊎ (number ≡ 0)
          → (output bytes ≡ refused_text 10) ⊎ (output bytes ≡ refused_text 1) ⊎ (output bytes ≡ refused_text 2) ⊎ (output bytes ≡ refused_text 3)
          ⊎ ((s : Sheet) × Within s × (bytes ≡ text s) × (output bytes ≡ answer_text s))
      go (inl h) = inl (line_of 10 h (λ e. omega arith))
      go (inr (inl h)) = inr (inl (line_of 1 h (λ e. omega arith)))
      go (inr (inr (inl h))) = inr (inr (inl (line_of 2 h (λ e. omega arith))))
      go (inr (inr (inr (inl h)))) = inr (inr (inr (inl (line_of 3 h (λ e. omega arith)))))
      go (inr (inr (inr (inr h)))) = let a = answered h in inr (inr (inr (inr (a.0, a.1, a.2, a.3))))

  output_most : length (output bytes) ≤ answer_space
  output_most = go (exam_numbers bytes answer_space (omega arith))
    where
      line : (k : ℕ) → number ≡ k → k ≢ 0 → k < 100 → length (output bytes) ≤ answer_space
      line k same h less = rw (line_of k same h) (omega (arith, length-append (decimal k) (newline ∷ []), decimal_length_lem 1 20 k (omega arith)))

      go : (number ≡ 10) ⊎ (number ≡ 1) ⊎ (number ≡ 2) ⊎ (number ≡ 3) ⊎ (number ≡ 0) → length (output bytes) ≤ answer_space
      go (inl h) = line 10 h (λ e. omega arith) (omega arith)
      go (inr (inl h)) = line 1 h (λ e. omega arith) (omega arith)
      go (inr (inr (inl h))) = line 2 h (λ e. omega arith) (omega arith)
      go (inr (inr (inr (inl h)))) = line 3 h (λ e. omega arith) (omega arith)
      go (inr (inr (inr (inr h)))) = let a = answered h in rw a.3 a.4

  -- In space that is enough for every answer, `respond` succeeds with the whole output.
  pub respond_enough : (room : ℕ) → answer_space ≤ room → respond_outcome bytes room ≡ accepted (output bytes)
  unfolding respond_outcome
  respond_enough room enough = rw (le-ltb room (length (output bytes)) (omega (arith, output_most)))

-- ---- a text that is cut

long_output : (bytes : List ℕ) → 4096 < length bytes → output bytes ≡ refused_text 10
unfolding output
long_output bytes h = rw (no_sheet_lem bytes answer_space (too_long bytes h))

-- The first m bytes of a text, 4,097 or more, have the output of the whole text: a program that reads no more prints the same.
pub cut_output : (m : ℕ) → 4096 < m → (bytes : List ℕ) → output (take m bytes) ≡ output bytes
cut_output m h bytes =
    elim (dec_lt m (length bytes)) [
      | yes l ↦ long_output (take m bytes) (omega (arith, length-take-le m bytes (omega arith))) ∙ sym (long_output bytes (omega arith))
      | no l ↦ ap output (take_all m bytes (omega arith))
    ]
