-- The call `answer`: the number that is due, what is written, and the numbers in space enough.
use Prim.Native.Nat.{ℕ, ◌≤◌}
use native.Mathlib.Omega.{arith}
use mathlib.Core.Path.{◌≡◌, refl, ap, ◌∙◌}
use mathlib.Core.Logic.{◌≢◌, ◌⊎◌, inl, inr}
use mathlib.Core.Bool.{Bool, true, false, not}
use mathlib.Core.List.{List, [], ◌∷◌, ◌++◌}
use borrow.Author.Tests.{le-ltb}
use lib.ListN.{length, drop}
use lib.Dec.{T, ltb}
use Rattle.places.specs.Places.{overlay}
use Rattle.places.proofs.Places.{overlay_nil}
use Rattle.calls.specs.Bounds.{most_bits, most_threshold, outside, space_cause}
use Rattle.calls.specs.Causes.{cause, Due}
use Rattle.calls.specs.Outcome.{Outcome, judged}
use Rattle.calls.proofs.Decisions.{bounds}
use Rattle.calls.proofs.Judged.{due_unique, judged_refused}
use Rattle.expander.specs.Expander.{is_expander}
use Rattle.exam_text.specs.Sheet.{Sheet, expander_number, text, Within}
use Rattle.exam_answering.specs.AnswerText.{answer_text}
use Rattle.exam_answering.specs.Exam.{exam_causes, exam_outcome, answer_space}
use Rattle.exam_text.proofs.ReaderExact.{SheetOrNone, sheet_or_none}
use Rattle.exam_answering.proofs.Longest.{answer_most}
use Rattle.exam_answering.proofs.Exam.{sheet_causes, sheet_outcome, none_outcome, exam_due, exam_answered}

-- ---- an exam text, with the space `area` for its answer

module _ (bytes area : List ℕ) where
  abbrev exam : Outcome
  exam = exam_outcome bytes (length area)

  -- Its number is due, and no other is.
  pub exam_number : Due (exam_causes bytes (length area)) exam.number × ((k : ℕ) → Due (exam_causes bytes (length area)) k → k ≡ exam.number)
  exam_number = let d = exam_due bytes (length area) in (d, λ k h. due_unique (exam_causes bytes (length area)) h d)

  -- A refusal writes nothing, so that its length is 0, and leaves the space as it was.
  pub exam_refused : exam.number ≢ 0 → (exam.written ≡ []) × (overlay exam.written area ≡ area)
  exam_refused h = let none_written = nothing (sheet_or_none bytes) h in (none_written, ap (λ (l : List ℕ). overlay l area) none_written ∙ overlay_nil area)
    where
      nothing : SheetOrNone bytes → exam.number ≢ 0 → exam.written ≡ []
      nothing (inl (s, w, is)) = rw (is, sheet_outcome s w (length area)) (judged_refused (sheet_causes s (length area)) (answer_text s))
      nothing (inr none) = λ h. ap (λ (o : Outcome). o.written) (none_outcome bytes none (length area))

  -- Where it succeeds, the bytes are the text of a sheet within its bounds, whose answer is written and fits, and the bytes past it are as they were.
  pub exam_written : exam.number ≡ 0
      → (s : Sheet) × Within s × (bytes ≡ text s) × (exam.written ≡ answer_text s) × (length (answer_text s) ≤ length area)
      × (overlay exam.written area ≡ answer_text s ++ drop (length (answer_text s)) area)
  unfolding overlay
  exam_written h =
      let r = exam_answered bytes (length area) h in
      (r.0, r.1, r.2, r.3, r.4, ap (λ (l : List ℕ). l ++ drop (length l) area) r.3)

-- ---- in space enough

-- A sheet's answer fits where its threshold is not outside its bounds.
pub answer_fits : (s : Sheet) → Within s → (room : ℕ) → answer_space ≤ room → outside most_threshold s.t ≡ false → ltb room (length (answer_text s)) ≡ false
answer_fits s w room enough inside =
    let least : 1 ≤ s.t = (bounds most_threshold s.t inside).0 in
    let fits = answer_most s w least in
    le-ltb room (length (answer_text s)) (omega arith)

-- In space that is enough for every answer, the number is 10, 1, 2, 3 or 0: never 11.
pub exam_numbers : (bytes : List ℕ) (room : ℕ) → answer_space ≤ room
    → let number = (exam_outcome bytes room).number in (number ≡ 10) ⊎ (number ≡ 1) ⊎ (number ≡ 2) ⊎ (number ≡ 3) ⊎ (number ≡ 0)
exam_numbers bytes room enough = read (sheet_or_none bytes)
  where
    go : (s : Sheet) → Within s → (b c : Bool) → outside most_threshold s.t ≡ c → (d : Bool)
        → let number = (judged (cause 1 (T b) b ∷ cause 2 (T c) c ∷ cause 3 (T d) d ∷ space_cause (length (answer_text s)) room ∷ []) (answer_text s)).number in
        (number ≡ 10) ⊎ (number ≡ 1) ⊎ (number ≡ 2) ⊎ (number ≡ 3) ⊎ (number ≡ 0)
    go s w true c f d = inr (inl refl)
    go s w false true f d = inr (inr (inl refl))
    go s w false false f true = inr (inr (inr (inl refl)))
    go s w false false f false = inr (inr (inr (inr (rw (answer_fits s w room enough f)))))

    read : SheetOrNone bytes
        → let number = (exam_outcome bytes room).number in (number ≡ 10) ⊎ (number ≡ 1) ⊎ (number ≡ 2) ⊎ (number ≡ 3) ⊎ (number ≡ 0)
    read (inl (s, w, is)) =
        rw (is, sheet_outcome s w room) (go s w (outside most_bits s.n) (outside most_threshold s.t) refl (not (is_expander (expander_number s.expander))))
    read (inr none) = inl (ap (λ (o : Outcome). o.number) (none_outcome bytes none room))
