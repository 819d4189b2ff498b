-- The outcome of `answer` by the sheet: the number that is due, and what is written where it is 0.
use Prim.Native.Nat.{ℕ, ◌≤◌, ◌<◌}
use native.Mathlib.Omega.{arith}
use mathlib.Core.Path.{◌≡◌, refl, sym, ap, subst, ◌∙◌}
use mathlib.Core.Logic.{◌≢◌, inl, inr}
use mathlib.Core.Bool.{false, not}
use mathlib.Core.List.{List, [], ◌∷◌}
use borrow.Author.Tests.{ltb-false}
use lib.ListN.{length}
use lib.Dec.{ltb, ltb→lt, lt→ltb}
use Rattle.calls.specs.Bounds.{most_bits, most_threshold, Outside, outside, length_cause, threshold_cause, expander_cause, space_cause}
use Rattle.calls.specs.Causes.{Cause, cause, Due}
use Rattle.calls.specs.Outcome.{Outcome, refused, judged}
use Rattle.calls.proofs.Decisions.{beyond, beyond_test}
use Rattle.calls.proofs.Judged.{Clear, next, due, judged_accepted, judged_clear, ◌&◌}
use Rattle.calls.proofs.Judged as judging
use Rattle.expander.specs.Expander.{is_expander}
use Rattle.expander.proofs.Chosen.{unnamed, unnamed_test}
use Rattle.exam_text.specs.Sheet.{Sheet, expander_number, text, Within}
use Rattle.exam_answering.specs.AnswerText.{answer_text}
use Rattle.exam_answering.specs.Exam.{SheetWith, exam_causes, exam_outcome}
use Rattle.exam_text.proofs.ReaderExact.{read_printed, text_injective, SheetOrNone, sheet_or_none, none_read_lem}

-- ---- by the sheet

-- the causes of a sheet within its bounds
abbrev pub sheet_causes : Sheet → ℕ → List Cause
sheet_causes s room = length_cause s.n ∷ threshold_cause false s.t ∷ expander_cause (expander_number s.expander) ∷ space_cause (length (answer_text s)) room ∷ []

-- The outcome for the text of a sheet within its bounds is that of the sheet.
pub sheet_outcome : (s : Sheet) → Within s → (room : ℕ) → exam_outcome (text s) room ≡ judged (sheet_causes s room) (answer_text s)
unfolding exam_outcome
sheet_outcome s w room = rw (read_printed s w)

-- The outcome for any other bytes is the refusal 10.
pub none_outcome : (bytes : List ℕ) → ((s : Sheet) → Within s → bytes ≢ text s) → (room : ℕ) → exam_outcome bytes room ≡ refused 10
unfolding exam_outcome
none_outcome bytes h room = rw (none_read_lem bytes h)

-- ---- the text of a sheet within its bounds

module _ (s : Sheet) (w : Within s) (room : ℕ) where
  -- what holds of the sheet with this text holds of this one
  only : (P : Sheet → Type 0) → SheetWith (text s) P → P s
  only P (r, v, e, h) = subst P (sym (text_injective s r w v e)) h

  sheet_due : Due (exam_causes (text s) room) (judged (sheet_causes s room) (answer_text s)).number
  sheet_due =
      let told : List Cause =
      cause 1 (SheetWith (text s) (λ q. Outside most_bits q.n)) (outside most_bits s.n)
      ∷ cause 2 (SheetWith (text s) (λ q. Outside most_threshold q.t)) (outside most_threshold s.t)
      ∷ cause 3 (SheetWith (text s) (λ q. (expander_number q.expander ≢ 1) × (expander_number q.expander ≢ 2))) (not (is_expander (expander_number s.expander)))
      ∷ cause 11 (SheetWith (text s) (λ q. room < length (answer_text q))) (ltb room (length (answer_text s)))
      ∷ [] in
      let e = expander_number s.expander in
      let size = length (answer_text s) in
      inr (
        λ none. none s w refl,
        due {cs = told}
            (next {b = outside most_bits s.n} (λ t. (s, w, refl, beyond 256 s.n t)) (λ h. beyond_test 256 s.n (only (λ q. Outside most_bits q.n) h))
            (next {b = outside most_threshold s.t} (λ t. (s, w, refl, beyond 65535 s.t t)) (λ h. beyond_test 65535 s.t (only (λ q. Outside most_threshold q.t) h))
            (next {b = not (is_expander e)} (λ t. (s, w, refl, unnamed e t))
            (λ h. unnamed_test e (only (λ q. (expander_number q.expander ≢ 1) × (expander_number q.expander ≢ 2)) h))
            (next {b = ltb room size} (λ t. (s, w, refl, ltb→lt room size t)) (λ h. lt→ltb room size (only (λ q. room < length (answer_text q)) h)) judging.none))))
            (answer_text s),
      )

  -- The number is 0: no cause applies.
  module _ (h : (judged (sheet_causes s room) (answer_text s)).number ≡ 0) where
    pub sheet_clear : Clear (sheet_causes s room)
    sheet_clear = judged_clear (sheet_causes s room) (answer_text s) (omega arith & omega arith & omega arith & omega arith & tt) h

    sheet_written : ((judged (sheet_causes s room) (answer_text s)).written ≡ answer_text s) × (length (answer_text s) ≤ room)
    sheet_written = (
      ap (λ (o : Outcome). o.written) (judged_accepted (sheet_causes s room) (answer_text s) sheet_clear),
      ltb-false room (length (answer_text s)) sheet_clear.1.1.1.0,
    )

-- Where the number for the text of a sheet is 0, its answer is written.
pub sheet_answer : (s : Sheet) → Within s → (room : ℕ) → (exam_outcome (text s) room).number ≡ 0 → (exam_outcome (text s) room).written ≡ answer_text s
sheet_answer s w room h = ap (λ (o : Outcome). o.written) (sheet_outcome s w room) ∙ (sheet_written s w room (rw (sheet_outcome s w room) at h)).0

-- The number is the one that is due.
pub exam_due : (bytes : List ℕ) (room : ℕ) → Due (exam_causes bytes room) (exam_outcome bytes room).number
exam_due bytes room = go (sheet_or_none bytes)
  where
    go : SheetOrNone bytes → Due (exam_causes bytes room) (exam_outcome bytes room).number
    go (inl (s, w, is)) = rw (is, sheet_outcome s w room) (sheet_due s w room)
    go (inr none) = inl (none, ap (λ (o : Outcome). o.number) (none_outcome bytes none room))

-- Where the number is 0, the bytes are the text of a sheet within its bounds, whose answer is written and fits.
pub exam_answered : (bytes : List ℕ) (room : ℕ) → (exam_outcome bytes room).number ≡ 0
    → (s : Sheet) × Within s × (bytes ≡ text s) × ((exam_outcome bytes room).written ≡ answer_text s) × (length (answer_text s) ≤ room)
exam_answered bytes room h = go (sheet_or_none bytes)
  where
    go : SheetOrNone bytes
        → (s : Sheet) × Within s × (bytes ≡ text s) × ((exam_outcome bytes room).written ≡ answer_text s) × (length (answer_text s) ≤ room)
    go (inl (s, w, is)) =
        let o : exam_outcome bytes room ≡ judged (sheet_causes s room) (answer_text s) = ap (λ (l : List ℕ). exam_outcome l room) is ∙ sheet_outcome s w room in
        let r = sheet_written s w room (rw o at h) in
        (s, w, is, ap (λ (o : Outcome). o.written) o ∙ r.0, r.1)
    go (inr none) =
        let ten : (exam_outcome bytes room).number ≡ 10 = ap (λ (o : Outcome). o.number) (none_outcome bytes none room) in
        absurd (omega arith)
