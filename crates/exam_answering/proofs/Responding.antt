-- The outcome of `respond` by that of `answer` in the same space.
use Prim.Native.Nat.{ℕ}
use native.Mathlib.Omega.{arith}
use mathlib.Core.Path.{◌≡◌, refl, sym, ap, ◌∙◌}
use mathlib.Core.Logic.{◌≢◌, inl, inr}
use mathlib.Core.Bool.{Bool, true, false, not, cond, ◌||◌}
use mathlib.Core.List.{List, [], ◌∷◌}
use borrow.Author.Tests.{ne_eqb}
use lib.ListN.{length}
use Rattle.std.specs.Prelude.{Result, Ok, Err}
use lib.Dec.{T, ltb, eqb}
use Rattle.calls.specs.Bounds.{most_bits, most_threshold, outside}
use Rattle.calls.specs.Causes.{cause}
use Rattle.calls.specs.Outcome.{Outcome, judged, Exit, exit, answered}
use Rattle.calls.specs.Refusals.{number_of}
use Rattle.calls.specs.declared.Refusal.{Refusal}
use Rattle.calls.specs.declared.Refusal.TheVariants.{StringLength, Threshold, Expander, Lengths, TooManyReports, PayloadTooLarge, SpareBits, SharesDiffer, Query, Text, NoSpace, WeightedThreshold, Nodes, NoParent}
use Rattle.calls.proofs.Judged.{numbered}
use Rattle.expander.specs.Expander.{is_expander}
use Rattle.exam_text.specs.Sheet.{Sheet, expander_number, Within}
use Rattle.exam_answering.specs.AnswerText.{answer_text}
use Rattle.exam_lines.specs.Lines.{written_in, output_for, refused_outcome}
use Rattle.exam_answering.specs.Exam.{exam_outcome, exam_exit, answer_space, output, respond_outcome, respond_exit}
use Rattle.exam_text.proofs.ReaderExact.{SheetOrNone, sheet_or_none}
use Rattle.exam_answering.proofs.Exam.{sheet_outcome, none_outcome}
use Rattle.exam_answering.proofs.ExamTheorems.{exam_refused, answer_fits}

-- the outcome of `answer` where its number is 0 or 11, and that of the refusal's line where not
abbrev responds : Outcome → ℕ → Outcome
responds o room = cond (eqb o.number 0 || eqb o.number 11) o (refused_outcome o.number room)

responding : (bytes : List ℕ) (room : ℕ) → respond_outcome bytes room ≡ responds (exam_outcome bytes room) room
unfolding respond_outcome output refused_outcome
responding bytes room = read (sheet_or_none bytes)
  where
    go : (s : Sheet) → Within s → (b c : Bool) → outside most_threshold s.t ≡ c → (d l : Bool) → ltb room (length (answer_text s)) ≡ l
        → let outcome : Bool → Outcome = λ l. judged (cause 1 (T b) b ∷ cause 2 (T c) c ∷ cause 3 (T d) d ∷ cause 11 (T l) l ∷ []) (answer_text s) in
        written_in (output_for (outcome (ltb answer_space (length (answer_text s))))) room ≡ responds (outcome l) room
    go s w true c e d l f = refl
    go s w false true e d l f = refl
    go s w false false e true l f = refl
    go s w false false e false true f = rw (answer_fits s w answer_space (omega arith) e, f)
    go s w false false e false false f = rw (answer_fits s w answer_space (omega arith) e, f)

    read : SheetOrNone bytes
        → written_in (output_for (exam_outcome bytes answer_space)) room ≡ responds (exam_outcome bytes room) room
    read (inl (s, w, is)) =
        rw (is, sheet_outcome s w answer_space, sheet_outcome s w room)
        (go s w (outside most_bits s.n) (outside most_threshold s.t) refl (not (is_expander (expander_number s.expander))) (ltb room (length (answer_text s))) refl)
    read (inr none) = rw (none_outcome bytes none answer_space, none_outcome bytes none room)

module _ (bytes : List ℕ) (room : ℕ) where
  -- Where `answer` succeeds, the outcome is the same.
  pub respond_answer : (exam_outcome bytes room).number ≡ 0 → respond_outcome bytes room ≡ exam_outcome bytes room
  respond_answer h = responding bytes room ∙ rw h

  -- Where the answer does not fit, the outcome is the same.
  pub respond_space : (exam_outcome bytes room).number ≡ 11 → respond_outcome bytes room ≡ exam_outcome bytes room
  respond_space h = responding bytes room ∙ rw h

  -- Where `answer` refuses with another number, the outcome is that of its line.
  pub respond_line : (exam_outcome bytes room).number ≢ 0 → (exam_outcome bytes room).number ≢ 11
      → respond_outcome bytes room ≡ refused_outcome (exam_outcome bytes room).number room
  respond_line h k = responding bytes room ∙ rw (ne_eqb (exam_outcome bytes room).number 0 h, ne_eqb (exam_outcome bytes room).number 11 k)

-- ---- what a call returns and leaves

-- 11 is the number of one refusal alone
pub not_space : (e : Refusal) → e ≢ NoSpace → number_of e ≢ 11
not_space StringLength h = λ k. omega (arith, k)
not_space Threshold h = λ k. omega (arith, k)
not_space Expander h = λ k. omega (arith, k)
not_space Lengths h = λ k. omega (arith, k)
not_space TooManyReports h = λ k. omega (arith, k)
not_space PayloadTooLarge h = λ k. omega (arith, k)
not_space SpareBits h = λ k. omega (arith, k)
not_space SharesDiffer h = λ k. omega (arith, k)
not_space Query h = λ k. omega (arith, k)
not_space Text h = λ k. omega (arith, k)
not_space NoSpace h = absurd (h refl)
not_space WeightedThreshold h = λ k. omega (arith, k)
not_space Nodes h = λ k. omega (arith, k)
not_space NoParent h = λ k. omega (arith, k)

-- what `answer` wrote is the output
pub answer_replied : (bytes out after : List ℕ) (size : ℕ) → answered (Ok size) after ≡ exam_exit bytes out → answered (Ok size) after ≡ respond_exit bytes out
answer_replied bytes out after size is =
    is ∙ ap (λ (o : Outcome). exit o out) (sym (respond_answer bytes (length out) (sym (ap (λ (x : Exit). x.number) is))))

module _ (bytes out after : List ℕ) (e : Refusal) (is : answered (Err e) after ≡ exam_exit bytes out) where
  number_is : (exam_outcome bytes (length out)).number ≡ number_of e
  number_is = sym (ap (λ (x : Exit). x.number) is)

  pub space_replied : number_of e ≡ 11 → answered (Err e) after ≡ respond_exit bytes out
  space_replied h = is ∙ ap (λ (o : Outcome). exit o out) (sym (respond_space bytes (length out) (number_is ∙ h)))

  -- a refusal with another number left the space as it was, and its line follows
  pub line_replied : number_of e ≢ 11 → (r : Result ℕ Refusal) (last : List ℕ) → answered r last ≡ exit (refused_outcome (number_of e) (length after)) after
      → answered r last ≡ respond_exit bytes out
  line_replied h r last line =
      let other : (exam_outcome bytes (length out)).number ≢ 0 = λ z. numbered e (sym number_is ∙ z) in
      let same : after ≡ out = ap (λ (x : Exit). x.area) is ∙ (exam_refused bytes out other).1 in
      rw (respond_line bytes (length out) other (λ z. h (sym number_is ∙ z)), number_is) (rw same at line)
