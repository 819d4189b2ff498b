-- The output of the program `key`: which refusal is due, or the page, and how long it can be.
use Prim.Native.Nat.{ℕ, ◌≤◌, ◌<◌}
use native.Mathlib.Omega.{arith}
use native.Mathlib.Decide.{dec_lt}
use mathlib.Core.Path.{◌≡◌, refl, sym, ap, ◌∙◌, subst}
use mathlib.Core.Bool.{Bool, true, false, not}
use mathlib.Core.List.{List, [], ◌∷◌, ◌++◌}
use mathlib.Core.Logic.{◌≢◌, ◌⊎◌, inl, inr}
use mathlib.Core.Option.{some}
use borrow.Author.Tests.{le-ltb, ne_eqb}
use Rattle.std.specs.Prelude.{Option, Some, None}
use lib.ListN.{length, take, length-append}
use lib.Seq.{take_all, length-take-le}
use Rattle.calls.specs.Bounds.{most_bits, Outside, outside, length_cause, expander_cause}
use Rattle.calls.specs.Causes.{Cause, cause, Due}
use Rattle.calls.specs.Outcome.{accepted, judged}
use Rattle.calls.proofs.Decisions.{beyond, beyond_test}
use Rattle.calls.proofs.Judged as judging
use Rattle.expander.specs.Expander.{is_expander, choice_of}
use Rattle.expander.specs.declared.Expander.{Expander}
use Rattle.expander.proofs.Chosen.{unnamed, unnamed_test}
use Rattle.exam_text.specs.Characters.{space, newline, decimal}
use Rattle.exam_text.specs.Sheet.{line_text}
use Rattle.exam_text.specs.KeyLine.{KeyLine, key_line_text, KeyWithin, is_key_line, key_line_of, read_key_line}
use Rattle.exam_text.proofs.KeyExact.{key_line_text_lem, read_printed, key_line_within, not_a_key_line}
use Rattle.exam_text.proofs.TextLengths.{decimal_length_lem}
use Rattle.exam_text.proofs.LinesText.{line_length_lem}
use Rattle.exam_lines.specs.Lines.{refused_text}
use Rattle.key_answering.specs.KeyPage.{page_space}
use Rattle.key_answering.specs.KeyAnswer.{KeyLineWith, key_line_causes, line_page, page_read, key_line_outcome, key_output, respond_outcome}
use Rattle.key_answering.proofs.LineKey.{line_most}
use Rattle.key_answering.proofs.Responding.{none_output, no_bits_output, unknown_output, known_output}

-- ---- which refusal is due

-- the causes of a key line within its bounds
abbrev line_causes : KeyLine → List Cause
line_causes k = length_cause k.n ∷ expander_cause k.expander ∷ []

module _ (k : KeyLine) (w : KeyWithin k) where
  line_outcome : key_line_outcome (key_line_text k) ≡ judged (line_causes k) (page_read (some k))
  unfolding key_line_outcome
  line_outcome = rw (read_printed k w)

  -- what holds of the key line with this text holds of this one
  only : (P : KeyLine → Type 0) → KeyLineWith (key_line_text k) P → P k
  only P (r, v, e, h) = subst P (sym (key_line_text_lem r v).1 ∙ ap key_line_of (sym e) ∙ (key_line_text_lem k w).1) h

  line_due : Due (key_line_causes (key_line_text k)) (judged (line_causes k) (page_read (some k))).number
  line_due =
      let told : List Cause =
      cause 1 (KeyLineWith (key_line_text k) (λ q. Outside most_bits q.n)) (outside most_bits k.n)
      ∷ cause 3 (KeyLineWith (key_line_text k) (λ q. (q.expander ≢ 1) × (q.expander ≢ 2))) (not (is_expander k.expander))
      ∷ [] in
      inr (
        λ none. none k w refl,
        judging.due {cs = told}
            (judging.next {b = outside most_bits k.n} (λ t. (k, w, refl, beyond 256 k.n t)) (λ h. beyond_test 256 k.n (only (λ q. Outside most_bits q.n) h))
            (judging.next {b = not (is_expander k.expander)} (λ t. (k, w, refl, unnamed k.expander t))
            (λ h. unnamed_test k.expander (only (λ q. (q.expander ≢ 1) × (q.expander ≢ 2)) h)) judging.none))
            (page_read (some k)),
      )

none_due : (bytes : List ℕ) → is_key_line bytes ≡ false → (key_line_outcome bytes).number ≡ 10
unfolding key_line_outcome read_key_line
none_due bytes e = rw e

-- The number is the one that is due.
pub key_line_due : (bytes : List ℕ) → Due (key_line_causes bytes) (key_line_outcome bytes).number
key_line_due bytes = go (is_key_line bytes) refl
  where
    go : (b : Bool) → is_key_line bytes ≡ b → Due (key_line_causes bytes) (key_line_outcome bytes).number
    go true e =
        let r = key_line_within bytes e in
        subst (λ (l : List ℕ). Due (key_line_causes l) (key_line_outcome l).number) (sym r.1)
        (rw (line_outcome (key_line_of bytes) r.0) (line_due (key_line_of bytes) r.0))
    go false e = inl (not_a_key_line bytes e, none_due bytes e)

-- Where a refusal is due, the output is its line.
pub key_output_refused : (bytes : List ℕ) (k : ℕ) → Due (key_line_causes bytes) k → k ≢ 0 → key_output bytes ≡ refused_text k
unfolding key_output
key_output_refused bytes k d h =
    let same : (key_line_outcome bytes).number ≡ k = judging.due_unique (key_line_causes bytes) (key_line_due bytes) d in
    rw (same, ne_eqb k 0 h)

-- ---- what the output is

-- The output is `refused 10`, `refused 1` or `refused 3`, or the page of the key line within its bounds whose text the bytes are.
abbrev pub KeyOutputIs : List ℕ → Type 0
KeyOutputIs bytes =
    (key_output bytes ≡ refused_text 10) ⊎ (key_output bytes ≡ refused_text 1) ⊎ (key_output bytes ≡ refused_text 3)
    ⊎ ((k : KeyLine) × KeyWithin k × (bytes ≡ key_line_text k) × (1 ≤ k.n) × (x : Expander) × (choice_of k.expander ≡ Some x) × (key_output bytes ≡ line_page k.n k.line x))

pub key_output_is : (bytes : List ℕ) → KeyOutputIs bytes
key_output_is bytes = go (is_key_line bytes) refl
  where
    chosen : (e : is_key_line bytes ≡ true) → 1 ≤ (key_line_of bytes).n → (c : Option Expander) → choice_of (key_line_of bytes).expander ≡ c → KeyOutputIs bytes
    chosen e from (Some x) k =
        let r = key_line_within bytes e in
        inr (inr (inr (key_line_of bytes, r.0, r.1, from, x, k, known_output bytes e from r.0.n_most x k)))
    chosen e from None u = inr (inr (inl (unknown_output bytes e from (key_line_within bytes e).0.n_most u)))

    go : (b : Bool) → is_key_line bytes ≡ b → KeyOutputIs bytes
    go false e = inl (none_output bytes e)
    go true e =
        elim (dec_lt (key_line_of bytes).n 1) [
          | yes l ↦ inr (inl (no_bits_output bytes e l))
          | no l ↦ chosen e (omega arith) (choice_of (key_line_of bytes).expander) refl
        ]

-- The output for the text of a key line of 1 to 32 bits with expander 1 or 2 is its page.
pub key_output_page : (k : KeyLine) → KeyWithin k → 1 ≤ k.n → (x : Expander) → choice_of k.expander ≡ Some x → key_output (key_line_text k) ≡ line_page k.n k.line x
key_output_page k w from x named =
    let r = key_line_text_lem k w in
    let same : key_line_of (key_line_text k) ≡ k = r.1 in
    rw same at (known_output (key_line_text k) r.0 (rw same from) (rw same w.n_most) x (rw same named))

key_output_most : (bytes : List ℕ) → length (key_output bytes) ≤ page_space
key_output_most bytes = go (key_output_is bytes)
  where
    line : (k : ℕ) → k < 100 → key_output bytes ≡ refused_text k → length (key_output bytes) ≤ page_space
    line k less is = rw is (omega (arith, length-append (decimal k) (newline ∷ []), decimal_length_lem 1 20 k (omega arith)))

    go : KeyOutputIs bytes → length (key_output bytes) ≤ page_space
    go (inl h) = line 10 (omega arith) h
    go (inr (inl h)) = line 1 (omega arith) h
    go (inr (inr (inl h))) = line 3 (omega arith) h
    go (inr (inr (inr (k, w, is, from, x, named, h)))) =
        rw h (line_most k.n k.expander x from w.n_most named k.line (record { bits = w.n_bits; sized0 = w.seeds.0; sized1 = w.seeds.1 }))

-- In space that is enough for every page, the whole output is written.
pub key_respond_enough : (bytes : List ℕ) (room : ℕ) → page_space ≤ room → respond_outcome bytes room ≡ accepted (key_output bytes)
unfolding respond_outcome
key_respond_enough bytes room enough = rw (le-ltb room (length (key_output bytes)) (omega (arith, key_output_most bytes)))

-- ---- a text that is cut

-- A key line has at most 108 characters.
line_short : (bytes : List ℕ) → is_key_line bytes ≡ true → length bytes ≤ 108
unfolding key_line_text
line_short bytes e =
    let r = key_line_within bytes e in
    let k = key_line_of bytes in
    let n = decimal k.n in
    let x = decimal k.expander in
    let line = line_text k.line in
    omega (
      arith,
      ap length r.1,
      length-append n (space ∷ x ++ (space ∷ line)),
      length-append x (space ∷ line),
      decimal_length_lem 1 20 k.n (omega (arith, r.0.n_most)),
      decimal_length_lem 4 20 k.expander r.0.expander_digits,
      line_length_lem k.n k.line r.0.n_bits r.0.seeds,
      r.0.n_most,
    )

long_output : (bytes : List ℕ) → 108 < length bytes → key_output bytes ≡ refused_text 10
long_output bytes h = go (is_key_line bytes) refl
  where
    go : (b : Bool) → is_key_line bytes ≡ b → key_output bytes ≡ refused_text 10
    go true e = absurd (omega (arith, line_short bytes e))
    go false e = none_output bytes e

-- The first m bytes of a text, 109 or more, have the output of the whole text: a program that reads no more prints the same.
pub key_cut_output : (m : ℕ) → 108 < m → (bytes : List ℕ) → key_output (take m bytes) ≡ key_output bytes
key_cut_output m h bytes =
    elim (dec_lt m (length bytes)) [
      | yes l ↦ long_output (take m bytes) (omega (arith, length-take-le m bytes (omega arith))) ∙ sym (long_output bytes (omega arith))
      | no l ↦ ap key_output (take_all m bytes (omega arith))
    ]
