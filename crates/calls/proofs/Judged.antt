-- Where tests decide their causes one by one, the number is the one that is due, and no other is; the number due of two lists of causes; what a
-- refusal and a success write.
use Prim.Native.Nat.{ℕ, ◌≤◌}
use native.Mathlib.Omega.{arith}
use mathlib.Core.Path.{◌≡◌, refl, sym, ap, ◌∙◌}
use mathlib.Core.Bool.{Bool, true, false, not, cond}
use mathlib.Core.List.{List, [], ◌∷◌, ◌++◌}
use mathlib.Core.Logic.{◌≢◌, inl, inr}
use Rattle.std.specs.Prelude.{Result, Ok, Err, IsErrAnd}
use lib.ListN.{length}
use lib.Dec.{T, ltb, ltb→lt, lt→ltb}
use Rattle.places.specs.Places.{overlay}
use Rattle.places.proofs.Places.{overlay_nil}
use Rattle.expander.specs.Expander.{is_expander}
use Rattle.expander.proofs.Chosen.{unnamed, unnamed_test}
use Rattle.calls.specs.Bounds.{most_bits, threshold_most, threshold_number, most_reports, outside, length_cause, threshold_cause, expander_cause, reports_cause, space_cause}
use Rattle.calls.specs.Causes.{Cause, cause, number_due, Due}
use Rattle.calls.specs.Outcome.{refused, accepted, judged, Exit, exit, answered, left}
use Rattle.calls.specs.Refusals.{number_of}
use Rattle.calls.specs.declared.Refusal.{Refusal}
use Rattle.calls.specs.declared.Reply.{Reply}
use Rattle.calls.specs.declared.Refusal.TheVariants.{StringLength, Threshold, Expander, Lengths, TooManyReports, PayloadTooLarge, SpareBits, SharesDiffer, Query, Text, NoSpace, WeightedThreshold, Nodes, NoParent}
use Rattle.calls.proofs.Decisions.{beyond, beyond_test}

-- ---- the number that is due

-- each test is true exactly when its cause applies
pub data Decided : List Cause → Type 1 where
  none : Decided []
  next : {k : ℕ} {P : Type 0} {b : Bool} {cs : List Cause} → (T b → P) → (P → T b) → Decided cs → Decided (cause k P b ∷ cs)

pub number_due_lem : {cs : List Cause} → Decided cs → Due cs (number_due cs)
number_due_lem none = refl
number_due_lem (next {k} {P} {b} {cs} sound complete d) = go b sound complete (number_due_lem d)
  where
    go : (b : Bool) → (T b → P) → (P → T b) → Due cs (number_due cs) → Due (cause k P b ∷ cs) (number_due (cause k P b ∷ cs))
    go true f g h = inl (f tt, refl)
    go false f g h = inr (g, h)

-- the causes that several calls share
pub length_decided : {cs : List Cause} (n : ℕ) → Decided cs → Decided (length_cause n ∷ cs)
length_decided n = next {b = outside most_bits n} (beyond most_bits n) (beyond_test most_bits n)

pub threshold_decided : {cs : List Cause} (weighted : Bool) (t : ℕ) → Decided cs → Decided (threshold_cause weighted t ∷ cs)
threshold_decided weighted t =
    next {b = outside (threshold_most weighted) t} (beyond (threshold_most weighted) t) (beyond_test (threshold_most weighted) t)

-- the number of the threshold's cause is one of a refusal
pub threshold_numbered : (weighted : Bool) → 1 ≤ threshold_number weighted
threshold_numbered false = omega arith
threshold_numbered true = omega arith

pub expander_decided : {cs : List Cause} (e : ℕ) → Decided cs → Decided (expander_cause e ∷ cs)
expander_decided e = next {b = not (is_expander e)} (unnamed e) (unnamed_test e)

pub reports_decided : {cs : List Cause} (reports : ℕ) → Decided cs → Decided (reports_cause reports ∷ cs)
reports_decided reports = next {b = ltb most_reports reports} (ltb→lt most_reports reports) (lt→ltb most_reports reports)

pub space_decided : {cs : List Cause} (size room : ℕ) → Decided cs → Decided (space_cause size room ∷ cs)
space_decided size room = next {b = ltb room size} (ltb→lt room size) (lt→ltb room size)

-- the number of an outcome is that of its causes, whatever is written
pub judged_due : (cs : List Cause) (bytes : List ℕ) → (judged cs bytes).number ≡ number_due cs
judged_due [] bytes = refl
judged_due (c ∷ cs) bytes = go c.test (judged_due cs bytes)
  where
    go : (b : Bool) → (judged cs bytes).number ≡ number_due cs → (cond b (refused c.number) (judged cs bytes)).number ≡ cond b c.number (number_due cs)
    go true h = refl
    go false h = h

pub due : {cs : List Cause} → Decided cs → (bytes : List ℕ) → Due cs (judged cs bytes).number
due {cs} d bytes = rw (judged_due cs bytes) (number_due_lem d)

-- only one number is due
pub due_unique : (cs : List Cause) {j k : ℕ} → Due cs j → Due cs k → j ≡ k
due_unique [] p q = p ∙ sym q
due_unique (c ∷ cs) (inl p) (inl q) = p.1 ∙ sym q.1
due_unique (c ∷ cs) (inl p) (inr q) = absurd (q.0 p.0)
due_unique (c ∷ cs) (inr p) (inl q) = absurd (p.0 q.0)
due_unique (c ∷ cs) (inr p) (inr q) = due_unique cs p.1 q.1

-- ---- two lists of causes, one after the other

-- where one of the first list refuses, that is the number of both
pub first_due : (cs ds : List Cause) → number_due cs ≢ 0 → number_due (cs ++ ds) ≡ number_due cs
first_due [] ds h = absurd (h refl)
first_due (c ∷ cs) ds h = go c.test h (first_due cs ds)
  where
    go : (b : Bool) → cond b c.number (number_due cs) ≢ 0 → (number_due cs ≢ 0 → number_due (cs ++ ds) ≡ number_due cs)
        → cond b c.number (number_due (cs ++ ds)) ≡ cond b c.number (number_due cs)
    go true h f = refl
    go false h f = f h

-- the numbers are from 1 on
abbrev pub Numbered : List Cause → Type 0
Numbered [] = Unit {0}
Numbered (c ∷ cs) = (1 ≤ c.number) × Numbered cs

-- no test is true
abbrev pub Clear : List Cause → Type 0
Clear [] = Unit {0}
Clear (c ∷ cs) = (c.test ≡ false) × Clear cs

-- where causes are numbered from 1 on, 0 says that none applies
pub number_clear : (cs : List Cause) → Numbered cs → number_due cs ≡ 0 → Clear cs
number_clear [] l h = tt
number_clear (c ∷ cs) l h = go c.test h (number_clear cs l.1)
  where
    go : (b : Bool) → cond b c.number (number_due cs) ≡ 0 → (number_due cs ≡ 0 → Clear cs) → (b ≡ false) × Clear cs
    go true h f = absurd (omega (arith, l.0))
    go false h f = (refl, f h)

-- where none of the first list applies, the number is that of the second
pub second_due : (cs ds : List Cause) → Clear cs → number_due (cs ++ ds) ≡ number_due ds
second_due [] ds l = refl
second_due (c ∷ cs) ds l = rw l.0 (second_due cs ds l.1)

-- ---- outcomes

-- whatever would be written, the number is the same
pub judged_number : (cs : List Cause) (xs ys : List ℕ) → (judged cs xs).number ≡ (judged cs ys).number
judged_number cs xs ys = judged_due cs xs ∙ sym (judged_due cs ys)

-- a number that is not 0 refuses
pub judged_refused : (cs : List Cause) (bytes : List ℕ) → (judged cs bytes).number ≢ 0 → (judged cs bytes).written ≡ []
judged_refused [] bytes h = absurd (h refl)
judged_refused (c ∷ cs) bytes h = go c.test h (judged_refused cs bytes)
  where
    go : (b : Bool) → (cond b (refused c.number) (judged cs bytes)).number ≢ 0 → ((judged cs bytes).number ≢ 0 → (judged cs bytes).written ≡ [])
        → (cond b (refused c.number) (judged cs bytes)).written ≡ []
    go true h f = refl
    go false h f = f h

-- where no cause applies, the call succeeds
pub judged_accepted : (cs : List Cause) (bytes : List ℕ) → Clear cs → judged cs bytes ≡ accepted bytes
judged_accepted [] bytes h = refl
judged_accepted (c ∷ cs) bytes h = rw h.0 (judged_accepted cs bytes h.1)

-- where none of the first list applies, the outcome is that of the second
pub judged_second : (cs ds : List Cause) (bytes : List ℕ) → Clear cs → judged (cs ++ ds) bytes ≡ judged ds bytes
judged_second [] ds bytes l = refl
judged_second (c ∷ cs) ds bytes l = rw l.0 (judged_second cs ds bytes l.1)

-- where causes are numbered from 1 on, a call that returns 0 has none that applies
pub judged_clear : (cs : List Cause) (bytes : List ℕ) → Numbered cs → (judged cs bytes).number ≡ 0 → Clear cs
judged_clear cs bytes l h = number_clear cs l (sym (judged_due cs bytes) ∙ h)

-- ---- what a call returns: a refusal, or how many bytes it wrote

-- a refusal's number is not 0
pub numbered : (refusal : Refusal) → number_of refusal ≢ 0
numbered StringLength h = omega (arith, h)
numbered Threshold h = omega (arith, h)
numbered Expander h = omega (arith, h)
numbered Lengths h = omega (arith, h)
numbered TooManyReports h = omega (arith, h)
numbered PayloadTooLarge h = omega (arith, h)
numbered SpareBits h = omega (arith, h)
numbered SharesDiffer h = omega (arith, h)
numbered Query h = omega (arith, h)
numbered Text h = omega (arith, h)
numbered NoSpace h = omega (arith, h)
numbered WeightedThreshold h = omega (arith, h)
numbered Nodes h = omega (arith, h)
numbered NoParent h = omega (arith, h)

-- what a `?` hands on of a refusal whose number is due is the outcome
pub refused_with : (cs : List Cause) (refusal : Refusal) → number_of refusal ≡ number_due cs
    → (r : Result ℕ Refusal) → IsErrAnd r (λ e. e ≡ refusal) → (bytes entry : List ℕ) → answered r entry ≡ exit (judged cs bytes) entry
refused_with cs refusal h (Ok x) p bytes entry = absurd p
refused_with cs refusal h (Err e) p bytes entry =
    let number = ap number_of p ∙ h ∙ sym (judged_due cs bytes) in
    let nothing = judged_refused cs bytes (λ z. numbered e (number ∙ z)) in
    rw (number, nothing, overlay_nil entry) refl

-- what a call returns and leaves, part by part
pub exit_equal : {r : Reply} {area : List ℕ} {e : Exit} → r.number ≡ e.number → r.length ≡ e.length → area ≡ e.area → left r area ≡ e
exit_equal h k l = rw (h, k, l)

-- a success, part by part
pub accepted_with : (bytes entry : List ℕ) {size : ℕ} {area : List ℕ} → size ≡ length bytes → area ≡ overlay bytes entry
    → answered (Ok size) area ≡ exit (accepted bytes) entry
accepted_with bytes entry {size = size} h k = exit_equal {r = record { number = 0; length = size }} refl h k

-- facts of the elements of a list, one by one
infixr 40 ◌&◌
pub ◌&◌ : {A B : Type 0} → A → B → A × B
a & b = (a, b)
