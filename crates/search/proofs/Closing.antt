-- The number, the lengths and the areas of a search: refused for what is lent, or as its levels end.
use Prim.Native.Nat.{ℕ, ◌+◌, ◌≤◌}
use native.Mathlib.Omega.{arith}
use mathlib.Core.Path.{◌≡◌, refl, sym, ap, ◌∙◌}
use mathlib.Core.Bool.{Bool, true, false, cond}
use mathlib.Core.List.{List, [], ◌∷◌}
use mathlib.Core.Logic.{◌≢◌}
use Rattle.std.specs.Prelude.{Option, Some, Result, Ok, Err, IsErrAnd}
use Rattle.bits.specs.Strings.{Bits}
use Rattle.calls.specs.Bounds.{most_bits}
use Rattle.calls.specs.Causes.{Cause, number_due}
use Rattle.calls.proofs.Decisions.{bounds}
use Rattle.calls.proofs.Judged.{Clear, numbered, first_due, second_due, number_clear, threshold_numbered, ◌&◌}
use Rattle.expander.specs.Expander.{choice_of}
use Rattle.expander.specs.declared.Expander.{Expander}
use Rattle.calls.specs.Refusals.{number_of}
use Rattle.calls.specs.declared.Refusal.{Refusal}
use Rattle.levels.specs.declared.Lengths.{Lengths}
use Rattle.levels.specs.Levels.{ended, total_of, ending_with, no_room, ending_of, ending_by, ending}
use Rattle.levels.proofs.Closing.{same_parts}
use Rattle.search.specs.Search.{Lent, total, total_under, reports, record_bytes, list_bytes, queries_fit, lent_causes, space_causes, search_number, record_length, list_length, record_after, list_after, search_ending, reaches_of}
use Rattle.search.proofs.Outcome.{Bearing, threshold_other}
use Rattle.search.proofs.Areas.{record_length_refused, list_length_refused, list_refused, record_refused, record_zeroed, record_length_lem, list_length_lem}

-- ---- the number that is due

due_other : (k : ℕ) (cs : List Cause) → Bearing k cs → 0 ≢ k → number_due cs ≢ k
due_other k [] a h = h
due_other k (c ∷ cs) a h = go c.test (due_other k cs a.1 h)
  where
    go : (b : Bool) → number_due cs ≢ k → cond b c.number (number_due cs) ≢ k
    go true f = a.0
    go false f = f

module _ (s : Lent) where
  -- the test of 11
  abbrev no_room_lem : Bool
  no_room_lem = no_room (record_bytes s) (list_bytes s) (queries_fit s) s.record_area s.list_area

  -- what the call returns and leaves
  abbrev pub Settled : ℕ → ℕ → ℕ → List ℕ → List ℕ → Type 0
  Settled number record_length' list_length' record_area' list_area' = ending_with number record_length' list_length' record_area' list_area' ≡ search_ending s

  -- ---- refused for what is lent

  number_refused : (number : ℕ) → number ≡ number_due (lent_causes s) → number ≢ 0 → Settled number 0 0 s.record_area s.list_area
  unfolding search_number
  number_refused number e h =
      let n : number ≡ search_number s = e ∙ sym (first_due (lent_causes s) (space_causes s) (λ z. h (e ∙ z))) in
      let some : search_number s ≢ 0 = λ z. h (n ∙ z) in
      let other : search_number s ≢ 11 =
      λ z. due_other 11 (lent_causes s) (omega arith & threshold_other s.weighted & omega arith & omega arith & omega arith & omega arith & omega arith & omega arith & tt) (omega arith)
      (sym e ∙ n ∙ z) in
      same_parts n (sym (record_length_refused s some)) (sym (list_length_refused s some)) (sym (record_refused s some other)) (sym (list_refused s some))

  -- a refusal that a `?` hands on
  pub refused : (refusal : Refusal) → number_of refusal ≡ number_due (lent_causes s) → (r : Result Lengths Refusal) → IsErrAnd r (λ e. e ≡ refusal)
      → ended r s.record_area s.list_area ≡ search_ending s
  refused refusal h (Ok x) p = absurd p
  refused refusal h (Err e) p = number_refused (number_of e) (ap number_of p ∙ h) (numbered e)

  -- ---- where none of these causes applies

  module _ (clear : number_due (lent_causes s) ≡ 0) where
    none : Clear (lent_causes s)
    none = number_clear (lent_causes s) (omega arith & threshold_numbered s.weighted & omega arith & omega arith & omega arith & omega arith & omega arith & omega arith & tt) clear

    pub within_bounds : (1 ≤ s.n) × (s.n ≤ 256)
    within_bounds = bounds most_bits s.n none.0

  -- ---- as its levels end

  module _ (clear : number_due (lent_causes s) ≡ 0) where
    number_last : search_number s ≡ cond no_room_lem 11 0
    unfolding search_number
    number_last = second_due (lent_causes s) (space_causes s) (none clear)

    -- the outcome of the call is that of its levels
    call_ending : ending_with (search_number s) (record_length s) (list_length s) (record_after s) (list_after s)
        ≡ ending_of (record_bytes s) (list_bytes s) (queries_fit s) s.record_area s.list_area
    unfolding record_after list_after
    call_ending = go no_room_lem refl
      where
        go : (b : Bool) → no_room_lem ≡ b → ending_with (search_number s) (record_length s) (list_length s) (record_after s) (list_after s)
            ≡ ending_of (record_bytes s) (list_bytes s) (queries_fit s) s.record_area s.list_area
        go true h =
            let a : search_number s ≡ 11 = number_last ∙ ap (λ (b : Bool). cond b 11 0) h in
            let some : search_number s ≢ 0 = λ y. omega (arith, a, y) in
            rw h (same_parts a (record_length_refused s some) (list_length_refused s some) (record_zeroed s a) (list_refused s some))
        go false h =
            let a : search_number s ≡ 0 = number_last ∙ ap (λ (b : Bool). cond b 11 0) h in
            rw h (same_parts a (record_length_lem s a) (list_length_lem s a) (rw a) (rw a))

    module _ (e : Expander) (known : choice_of s.expander ≡ Some e) where
      abbrev T : Bits → ℕ
      T = total_of e s.n s.seeds0 s.shares0 s.seeds1 s.shares1

      same_total : total s ≡ T
      unfolding total_under
      same_total = ap (λ (c : Option Expander). total_under c s) known

      same_ending : ending_of (record_bytes s) (list_bytes s) (queries_fit s) s.record_area s.list_area
          ≡ ending_by (reaches_of s) T (reports s) s.n s.record_area s.list_area
      unfolding record_bytes list_bytes queries_fit
      same_ending = ap (λ (f : Bits → ℕ). ending_by (reaches_of s) f (reports s) s.n s.record_area s.list_area) same_total

      pub settled : (last number record_length' list_length' : ℕ) (record_area' list_area' : List ℕ) → last + 1 ≡ s.n
          → ending_with number record_length' list_length' record_area' list_area'
          ≡ ending (record { t = s.t; weighted = s.weighted }) e (last + 1) s.seeds0 s.shares0 s.seeds1 s.shares1 s.record_area s.list_area
          → Settled number record_length' list_length' record_area' list_area'
      unfolding ending
      settled last number record_length' list_length' record_area' list_area' m h = told (rw m at h)
        where
          told : ending_with number record_length' list_length' record_area' list_area'
              ≡ ending (record { t = s.t; weighted = s.weighted }) e s.n s.seeds0 s.shares0 s.seeds1 s.shares1 s.record_area s.list_area
              → Settled number record_length' list_length' record_area' list_area'
          told g = g ∙ sym same_ending ∙ sym call_ending
