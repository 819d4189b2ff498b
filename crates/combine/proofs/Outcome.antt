-- The outcome of `combine`, case by case.
use Prim.Native.Nat.{ℕ, ◌<◌}
use native.Mathlib.Omega.{arith}
use mathlib.Core.Path.{◌≡◌, refl, sym, ap, ◌∙◌}
use mathlib.Core.Bool.{Bool, true, false, cond, ◌&&◌, ◌||◌}
use mathlib.Core.List.{List, [], ◌∷◌}
use mathlib.Core.Option.{some}
use borrow.Author.Tests.{eq-eqb, ne_eqb}
use Rattle.std.specs.Prelude.{Result, Ok, Err, IsErrAnd}
use lib.ListN.{length}
use lib.Dec.{ltb}
use Rattle.bits.specs.Strings.{Bits}
use Rattle.places.specs.Places.{overlay}
use Rattle.places.proofs.Places.{overlay_nil}
use Rattle.calls.specs.Bounds.{most_bits, threshold_most, threshold_number, outside}
use Rattle.calls.specs.Causes.{Cause, number_due}
use Rattle.calls.specs.Outcome.{accepted, judged}
use Rattle.calls.specs.Refusals.{number_of, number_in}
use Rattle.calls.specs.declared.Refusal.{Refusal}
use Rattle.calls.specs.declared.Refusal.TheVariants.{NoSpace}
use Rattle.calls.proofs.Judged.{Clear, numbered, first_due, second_due, judged_due, judged_refused, judged_second}
use Rattle.query.specs.Query.{is_query, prefix_length, children}
use Rattle.shares.specs.ShareNumbers.{numbers, all_below}
use Rattle.shares.proofs.Matching.{not_both, both}
use Rattle.combine.specs.declared.Combined.{Combined}
use Rattle.combine.specs.Answer.{Answer, next, list, ended, further, answer_bytes, kind, length_of, kind_of}
use Rattle.combine.specs.Combine.{wrong_shares, kept_prefixes, combine_answer, combine_bytes, passes_limit, lent_causes, space_causes, combine_causes, combine_outcome, combine_kind, combine_exit, told}

-- ---- the first cause that applies of those of what is lent

module _ (n : ℕ) (weighted : Bool) (t : ℕ) (q s0 s1 : List ℕ) where
  pub cause_1 : outside most_bits n ≡ true → 1 ≡ number_due (lent_causes n weighted t q s0 s1)
  cause_1 h = rw h

  module _ (h₁ : outside most_bits n ≡ false) where
    pub cause_2 : outside (threshold_most weighted) t ≡ true → threshold_number weighted ≡ number_due (lent_causes n weighted t q s0 s1)
    cause_2 h = rw (h₁, h)

    module _ (h₂ : outside (threshold_most weighted) t ≡ false) where
      pub cause_4 : wrong_shares n q s0 s1 ≡ true → 4 ≡ number_due (lent_causes n weighted t q s0 s1)
      cause_4 h = rw (h₁, h₂, h)

      module _ (h₄ : wrong_shares n q s0 s1 ≡ false) where
        pub cause_6 : (all_below (numbers s0) && all_below (numbers s1)) ≡ false → 6 ≡ number_due (lent_causes n weighted t q s0 s1)
        cause_6 h = rw (h₁, h₂, h₄, not_both (all_below (numbers s0)) (all_below (numbers s1)) h)

        module _ (h₆ : (all_below (numbers s0) && all_below (numbers s1)) ≡ true) where
          pub cause_9 : is_query n q ≡ false → 9 ≡ number_due (lent_causes n weighted t q s0 s1)
          cause_9 h = rw (h₁, h₂, h₄, both (all_below (numbers s0)) (all_below (numbers s1)) h₆, h)

          pub no_cause : is_query n q ≡ true → 0 ≡ number_due (lent_causes n weighted t q s0 s1)
          no_cause h = rw (h₁, h₂, h₄, both (all_below (numbers s0)) (all_below (numbers s1)) h₆, h)

-- ---- what the call returns, and what it leaves in the space d

module _ (n : ℕ) (weighted : Bool) (t : ℕ) (q s0 s1 : List ℕ) (d : List ℕ) where
  abbrev pub Told : Result Combined Refusal → List ℕ → Type 0
  Told r out =
      (number_in r ≡ (combine_outcome n weighted t q s0 s1 (length d)).number)
      × ((kind_of r ≡ combine_kind n weighted t q s0 s1 (length d))
      × ((length_of r ≡ length (combine_outcome n weighted t q s0 s1 (length d)).written) × (out ≡ overlay (combine_outcome n weighted t q s0 s1 (length d)).written d)))

  -- the same as one equation
  pub told_exit : (r : Result Combined Refusal) (out : List ℕ) → Told r out → told r out ≡ combine_exit n weighted t q s0 s1 d
  unfolding told
  told_exit r out h = rw (h.0, h.1.0, h.1.1.0, h.1.1.1)

  told_refused : (refusal : Refusal) → number_of refusal ≡ number_due (combine_causes n weighted t q s0 s1 (length d)) → Told (Err refusal) d
  unfolding combine_outcome combine_kind
  told_refused refusal h =
      let cs = combine_causes n weighted t q s0 s1 (length d) in
      let bytes = combine_bytes n weighted t q s0 s1 in
      let j : (judged cs bytes).number ≡ number_of refusal = judged_due cs bytes ∙ sym h in
      let w : (judged cs bytes).written ≡ [] = judged_refused cs bytes (λ y. numbered refusal (sym j ∙ y)) in (
        sym j,
        (
          rw (← h, ne_eqb (number_of refusal) 0 (numbered refusal)),
          (sym (ap length w), sym (ap (λ (v : List ℕ). overlay v d) w ∙ overlay_nil d)),
        ),
      )

  -- the cause of what is to be written
  abbrev last : List Cause
  last = space_causes n weighted t q s0 s1 (length d)

  -- a cause of what is lent, which a `?` hands on
  pub told_lent : (refusal : Refusal) → number_of refusal ≡ number_due (lent_causes n weighted t q s0 s1)
      → (r : Result Combined Refusal) → IsErrAnd r (λ e. e ≡ refusal) → Told r d
  told_lent refusal h (Ok x) p = absurd p
  told_lent refusal h (Err e) p =
      let due : number_of e ≡ number_due (lent_causes n weighted t q s0 s1) = ap number_of p ∙ h in
      told_refused e (due ∙ sym (first_due (lent_causes n weighted t q s0 s1) last (λ y. numbered e (due ∙ y))))

  -- no cause of what is lent, and the answer a
  module _ (clear : Clear (lent_causes n weighted t q s0 s1)) (a : Answer) (e : combine_answer n weighted t q s0 s1 ≡ a) where
    -- it does not fit, or passes the limit
    abbrev too_large : Bool
    too_large = ltb (length d) (length (answer_bytes (prefix_length q) a)) || passes_limit a

    last_number : number_due (combine_causes n weighted t q s0 s1 (length d)) ≡ cond too_large 11 0
    last_number = second_due (lent_causes n weighted t q s0 s1) last clear ∙ rw e

    pub told_large : too_large ≡ true → Told (Err NoSpace) d
    told_large h = told_refused NoSpace (sym (last_number ∙ rw h))

    pub told_answer : too_large ≡ false → (r : Result Combined Refusal) (out : List ℕ) → number_in r ≡ 0 → kind_of r ≡ some (kind a)
        → length_of r ≡ length (answer_bytes (prefix_length q) a) → out ≡ overlay (answer_bytes (prefix_length q) a) d → Told r out
    unfolding combine_outcome combine_kind
    told_answer h r out number what size space =
        let o : judged (combine_causes n weighted t q s0 s1 (length d)) (combine_bytes n weighted t q s0 s1) ≡ accepted (answer_bytes (prefix_length q) a) =
        judged_second (lent_causes n weighted t q s0 s1) last (combine_bytes n weighted t q s0 s1) clear ∙ rw (e, h) in
        (rw o number, (rw (last_number, h, e) what, (rw o size, rw o space)))

-- ---- the answer

module _ (n : ℕ) (weighted : Bool) (t : ℕ) (q s0 s1 : List ℕ) where
  pub answer_list : prefix_length q ≡ n → combine_answer n weighted t q s0 s1 ≡ list (kept_prefixes weighted t q s0 s1)
  answer_list e = rw (eq-eqb (prefix_length q) n e)

  module _ (e : prefix_length q ≡ n → ⊥) where
    answer_further : combine_answer n weighted t q s0 s1 ≡ further (kept_prefixes weighted t q s0 s1)
    answer_further = rw (ne_eqb (prefix_length q) n e)

    pub answer_ended : length (kept_prefixes weighted t q s0 s1) < 1 → combine_answer n weighted t q s0 s1 ≡ ended
    answer_ended h = answer_further ∙ none (kept_prefixes weighted t q s0 s1) h
      where
        none : (ps : List Bits) → length ps < 1 → further ps ≡ ended
        none [] h = refl
        none (p ∷ ps) h = absurd (omega arith)

    pub answer_next : 0 < length (kept_prefixes weighted t q s0 s1) → combine_answer n weighted t q s0 s1 ≡ next (children (kept_prefixes weighted t q s0 s1))
    answer_next h = answer_further ∙ some_kept (kept_prefixes weighted t q s0 s1) h
      where
        some_kept : (ps : List Bits) → 0 < length ps → further ps ≡ next (children ps)
        some_kept [] h = absurd (omega arith)
        some_kept (p ∷ ps) h = refl
