-- Whether two shares match and their numbers are below p: the tests decide what they say.
use Prim.Native.Nat.{ℕ, ◌%◌, ◌≤◌}
use mathlib.Core.Path.{◌≡◌, refl, sym, subst}
use mathlib.Core.Bool.{Bool, true, false, not, true≢false, ◌&&◌, ◌||◌}
use mathlib.Core.List.{List, [], ◌∷◌}
use mathlib.Core.List.Memᴰ.{head as here}
use mathlib.Core.List.Memᴰ.{tail as there}
use borrow.Author.Tests.{le-ltb, ltb-false, eqb-true, not-false}
use lib.ListN.{length}
use lib.Dec.{T, ltb, eqb}
use Rattle.places.specs.Lists.{◌∈◌}
use Rattle.calls.specs.Causes.{Cause}
use Rattle.calls.proofs.Decisions.{failed, failed_test, differ, differ_test, either, either_test, neither}
use Rattle.calls.proofs.Judged.{Decided, next}
use Rattle.group.specs.Modular.{p}
use Rattle.shares.specs.ShareNumbers.{numbers, Unmatched, unmatched, NumberTooLarge, all_below, numbers_cause}

-- ---- lengths

module _ (share0 share1 : List ℕ) where
  abbrev lengths_differ : Bool
  lengths_differ = not (eqb (length share0) (length share1))

  abbrev odd_length : Bool
  odd_length = not (eqb (length share0 % 8) 0)

  pub unmatched_holds : T (unmatched share0 share1) → Unmatched share0 share1
  unmatched_holds = either lengths_differ odd_length (differ _ _) (differ _ _)

  pub unmatched_test : Unmatched share0 share1 → T (unmatched share0 share1)
  unmatched_test = either_test lengths_differ odd_length (differ_test _ _) (differ_test _ _)

  pub matched : unmatched share0 share1 ≡ false → (length share0 ≡ length share1) × (length share0 % 8 ≡ 0)
  matched h =
      let l = neither lengths_differ odd_length h in
      (eqb-true (length share0) (length share1) (not-false _ l.0), eqb-true (length share0 % 8) 0 (not-false _ l.1))

-- ---- numbers

-- a number that is not below p
some_large : (xs : List ℕ) → all_below xs ≡ false → (x : ℕ) × (x ∈ xs) × (p ≤ x)
unfolding all_below
some_large [] h = absurd (true≢false h)
some_large (x ∷ xs) h = go (ltb x p) refl h (some_large xs)
  where
    go : (b : Bool) → ltb x p ≡ b → (b && all_below xs) ≡ false → (all_below xs ≡ false → (y : ℕ) × (y ∈ xs) × (p ≤ y)) → (y : ℕ) × (y ∈ x ∷ xs) × (p ≤ y)
    go true e h f = let w = f h in (w.0, there w.1, w.2)
    go false e h f = (x, here refl, ltb-false x p e)

large_fails : (x : ℕ) (xs : List ℕ) → x ∈ xs → p ≤ x → all_below xs ≡ false
unfolding all_below
large_fails x [] m l = elim m [ ]
large_fails x (y ∷ xs) (here e) l = let k : p ≤ y = subst (λ (z : ℕ). p ≤ z) e l in rw (le-ltb y p k)
large_fails x (y ∷ xs) (there m) l = go (ltb y p) (large_fails x xs m l)
  where
    go : (b : Bool) → all_below xs ≡ false → (b && all_below xs) ≡ false
    go true h = h
    go false h = refl

too_large_lem : (s : List ℕ) → T (not (all_below (numbers s))) → NumberTooLarge s
too_large_lem s t = some_large (numbers s) (failed (all_below (numbers s)) t)

too_large_test : (s : List ℕ) → NumberTooLarge s → T (not (all_below (numbers s)))
too_large_test s h = failed_test (large_fails h.0 (numbers s) h.1 h.2)

pub numbers_decided : {cs : List Cause} (share0 share1 : List ℕ) → Decided cs → Decided (numbers_cause share0 share1 ∷ cs)
numbers_decided share0 share1 =
    let large0 = not (all_below (numbers share0)) in
    let large1 = not (all_below (numbers share1)) in
    next {b = large0 || large1}
    (either large0 large1 (too_large_lem share0) (too_large_lem share1))
    (either_test large0 large1 (too_large_test share0) (too_large_test share1))

-- one of two tests fails, or both pass
pub not_both : (a b : Bool) → (a && b) ≡ false → (not a || not b) ≡ true
not_both true true h = sym h
not_both true false h = refl
not_both false b h = refl

pub both : (a b : Bool) → (a && b) ≡ true → (not a || not b) ≡ false
both true true h = refl
both true false h = sym h
both false b h = sym h
