-- Counting does not depend on the order, and a strictly ascending list has no string twice.
use Prim.Native.Nat.{◌+◌, ◌≤◌, ◌<◌}
use native.Mathlib.Omega.{arith}
use mathlib.Core.Path.{◌≡◌, refl, sym, ap, ◌∙◌}
use mathlib.Core.Bool.{Bool, true, false, cond}
use mathlib.Core.List.{List, [], ◌∷◌}
use lib.ListN.{length}
use Rattle.places.specs.Lists.{digit, All, how_many}
use Rattle.bits.specs.Strings.{Bits, Before, Ascending}
use Rattle.tree.specs.Cut.{is_same, times, Rearranged}

pub is_same_refl : (s : Bits) → is_same s s ≡ true
is_same_refl [] = refl
is_same_refl (false ∷ s) = is_same_refl s
is_same_refl (true ∷ s) = is_same_refl s

pub is_same_eq : (s q : Bits) → is_same s q ≡ true → s ≡ q
is_same_eq [] [] e = refl
is_same_eq [] (c ∷ q) e = cc
is_same_eq (b ∷ s) [] e = cc
is_same_eq (false ∷ s) (false ∷ q) e = ap (λ r. false ∷ r) (is_same_eq s q e)
is_same_eq (false ∷ s) (true ∷ q) e = cc
is_same_eq (true ∷ s) (false ∷ q) e = cc
is_same_eq (true ∷ s) (true ∷ q) e = ap (λ r. true ∷ r) (is_same_eq s q e)

-- ---- rearrangements

-- the list without the first x
remove : Bits → List Bits → List Bits
remove x [] = []
remove x (y ∷ ys) = cond (is_same x y) ys (y ∷ remove x ys)

number_remove : (f : Bits → Bool) (x : Bits) (ys : List Bits) → 0 < times x ys → how_many f ys ≡ digit (f x) + how_many f (remove x ys)
unfolding remove
number_remove f x [] h = absurd (omega arith)
number_remove f x (y ∷ ys) h = go (is_same x y) refl (number_remove f x ys)
  where
    go : (c : Bool) → is_same x y ≡ c → (0 < times x ys → how_many f ys ≡ digit (f x) + how_many f (remove x ys))
        → digit (f y) + how_many f ys ≡ digit (f x) + how_many f (cond (is_same x y) ys (y ∷ remove x ys))
    go true e ih = rw (e, is_same_eq x y e)
    go false e ih = rw e (omega (arith, ih (omega (arith, rw e at h))))

-- a rearrangement has as many strings that pass a test
pub rearranged_number : (f : Bits → Bool) (xs ys : List Bits) → Rearranged xs ys → how_many f xs ≡ how_many f ys
rearranged_number f [] [] r = refl
rearranged_number f [] (y ∷ ys) r = absurd (omega (arith, rw is_same_refl at (r y)))
rearranged_number f (x ∷ xs) ys r =
    let h : 0 < times x ys = omega (arith, rw is_same_refl at (r x)) in
    let ih = rearranged_number f xs (remove x ys) (λ s. omega (arith, r s, number_remove (is_same s) x ys h)) in
    omega (arith, ih, number_remove f x ys h)

number_all : (xs : List Bits) → how_many (λ x. true) xs ≡ length xs
number_all [] = refl
number_all (x ∷ xs) = omega (arith, number_all xs)

-- and as many strings in all
pub rearranged_length : (xs ys : List Bits) → Rearranged xs ys → length xs ≡ length ys
rearranged_length xs ys r = sym (number_all xs) ∙ rearranged_number (λ x. true) xs ys r ∙ number_all ys

-- ---- once each

before_other : (p q : Bits) → Before p q → is_same p q ≡ false
before_other [] q h = absurd h
before_other (b ∷ p) [] h = absurd h
before_other (false ∷ p) (false ∷ q) h = before_other p q h
before_other (false ∷ p) (true ∷ q) h = refl
before_other (true ∷ p) (false ∷ q) h = absurd h
before_other (true ∷ p) (true ∷ q) h = before_other p q h

none_later : (p : Bits) (qs : List Bits) → All (Before p) qs → times p qs ≡ 0
none_later p [] a = refl
none_later p (q ∷ qs) a = rw (before_other p q a.0) (omega (arith, none_later p qs a.1))

-- no string stands twice in a strictly ascending list
pub ascending_once : (s : Bits) (ps : List Bits) → Ascending ps → times s ps ≤ 1
ascending_once s [] a = omega arith
ascending_once s (p ∷ ps) a = go (is_same s p) refl (ascending_once s ps a.1)
  where
    go : (c : Bool) → is_same s p ≡ c → times s ps ≤ 1 → digit (is_same s p) + times s ps ≤ 1
    go true e ih = rw (e, is_same_eq s p e) (omega (arith, none_later p ps a.0))
    go false e ih = rw e (omega arith)
