-- What is found first among places that are looked through upwards or downwards.
use Prim.Native.Nat.{ℕ, zero, suc, ◌+◌, ◌-◌, ◌≤◌, ◌<◌, min}
use native.Mathlib.Omega.{arith}
use native.Mathlib.Numerals.{add-one}
use mathlib.Core.Path.{◌≡◌, refl, sym, ◌∙◌}
use mathlib.Core.Bool.{Bool, true, false, cond}
use mathlib.Core.List.{List, [], ◌∷◌}
use Rattle.std.specs.Prelude.{Option, None, Some, MatchOption}
use Rattle.std.specs.Option.{option_map}
use Rattle.std.specs.Iterator.{AlwaysYields}
use Rattle.std.specs.Iterator.Adapters.{rev_source, rev_steps}
use Rattle.std.specs.List.{find, range_with_len}
use Rattle.std.specs.declared.ops.Range.{Range}
use Rattle.std.specs.declared.iter.Rev.{Rev}
use Rattle.std.proofs.lemmas.Iterator.{YieldsList}
use Rattle.parents.specs.Lookup.{up_from, down_from, looked_up}
use Rattle.parents.proofs.Looking.{up_least, looked_near_up, looked_far_up, looked_near_down, looked_far_down}

-- the places below n, the greatest first
abbrev pub downwards : ℕ → List ℕ
downwards zero = []
downwards (suc n) = n ∷ downwards n

-- one place taken from the end of a range
abbrev pub taken_back : Range ℕ → Option ℕ → Range ℕ → Type 0
taken_back s r t = (t.start ≡ s.start) × MatchOption r ((s.end - s.start ≡ 0) × (t.end ≡ s.end)) (λ x. (0 < s.end - s.start) × (x ≡ t.end) × (s.end ≡ t.end + 1))

range_down : (n : ℕ) (s : Rev (Range ℕ)) → (rev_source s).start ≡ 0 → (rev_source s).end ≡ n → AlwaysYields (rev_steps taken_back) (λ x. x) s (downwards n)
range_down zero s e f = λ x j p. omega (arith, p.1.0)
range_down (suc n) s e f = (
  (λ j p. omega (arith, p.1.0)),
  λ x j p. (omega (arith, p.1.1, p.1.2), range_down n j (p.0 ∙ e) (omega (arith, p.1.2))),
)

pub down_yields : {s : Rev (Range ℕ)} (n : ℕ) → (rev_source s).start ≡ 0 → (rev_source s).end ≡ n → YieldsList (rev_steps taken_back) (λ x. x) s (downwards n)
down_yields {s} n e f = record { runs = range_down n s e f }

module _ (f : ℕ → Bool) where
  first_up : (n a : ℕ) → MatchOption (find f (range_with_len a n)) (a + n ≤ up_from f a n) (λ i. (i < a + n) × (up_from f a n ≡ i))
  unfolding up_from
  first_up zero a = omega arith
  first_up (suc n) a = go (f a) (find f (range_with_len (a + 1) n)) (rw (add-one a) (first_up n (suc a)))
    where
      go : (b : Bool) (r : Option ℕ) → MatchOption r (suc a + n ≤ up_from f (suc a) n) (λ i. (i < suc a + n) × (up_from f (suc a) n ≡ i))
          → MatchOption (cond b (Some a) r) (a + suc n ≤ cond b a (up_from f (suc a) n)) (λ i. (i < a + suc n) × (cond b a (up_from f (suc a) n) ≡ i))
      go true r h = (omega arith, refl)
      go false None h = omega arith
      go false (Some i) h = (omega arith, h.1)

  pub found_up : (a m : ℕ) (r : Option ℕ) → option_map (λ i. i) r ≡ find f (range_with_len a (m - a)) → MatchOption r (m ≤ up_from f a (m - a)) (λ i. (i < m) × (up_from f a (m - a) ≡ i))
  found_up a m None e = let h : a + (m - a) ≤ up_from f a (m - a) = rw (← e) at (first_up (m - a) a) in omega arith
  found_up a m (Some i) e =
      let h : (i < a + (m - a)) × (up_from f a (m - a) ≡ i) = rw (← e) at (first_up (m - a) a) in
      let least = up_least f (m - a) a in
      (omega arith, h.1)

  first_down : (none n : ℕ) → MatchOption (find f (downwards n)) (down_from f none n ≡ none) (λ i. (i < n) × (down_from f none n ≡ i))
  unfolding down_from
  first_down none zero = refl
  first_down none (suc n) = go (f n) (find f (downwards n)) (first_down none n)
    where
      go : (b : Bool) (r : Option ℕ) → MatchOption r (down_from f none n ≡ none) (λ i. (i < n) × (down_from f none n ≡ i))
          → MatchOption (cond b (Some n) r) (cond b n (down_from f none n) ≡ none) (λ i. (i < suc n) × (cond b n (down_from f none n) ≡ i))
      go true r h = (omega arith, refl)
      go false None h = h
      go false (Some i) h = (omega arith, h.1)

  pub found_down : (none n : ℕ) (r : Option ℕ) → option_map (λ i. i) r ≡ find f (downwards n) → MatchOption r (down_from f none n ≡ none) (λ i. (i < n) × (down_from f none n ≡ i))
  found_down none n None e = rw (← e) at (first_down none n)
  found_down none n (Some i) e = rw (← e) at (first_down none n)

  up_most : (n a : ℕ) → up_from f a n ≤ a + n
  unfolding up_from
  up_most zero a = omega arith
  up_most (suc n) a = go (f a) (up_most n (suc a))
    where
      go : (b : Bool) → up_from f (suc a) n ≤ suc a + n → cond b a (up_from f (suc a) n) ≤ a + suc n
      go true h = omega arith
      go false h = omega arith

  -- what is found near the hint, or else from the beginning
  module _ (m hint : ℕ) (P : Type 0) where
    pub looked_or_up : (near far : Option ℕ) → MatchOption near (m ≤ up_from f hint (m - hint)) (λ i. (i < m) × (up_from f hint (m - hint) ≡ i))
        → MatchOption near P (λ i. far ≡ Some i) → (P → MatchOption far (m ≤ up_from f 0 (m - 0)) (λ i. (i < m) × (up_from f 0 (m - 0) ≡ i)))
        → MatchOption far (looked_up true f m hint ≡ m) (λ i. (i ≡ looked_up true f m hint) × (i < m))
    looked_or_up (Some i) far h e g = rw e (looked_near_up f m hint i (sym h.1) h.0, h.0)
    looked_or_up None None h e g =
        let far = looked_far_up f m hint _ _ refl h refl in
        let most = up_most (m - 0) 0 in
        sym far ∙ omega (arith, g e)
    looked_or_up None (Some i) h e g = let k = g e in (looked_far_up f m hint _ i refl h (sym k.1), k.0)

    pub looked_or_down : (below : ℕ) → below ≡ min (suc hint) m → (near far : Option ℕ)
        → MatchOption near (down_from f m below ≡ m) (λ i. (i < below) × (down_from f m below ≡ i))
        → MatchOption near P (λ i. far ≡ Some i) → (P → MatchOption far (down_from f m m ≡ m) (λ i. (i < m) × (down_from f m m ≡ i)))
        → MatchOption far (looked_up false f m hint ≡ m) (λ i. (i ≡ looked_up false f m hint) × (i < m))
    looked_or_down below b (Some i) far h e g = rw e (looked_near_down f m hint i below b (sym h.1) (omega arith), omega arith)
    looked_or_down below b None None h e g = sym (looked_far_down f m hint _ m below b refl (omega arith) (sym (g e)))
    looked_or_down below b None (Some i) h e g = let k = g e in (looked_far_down f m hint _ i below b refl (omega arith) (sym k.1), k.0)
