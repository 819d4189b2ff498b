-- What a search for a place finds.
use Prim.Native.Nat.{ℕ, zero, suc, ◌+◌, ◌-◌, ◌≤◌, ◌<◌, min}
use native.Mathlib.Omega.{arith}
use native.Mathlib.Decide.{dec_lt}
use mathlib.Core.Path.{◌≡◌, refl, sym, ap, ◌∙◌}
use mathlib.Core.Bool.{Bool, true, false, cond, true≢false}
use borrow.Author.Tests.{lt-ltb, le-ltb}
use Rattle.parents.specs.Lookup.{up_from, down_from, looked_up}

module _ (f : ℕ → Bool) where
  -- ---- upwards

  pub up_least : (m a : ℕ) → a ≤ up_from f a m
  unfolding up_from
  up_least zero a = omega arith
  up_least (suc m) a = go (f a) (up_least m (suc a))
    where
      go : (b : Bool) → suc a ≤ up_from f (suc a) m → a ≤ cond b a (up_from f (suc a) m)
      go true h = omega arith
      go false h = omega arith

  -- what is found passes
  pub up_passes : (m a : ℕ) → up_from f a m < a + m → f (up_from f a m) ≡ true
  unfolding up_from
  up_passes zero a h = absurd (omega arith)
  up_passes (suc m) a h = go (f a) refl (up_passes m (suc a)) h
    where
      go : (b : Bool) → f a ≡ b → (up_from f (suc a) m < suc a + m → f (up_from f (suc a) m) ≡ true) → cond b a (up_from f (suc a) m) < a + suc m
          → f (cond b a (up_from f (suc a) m)) ≡ true
      go true e ih l = e
      go false e ih l = ih (omega arith)

  -- and no place before it does
  pub up_first : (m a i : ℕ) → a ≤ i → i < a + m → f i ≡ true → up_from f a m ≤ i
  unfolding up_from
  up_first zero a i h l p = absurd (omega arith)
  up_first (suc m) a i h l p = go (f a) refl (up_first m (suc a) i)
    where
      go : (b : Bool) → f a ≡ b → (suc a ≤ i → i < suc a + m → f i ≡ true → up_from f (suc a) m ≤ i) → cond b a (up_from f (suc a) m) ≤ i
      go true e ih = h
      go false e ih =
          let other : i ≡ a → ⊥ = λ z. true≢false (sym p ∙ ap f z ∙ e) in
          ih (omega arith) (omega arith) p

  -- ---- downwards

  pub down_passes : (none a : ℕ) → a ≤ none → down_from f none a < none → f (down_from f none a) ≡ true
  unfolding down_from
  down_passes none zero h l = absurd (omega arith)
  down_passes none (suc a) h l = go (f a) refl (down_passes none a (omega arith)) l
    where
      go : (b : Bool) → f a ≡ b → (down_from f none a < none → f (down_from f none a) ≡ true) → cond b a (down_from f none a) < none
          → f (cond b a (down_from f none a)) ≡ true
      go true e ih l = e
      go false e ih l = ih l

  pub down_below : (none a i : ℕ) → i < a → f i ≡ true → down_from f none a < a
  unfolding down_from
  down_below none zero i l p = absurd (omega arith)
  down_below none (suc a) i l p = go (f a) refl (down_below none a i)
    where
      go : (b : Bool) → f a ≡ b → (i < a → f i ≡ true → down_from f none a < a) → cond b a (down_from f none a) < suc a
      go true e ih = omega arith
      go false e ih =
          let other : i ≡ a → ⊥ = λ z. true≢false (sym p ∙ ap f z ∙ e) in
          omega (arith, ih (omega arith) p)

  -- ---- both

  module _ (m hint : ℕ) where
    pub looked_near_up : (r : ℕ) → r ≡ up_from f hint (m - hint) → r < m → r ≡ looked_up true f m hint
    unfolding looked_up
    looked_near_up r e l = rw (← e, lt-ltb r m l)

    pub looked_far_up : (r s : ℕ) → r ≡ up_from f hint (m - hint) → m ≤ r → s ≡ up_from f 0 (m - 0) → s ≡ looked_up true f m hint
    unfolding looked_up
    looked_far_up r s e l d =
        let whole : m - 0 ≡ m = omega arith in
        rw (← e, le-ltb r m l) (d ∙ ap (up_from f 0) whole)

    pub looked_near_down : (r below : ℕ) → below ≡ min (suc hint) m → r ≡ down_from f m below → r < m → r ≡ looked_up false f m hint
    unfolding looked_up
    looked_near_down r below b e l = rw (← b, ← e, lt-ltb r m l)

    pub looked_far_down : (r s below : ℕ) → below ≡ min (suc hint) m → r ≡ down_from f m below → m ≤ r → s ≡ down_from f m m → s ≡ looked_up false f m hint
    unfolding looked_up
    looked_far_down r s below b e l d = rw (← b, ← e, le-ltb r m l) d

    whole : up_from f 0 m ≡ up_from f 0 (m - 0)
    whole = let e : m ≡ m - 0 = omega arith in ap (up_from f 0) e

    -- what is found passes
    pub looked_passes : (up : Bool) → looked_up up f m hint < m → f (looked_up up f m hint) ≡ true
    looked_passes true h =
        elim (dec_lt (up_from f hint (m - hint)) m) [
          | yes a ↦
              let e : up_from f hint (m - hint) ≡ looked_up true f m hint = looked_near_up (up_from f hint (m - hint)) refl a in
              rw (← e) (up_passes (m - hint) hint (omega (arith, up_least (m - hint) hint)))
          | no a ↦
              let e : up_from f 0 m ≡ looked_up true f m hint = looked_far_up (up_from f hint (m - hint)) (up_from f 0 m) refl (omega arith) whole in
              rw (← e) (up_passes m 0 (omega arith))
        ]
    looked_passes false h =
        let below : ℕ = min (suc hint) m in
        elim (dec_lt (down_from f m below) m) [
          | yes a ↦
              let e : down_from f m below ≡ looked_up false f m hint = looked_near_down (down_from f m below) below refl refl a in
              rw (← e) (down_passes m below (omega arith) a)
          | no a ↦
              let e : down_from f m m ≡ looked_up false f m hint = looked_far_down (down_from f m below) (down_from f m m) below refl refl (omega arith) refl in
              rw (← e) (down_passes m m (omega arith) (omega arith))
        ]

    -- where some place passes, one is found
    pub looked_below : (up : Bool) (i : ℕ) → i < m → f i ≡ true → looked_up up f m hint < m
    looked_below true i l p =
        elim (dec_lt (up_from f hint (m - hint)) m) [
          | yes a ↦ omega (arith, looked_near_up (up_from f hint (m - hint)) refl a)
          | no a ↦
              omega (
                arith,
                looked_far_up (up_from f hint (m - hint)) (up_from f 0 m) refl (omega arith) whole,
                up_first m 0 i (omega arith) (omega arith) p,
              )
        ]
    looked_below false i l p =
        let below : ℕ = min (suc hint) m in
        elim (dec_lt (down_from f m below) m) [
          | yes a ↦ omega (arith, looked_near_down (down_from f m below) below refl refl a)
          | no a ↦
              omega (
                arith,
                looked_far_down (down_from f m below) (down_from f m m) below refl refl (omega arith) refl,
                down_below m m i l p,
              )
        ]

    -- where one place alone passes, it is found
    pub looked_only : (up : Bool) (p : ℕ) → p < m → f p ≡ true → ((i : ℕ) → i < m → f i ≡ true → i ≡ p) → looked_up up f m hint ≡ p
    looked_only up p l e only = let h = looked_below up p l e in only (looked_up up f m hint) h (looked_passes up h)

    -- from a hint on, upwards, one is found exactly when one is found from the beginning on
    pub looked_some : looked_up true f m hint < m → up_from f 0 m < m
    looked_some h = omega (arith, up_first m 0 (looked_up true f m hint) (omega arith) (omega arith) (looked_passes true h))

    pub looked_none : m ≤ looked_up true f m hint → m ≤ up_from f 0 m
    looked_none h =
        elim (dec_lt (up_from f 0 m) m) [
          | yes a ↦ absurd (omega (arith, looked_below true (up_from f 0 m) a (up_passes m 0 (omega arith))))
          | no a ↦ omega arith
        ]
