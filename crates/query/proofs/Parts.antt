-- The prefixes of a query, one after the other: how a loop over them goes on.
use Prim.Native.Nat.{ℕ, zero, suc, ◌+◌, ◌-◌, ◌*◌, ◌≤◌, ◌<◌}
use native.Mathlib.Omega.{arith}
use native.Mathlib.Nat.{suc-mul}
use mathlib.Core.Path.{◌≡◌, refl, ◌∙◌}
use mathlib.Core.Bool.{Bool, true, false, ◌&&◌}
use mathlib.Core.List.{List, ◌∷◌, map}
use lib.ListN.{length, get_or, take, drop}
use lib.Seq.{drop-drop}
use Rattle.places.specs.Places.{Bytes}
use Rattle.bits.specs.Packing.{packed_length, unpack, spare_zero, bytes_before}
use Rattle.places.proofs.Places.{window_inside, window_bytes}
use Rattle.query.specs.Query.{parts, spares_zero, is_ascending}
use Rattle.places.proofs.Lists.{and_left, and_right}
use Rattle.query.proofs.Queries.{before_unpack}

-- m parts are one and m - 1
pub peel : (m w : ℕ) → 0 < m → m * w ≡ w + (m - 1) * w
peel zero w h = absurd (omega arith)
peel (suc m) w h = let e : suc m - 1 ≡ m = omega arith in rw e (suc-mul m w ∙ omega arith)

pub parts_step : (w m at : ℕ) (q : List ℕ) → 0 < m → parts w m (drop at q) ≡ take w (drop at q) ∷ parts w (m - 1) (drop (at + w) q)
unfolding parts
parts_step w zero at q h = absurd (omega arith)
parts_step w (suc m) at q h = let e : suc m - 1 ≡ m = omega arith in rw (e, drop-drop w at q)

pub part_bytes : (w at : ℕ) (q : List ℕ) → ((i : ℕ) → get_or q i 0 < 256) → at + w ≤ length q → Bytes w (take w (drop at q))
part_bytes w at q byte h = rw (window_inside w at q h) at (window_bytes w at q byte)

-- ---- spare bits

pub spares_none : (len w m : ℕ) (q : List ℕ) → m ≤ 0 → spares_zero len (parts w m q) ≡ true
unfolding parts spares_zero
spares_none len w zero q h = refl
spares_none len w (suc m) q h = absurd (omega arith)

module _ (len w at m : ℕ) (q : List ℕ) (h : 0 < m) where
  spares_step : spares_zero len (parts w m (drop at q)) ≡ (spare_zero len (take w (drop at q)) && spares_zero len (parts w (m - 1) (drop (at + w) q)))
  unfolding spares_zero
  spares_step = rw (parts_step w m at q h)

  module _ (b : Bool) (f : b ≡ spare_zero len (take w (drop at q))) where
    pub spares_no : b ≡ false → spares_zero len (parts w m (drop at q)) ≡ false
    spares_no g = spares_step ∙ rw (← f, g)

    pub spares_yes : b ≡ true → spares_zero len (parts w m (drop at q)) ≡ spares_zero len (parts w (m - 1) (drop (at + w) q))
    spares_yes g = spares_step ∙ rw (← f, g)

  module _ (z : spares_zero len (parts w m (drop at q)) ≡ true) where
    both : (spare_zero len (take w (drop at q)) && spares_zero len (parts w (m - 1) (drop (at + w) q))) ≡ true
    both = rw spares_step at z

    pub spare_first : spare_zero len (take w (drop at q)) ≡ true
    spare_first = and_left (spare_zero len (take w (drop at q))) _ both

    pub spares_rest : spares_zero len (parts w (m - 1) (drop (at + w) q)) ≡ true
    spares_rest = and_right (spare_zero len (take w (drop at q))) _ both

-- ---- the order

pub ascending_few : (len w m : ℕ) (q : List ℕ) → m ≤ 1 → is_ascending (map (unpack len) (parts w m q)) ≡ true
unfolding parts is_ascending
ascending_few len w zero q h = refl
ascending_few len w (suc zero) q h = refl
ascending_few len w (suc (suc m)) q h = absurd (omega arith)

module _ (len w at m : ℕ) (q : List ℕ) (e : w ≡ packed_length len) (byte : (i : ℕ) → get_or q i 0 < 256) where
  module _ (h : 1 < m) (room : at + m * w ≤ length q) (z : spares_zero len (parts w m (drop at q)) ≡ true) where
    -- two neighbours without spare bits are in the order of their bytes
    ascending_step : is_ascending (map (unpack len) (parts w m (drop at q)))
        ≡ (bytes_before (take w (drop at q)) (take w (drop (at + w) q)) && is_ascending (map (unpack len) (parts w (m - 1) (drop (at + w) q))))
    unfolding is_ascending
    ascending_step =
        let h₀ : 0 < m = omega arith in
        let h₁ : 0 < m - 1 = omega arith in
        let r₁ : at + w + w ≤ length q = omega (arith, peel m w h₀, peel (m - 1) w h₁) in
        let r₀ : at + w ≤ length q = omega arith in
        let b₀ : Bytes (packed_length len) (take w (drop at q)) = rw (← e) (part_bytes w at q byte r₀) in
        let b₁ : Bytes (packed_length len) (take w (drop (at + w) q)) = rw (← e) (part_bytes w (at + w) q byte r₁) in
        rw (
          before_unpack len (take w (drop at q)) (take w (drop (at + w) q)) b₀ b₁ (spare_first len w at m q h₀ z)
              (spare_first len w (at + w) (m - 1) q h₁ (spares_rest len w at m q h₀ z)),
          parts_step w m at q h₀,
          parts_step w (m - 1) (at + w) q h₁,
        )

    module _ (b : Bool) (f : b ≡ bytes_before (take w (drop at q)) (take w (drop (at + w) q))) where
      pub ascending_no : b ≡ false → is_ascending (map (unpack len) (parts w m (drop at q))) ≡ false
      ascending_no g = ascending_step ∙ rw (← f, g)

      pub ascending_yes : b ≡ true
          → is_ascending (map (unpack len) (parts w m (drop at q))) ≡ is_ascending (map (unpack len) (parts w (m - 1) (drop (at + w) q)))
      ascending_yes g = ascending_step ∙ rw (← f, g)
