-- The first bits of two packed strings agree: whole bytes, and the highest bits of the byte after them.
use Prim.Native.Nat.{ℕ, zero, suc, ◌+◌, ◌-◌, ◌*◌, ◌/◌, ◌%◌, ◌^◌, ◌≤◌, ◌<◌}
use native.Mathlib.Omega.{arith}
use native.Mathlib.Nat.{pow-succ', div-div-eq-div-mul, div-eq_of_lt}
use native.Mathlib.Decide.{dec_lt}
use lib.Pow.{pow-add}
use mathlib.Core.Path.{◌≡◌, refl, sym, ◌∙◌}
use mathlib.Core.Bool.{Bool, true, false, beq}
use mathlib.Core.List.{List}
use borrow.Author.Tests.{eqb-true, eqb-false}
use lib.ListN.{get_or}
use lib.Dec.{eqb}
use Rattle.tree.proofs.Prefixes.{beq_eq, beq_refl}
use Rattle.bits.specs.Packing.{bits_of}
use Rattle.bits.proofs.Packed.{bit_of_lem}
use Rattle.point.specs.PublicShare.{every}
use Rattle.point.proofs.Joined.{every_true, every_fails, every_at}
use Rattle.parents.specs.Lookup.{agree}

-- the binary digit of weight 2 ^ e
abbrev bit : ℕ → ℕ → Bool
bit x e = eqb (x / 2 ^ e % 2) 1

bit_same : (y z : ℕ) → eqb (y % 2) 1 ≡ eqb (z % 2) 1 → y % 2 ≡ z % 2
bit_same y z h = go (eqb (y % 2) 1) refl
  where
    go : (b : Bool) → eqb (y % 2) 1 ≡ b → y % 2 ≡ z % 2
    go true e = omega (arith, eqb-true (y % 2) 1 e, eqb-true (z % 2) 1 (sym h ∙ e))
    go false e =
        let p : y % 2 ≡ 1 → ⊥ = eqb-false (y % 2) 1 e in
        let q : z % 2 ≡ 1 → ⊥ = eqb-false (z % 2) 1 (sym h ∙ e) in
        omega arith

halved : (x e : ℕ) → x / 2 ^ suc e ≡ x / 2 ^ e / 2
halved x e = let p : 2 ^ suc e ≡ 2 ^ e * 2 = omega (arith, pow-succ' 2 e) in rw (p, ← div-div-eq-div-mul x (2 ^ e) 2)

-- numbers whose digits from place e on agree
highest : (w e t x y : ℕ) → t ≡ e + w → x < 2 ^ t → y < 2 ^ t → ((j : ℕ) → e ≤ j → j < t → bit x j ≡ bit y j) → x / 2 ^ e ≡ y / 2 ^ e
highest zero e t x y h lx ly d =
    let q : t ≡ e = omega arith in
    let kx : x < 2 ^ e = rw q at lx in
    let ky : y < 2 ^ e = rw q at ly in
    div-eq_of_lt kx ∙ sym (div-eq_of_lt ky)
highest (suc w) e t x y h lx ly d =
    let ih = highest w (suc e) t x y (omega arith) lx ly (λ j l k. d j (omega arith) k) in
    omega (arith, ih, halved x e, halved y e, bit_same (x / 2 ^ e) (y / 2 ^ e) (d e (omega arith) (omega arith)))

-- and the other way
higher : (e j x y : ℕ) → x / 2 ^ e ≡ y / 2 ^ e → e ≤ j → x / 2 ^ j ≡ y / 2 ^ j
higher e j x y h l =
    let s : j ≡ e + (j - e) = omega arith in
    rw (s, pow-add 2 e (j - e), ← div-div-eq-div-mul x (2 ^ e) (2 ^ (j - e)), ← div-div-eq-div-mul y (2 ^ e) (2 ^ (j - e)), h)

module _ (k : ℕ) (a b : List ℕ) where
  -- the bits at place i
  abbrev same : ℕ → Bool
  same i = beq (get_or (bits_of a) i false) (get_or (bits_of b) i false)

  pub agree_all : ((i : ℕ) → i < k → get_or (bits_of a) i false ≡ get_or (bits_of b) i false) → agree k a b ≡ true
  unfolding agree
  agree_all h = every_true k same (λ i l. rw (h i l) (beq_refl _))

  pub agree_at : agree k a b ≡ true → (i : ℕ) → i < k → get_or (bits_of a) i false ≡ get_or (bits_of b) i false
  unfolding agree
  agree_at e i l = beq_eq _ _ (every_at k same e i l)

  module _ (byte-a : (i : ℕ) → get_or a i 0 < 256) (byte-b : (i : ℕ) → get_or b i 0 < 256) where
    -- the byte j has the digits from place e on in common, where all its bits before them lie below k
    byte_part : agree k a b ≡ true → (j e : ℕ) → e ≤ 8 → 8 * j + (8 - e) ≤ k → get_or a j 0 / 2 ^ e ≡ get_or b j 0 / 2 ^ e
    byte_part s j e l h =
        highest (8 - e) e 8 (get_or a j 0) (get_or b j 0) (omega arith) (byte-a j) (byte-b j)
        (λ d u v.
        let i : ℕ = 8 * j + (7 - d) in
        let p : (8 * j + (7 - d)) / 8 ≡ j = omega arith in
        let q : 7 - (8 * j + (7 - d)) % 8 ≡ d = omega arith in
        let m = agree_at s i (omega arith) in
        let r : bit (get_or a (i / 8) 0) (7 - i % 8) ≡ bit (get_or b (i / 8) 0) (7 - i % 8) = sym (bit_of_lem a i) ∙ m ∙ bit_of_lem b i in
        rw (p, q) at r)

    module _ (x y : ℕ) (ex : x ≡ get_or a (k / 8) 0) (ey : y ≡ get_or b (k / 8) 0) where
      pub part_differs : (x / 2 ^ (8 - k % 8) ≡ y / 2 ^ (8 - k % 8) → ⊥) → agree k a b ≡ false
      part_differs h = go (agree k a b) refl
        where
          go : (c : Bool) → agree k a b ≡ c → agree k a b ≡ false
          go true e = absurd (h (rw (ex, ey) (byte_part e (k / 8) (8 - k % 8) (omega arith) (omega arith))))
          go false e = e

      pub part_same : x / 2 ^ (8 - k % 8) ≡ y / 2 ^ (8 - k % 8) → agree k a b ≡ every (k / 8) (λ i. eqb (get_or a i 0) (get_or b i 0))
      part_same h = go (every (k / 8) (λ i. eqb (get_or a i 0) (get_or b i 0))) refl
        where
          equal : get_or a (k / 8) 0 / 2 ^ (8 - k % 8) ≡ get_or b (k / 8) 0 / 2 ^ (8 - k % 8)
          equal = rw (← ex, ← ey) h

          go : (c : Bool) → every (k / 8) (λ i. eqb (get_or a i 0) (get_or b i 0)) ≡ c → agree k a b ≡ c
          go true e =
              agree_all (λ i l.
              bit_of_lem a i
              ∙ elim (dec_lt (i / 8) (k / 8)) [
                | yes u ↦
                    let z : get_or a (i / 8) 0 ≡ get_or b (i / 8) 0 = eqb-true _ _ (every_at (k / 8) (λ i. eqb (get_or a i 0) (get_or b i 0)) e (i / 8) u) in
                    rw z
                | no u ↦
                    let p : i / 8 ≡ k / 8 = omega arith in
                    let z = higher (8 - k % 8) (7 - i % 8) (get_or a (k / 8) 0) (get_or b (k / 8) 0) equal (omega arith) in
                    rw (p, z)
              ]
              ∙ sym (bit_of_lem b i))
          go false e = whole (agree k a b) refl
            where
              whole : (d : Bool) → agree k a b ≡ d → agree k a b ≡ false
              whole true s =
                  let w = every_fails (k / 8) (λ i. eqb (get_or a i 0) (get_or b i 0)) e in
                  let z : get_or a w.0 0 / 1 ≡ get_or b w.0 0 / 1 = byte_part s w.0 0 (omega arith) (omega (arith, w.1)) in
                  absurd (eqb-false (get_or a w.0 0) (get_or b w.0 0) w.2 (omega arith))
              whole false s = s
