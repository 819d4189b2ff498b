-- A packed string as characters, one after the other.
use Prim.Native.Nat.{ℕ, suc, ◌+◌, ◌≤◌, ◌<◌}
use native.Mathlib.Omega.{arith}
use native.Mathlib.Numerals.{add-one}
use mathlib.Core.Path.{◌≡◌, ap, ◌∙◌}
use mathlib.Core.Bool.{Bool, false}
use mathlib.Core.List.{List, [], ◌∷◌}
use lib.ListN.{length, get_or, take, drop, length-take, drop_of_length-le}
use lib.Seq.{drop-cons, get_or-take}
use Rattle.places.specs.Lists.{digit}
use Rattle.bits.specs.Packing.{packed_length, bits_of, unpack}
use Rattle.bits.proofs.Packed.{unpack_length}
use Rattle.exam_text.specs.Characters.{glyph, binary}

module _ (k i : ℕ) (packed : List ℕ) where
  pub binary_none : k ≤ i → binary (drop i (unpack k packed)) ≡ []
  unfolding binary unpack
  binary_none h =
      let l : length (take k (bits_of packed)) ≤ i = omega (arith, length-take k (bits_of packed)) in
      rw (drop_of_length-le (take k (bits_of packed)) l)

  unpack_at : i < k → get_or (unpack k packed) i false ≡ get_or (bits_of packed) i false
  unfolding unpack
  unpack_at h = get_or-take k (bits_of packed) i false h

  -- bit i and those after it
  pub binary_step : length packed ≡ packed_length k → i < k
      → binary (drop i (unpack k packed)) ≡ glyph (digit (get_or (bits_of packed) i false)) ∷ binary (drop (i + 1) (unpack k packed))
  unfolding binary
  binary_step e h =
      let l : i < length (unpack k packed) = rw (unpack_length k packed e) h in
      ap binary (drop-cons (unpack k packed) i false l)
      ∙ rw (add-one i)
      (ap (λ (b : Bool). glyph (digit b) ∷ binary (drop (suc i) (unpack k packed))) (unpack_at h))
