-- The tests of causes 6 and 7 on one public share, in the form that the code has.
use mathlib.Core.Path.{◌≡◌, refl, ap, ◌∙◌}
use mathlib.Core.Bool.{Bool, true, ◌&&◌}
use mathlib.Core.List.{List}
use Prim.Native.Nat.{ℕ, ◌+◌, ◌*◌, ◌/◌, ◌%◌, ◌^◌}
use native.Mathlib.Numerals.{add-one}
use lib.ListN.{get_or}
use lib.Dec.{eqb, ltb}
use borrow.Author.Tests.{eq-eqb, ne_eqb}
use Rattle.group.specs.Modular.{p}
use Rattle.point.specs.Correction.{Correction}
use Rattle.point.specs.PublicShare.{read_correction, every, payloads_below, spare_bits_zero}

-- the last control byte is full
pub spare_full : (n : ℕ) (bytes : List ℕ) → n % 4 ≡ 0 → spare_bits_zero n bytes ≡ true
unfolding spare_bits_zero
spare_full n bytes h = rw (eq-eqb (n % 4) 0 h)

pub spare_last : (n : ℕ) (bytes : List ℕ) → (n % 4 ≡ 0 → ⊥) → spare_bits_zero n bytes ≡ eqb (get_or bytes (n / 4) 0 / 2 ^ (2 * (n % 4))) 0
unfolding spare_bits_zero
spare_last n bytes h = rw (ne_eqb (n % 4) 0 h)

-- the payload corrections of the first i levels, and of one level more
abbrev pub below : ℕ → List ℕ → ℕ → Bool
below n l i = every i (λ k. ltb (read_correction n l k).payload p)

pub below_none_lem : (n : ℕ) (l : List ℕ) → true ≡ below n l 0
unfolding every
below_none_lem n l = refl

pub below_more : (n i : ℕ) (l : List ℕ) (w : Correction ℕ) (t : Bool) → w ≡ read_correction n l i → t ≡ (below n l i && ltb w.payload p) → t ≡ below n l (i + 1)
unfolding every
below_more n i l w t e h = rw add-one (h ∙ ap (λ (v : Correction ℕ). below n l i && ltb v.payload p) e)

pub below_all_lem : (n : ℕ) (l : List ℕ) → below n l n ≡ payloads_below p n l
unfolding payloads_below
below_all_lem n l = refl
