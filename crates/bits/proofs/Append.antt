-- A packed string with one bit more, byte by byte.
use Prim.Native.Nat.{ℕ, zero, suc, ◌+◌, ◌-◌, ◌*◌, ◌/◌, ◌%◌, ◌^◌, ◌≤◌, ◌<◌}
use native.Mathlib.Omega.{arith}
use mathlib.Core.Path.{◌≡◌, refl, sym, ap, ap₂, ◌∙◌}
use mathlib.Core.Bool.{Bool}
use mathlib.Core.List.{[], ◌∷◌, ◌++◌}
use lib.ListN.{length, get_or, set, drop, length-drop, length-append, drop_of_length-le}
use lib.Seq.{drop-append-le}
use Rattle.places.specs.Lists.{digit}
use Rattle.bits.specs.Strings.{Bits, ◌▹◌}
use Rattle.bits.specs.Packing.{packed_length, value, pack_in, pack}
use Rattle.bits.proofs.Packed.{value_nil}

pub append_length : (p : Bits) (b : Bool) → length (p ▹ b) ≡ length p + 1
append_length p b = length-append p (b ∷ [])

value_append : (w e : ℕ) (p : Bits) (b : Bool) → w ≡ suc (length p + e) → value w (p ▹ b) ≡ value w p + digit b * 2 ^ e
unfolding value
value_append zero e p b h = absurd (omega arith)
value_append (suc w) e [] b h =
    let q : w ≡ e = omega arith in
    omega (arith, value_nil w, ap (λ n. digit b * 2 ^ n) q)
value_append (suc w) e (c ∷ p) b h = omega (arith, value_append w e p b (omega arith))

value_full : (w : ℕ) (p q : Bits) → w ≤ length p → value w (p ++ q) ≡ value w p
unfolding value
value_full zero p q h = refl
value_full (suc w) [] q h = absurd (omega arith)
value_full (suc w) (c ∷ p) q h = omega (arith, value_full w p q (omega arith))

-- the bit 8 * j + i, in byte j
pack_in_append : (m j i e : ℕ) (p : Bits) (b : Bool) → j < m → 8 ≡ suc (i + e) → length p ≡ 8 * j + i
    → pack_in m (p ▹ b) ≡ set (pack_in m p) j (get_or (pack_in m p) j 0 + digit b * 2 ^ e)
unfolding pack_in
pack_in_append zero j i e p b h w l = absurd (omega arith)
pack_in_append (suc m) zero i e p b h w l =
    ap₂ ◌∷◌ (value_append 8 e p b (omega arith))
    (ap (pack_in m) (drop_of_length-le (p ▹ b) {i = 8} (omega (arith, append_length p b)) ∙ sym (drop_of_length-le p {i = 8} (omega arith))))
pack_in_append (suc m) (suc j) i e p b h w l =
    ap₂ ◌∷◌ (value_full 8 p (b ∷ []) (omega arith))
    (ap (pack_in m) (drop-append-le 8 p (b ∷ []) (omega arith)) ∙ pack_in_append m j i e (drop 8 p) b (omega arith) w (omega (arith, length-drop 8 p)))

-- the bit that begins a byte
pack_in_begin : (m : ℕ) (p : Bits) (b : Bool) → length p ≡ 8 * m → pack_in (suc m) (p ▹ b) ≡ pack_in m p ++ (digit b * 128 ∷ [])
unfolding pack_in value
pack_in_begin zero [] b l = ap (λ x. x ∷ []) (omega arith)
pack_in_begin zero (c ∷ p) b l = absurd (omega arith)
pack_in_begin (suc m) p b l =
    ap₂ ◌∷◌ (value_full 8 p (b ∷ []) (omega arith))
    (ap (pack_in (suc m)) (drop-append-le 8 p (b ∷ []) (omega arith)) ∙ pack_in_begin m (drop 8 p) b (omega (arith, length-drop 8 p)))

-- where the bytes are full the bit begins one more
pub pack_begin : (p : Bits) (b : Bool) → length p % 8 ≡ 0 → pack (p ▹ b) ≡ pack p ++ (digit b * 128 ∷ [])
unfolding pack
pack_begin p b h =
    let m : packed_length (length (p ▹ b)) ≡ suc (packed_length (length p)) = omega (arith, append_length p b) in
    rw m (pack_in_begin (packed_length (length p)) p b (omega arith))

-- else it is added to the last one
pub pack_append : (p : Bits) (b : Bool) → (length p % 8 ≡ 0 → ⊥)
    → pack (p ▹ b) ≡ set (pack p) (length p / 8) (get_or (pack p) (length p / 8) 0 + digit b * 2 ^ (7 - length p % 8))
unfolding pack
pack_append p b h =
    let m : packed_length (length (p ▹ b)) ≡ packed_length (length p) = omega (arith, append_length p b) in
    rw m (pack_in_append (packed_length (length p)) (length p / 8) (length p % 8) (7 - length p % 8) p b (omega arith) (omega arith) (omega arith))
