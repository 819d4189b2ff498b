-- What the weights of a prefix's holders add to: how large it is, that of two children, and where every weight is one.
use Prim.Native.Nat.{ℕ, suc, ◌+◌, ◌-◌, ◌*◌, ◌≤◌, ◌<◌}
use native.Mathlib.Omega.{arith}
use mathlib.Core.Path.{◌≡◌, refl, sym, ap, ap₂, ◌∙◌}
use mathlib.Core.Bool.{Bool, true, false, cond}
use mathlib.Core.List.{List, [], ◌∷◌}
use lib.ListN.{length}
use lib.Dec.{ltb, leb→le}
use lib.IntN.{ℤ, pos, negsuc, ◌+ℤ◌, nat_abs, +ℤ_idl, +ℤ_idr, +ℤ_assoc, +ℤ_comm}
use lib.Signed.{◌≤ℤ◌}
use borrow.Author.Tests.{ltb-true}
use Rattle.places.specs.Lists.{All, digit}
use Rattle.bits.specs.Strings.{Bits, ◌▹◌, is_prefix, count}
use Rattle.group.specs.Modular.{modulus}
use Rattle.signed.proofs.Embedding.{NearZero}
use Rattle.weights.specs.Weights.{IsWeight, EveryOne, held_weight}

-- ---- how large

between : (t : Bool) (a v : ℕ) → ltb a v ≡ t → nat_abs (cond t (negsuc (v - suc a)) (pos (a - v))) ≤ a + v
between true a v e = let less : a < v = ltb-true a v e in omega arith
between false a v e = omega arith

abs_add : (x y : ℤ) → nat_abs (x +ℤ y) ≤ nat_abs x + nat_abs y
abs_add (pos a) (pos b) = omega arith
abs_add (pos a) (negsuc b) = between (ltb a (suc b)) a (suc b) refl
abs_add (negsuc a) (pos b) = omega (arith, between (ltb b (suc a)) b (suc a) refl)
abs_add (negsuc a) (negsuc b) = omega arith

pub weight_abs : (w : ℤ) → IsWeight w → nat_abs w ≤ 32768
weight_abs (pos k) h = omega (arith, leb→le k 32767 h.most.le)
weight_abs (negsuc k) h = omega (arith, leb→le k 32767 h.least.le)

held_abs : (b : Bool) (w : ℤ) → IsWeight w → nat_abs (cond b w (pos 0)) ≤ 32768
held_abs true w h = weight_abs w h
held_abs false w h = omega arith

-- The weights of m strings add to at most m × 32,768, above zero or below.
pub held_most : (xs : List Bits) (ws : List ℤ) (q : Bits) → All IsWeight ws → nat_abs (held_weight xs ws q) ≤ length xs * 32768
held_most [] ws q a = omega arith
held_most (x ∷ xs) [] q a = omega arith
held_most (x ∷ xs) (w ∷ ws) q a =
    omega (arith, abs_add (cond (is_prefix q x) w (pos 0)) (held_weight xs ws q), held_abs (is_prefix q x) w a.0, held_most xs ws q a.1)

-- What 65,535 weights can add to is read back.
pub weights_near : (z : ℤ) → nat_abs z ≤ 2147450880 → NearZero modulus z
weights_near (pos n) h = (omega arith, omega arith)
weights_near (negsuc n) h = omega arith

-- ---- how many holders it takes

-- the number itself, and zero for a negative one
above : ℤ → ℕ
above (pos k) = k
above (negsuc k) = 0

above_add : (x y : ℤ) → above (x +ℤ y) ≤ above x + above y
unfolding above
above_add (pos a) (pos b) = omega arith
above_add (pos a) (negsuc b) = go (ltb a (suc b))
  where
    go : (t : Bool) → above (cond t (negsuc (suc b - suc a)) (pos (a - suc b))) ≤ a + 0
    go true = omega arith
    go false = omega arith
above_add (negsuc a) (pos b) = go (ltb b (suc a))
  where
    go : (t : Bool) → above (cond t (negsuc (suc a - suc b)) (pos (b - suc a))) ≤ 0 + b
    go true = omega arith
    go false = omega arith
above_add (negsuc a) (negsuc b) = omega arith

held_above : (b : Bool) (w : ℤ) → IsWeight w → above (cond b w (pos 0)) ≤ digit b * 32767
unfolding above
held_above true (pos k) h = omega (arith, leb→le k 32767 h.most.le)
held_above true (negsuc k) h = omega arith
held_above false w h = omega arith

holders_above : (xs : List Bits) (ws : List ℤ) (q : Bits) → All IsWeight ws → above (held_weight xs ws q) ≤ count xs q * 32767
unfolding above
holders_above [] ws q a = omega arith
holders_above (x ∷ xs) [] q a = omega arith
holders_above (x ∷ xs) (w ∷ ws) q a =
    omega (arith, above_add (cond (is_prefix q x) w (pos 0)) (held_weight xs ws q), held_above (is_prefix q x) w a.0, holders_above xs ws q a.1)

-- Where the weights add to t or more, there are holders enough: a weight is at most 32,767.
pub holders_least : (xs : List Bits) (ws : List ℤ) (q : Bits) (t : ℕ) → All IsWeight ws → pos t ≤ℤ held_weight xs ws q → t ≤ count xs q * 32767
unfolding above
holders_least xs ws q t a h = omega (arith, reached (held_weight xs ws q) h, holders_above xs ws q a)
  where
    reached : (z : ℤ) → pos t ≤ℤ z → t ≤ above z
    reached (pos k) h = leb→le t k h.le
    reached (negsuc k) h = absurd h.le

-- ---- children

four : (a b c d : ℤ) → (a +ℤ b) +ℤ (c +ℤ d) ≡ (a +ℤ c) +ℤ (b +ℤ d)
four a b c d =
    +ℤ_assoc a b (c +ℤ d)
    ∙ ap (λ (z : ℤ). a +ℤ z) (sym (+ℤ_assoc b c d) ∙ ap (λ (z : ℤ). z +ℤ d) (+ℤ_comm b c) ∙ +ℤ_assoc c b d)
    ∙ sym (+ℤ_assoc a c (b +ℤ d))

-- what one string adds at a prefix
abbrev held : Bits → Bits → ℤ → ℤ
held q s w = cond (is_prefix q s) w (pos 0)

held_splits : (q s : Bits) (w : ℤ) → length q < length s → held q s w ≡ held (q ▹ false) s w +ℤ held (q ▹ true) s w
held_splits q [] w l = absurd (omega arith)
held_splits [] (false ∷ s) w l = sym (+ℤ_idr w)
held_splits [] (true ∷ s) w l = sym (+ℤ_idl w)
held_splits (false ∷ q) (false ∷ s) w l = held_splits q s w (omega arith)
held_splits (false ∷ q) (true ∷ s) w l = refl
held_splits (true ∷ q) (false ∷ s) w l = refl
held_splits (true ∷ q) (true ∷ s) w l = held_splits q s w (omega arith)

-- What is added at two children adds to their parent's.
pub held_children : (n : ℕ) (xs : List Bits) (ws : List ℤ) → All (λ x. length x ≡ n) xs → (q : Bits) → length q < n
    → held_weight xs ws q ≡ held_weight xs ws (q ▹ false) +ℤ held_weight xs ws (q ▹ true)
held_children n [] ws a q l = refl
held_children n (x ∷ xs) [] a q l = refl
held_children n (x ∷ xs) (w ∷ ws) a q l =
    ap₂ ◌+ℤ◌ (held_splits q x w (omega (arith, a.0))) (held_children n xs ws a.1 q l)
    ∙ four (held (q ▹ false) x w) (held (q ▹ true) x w) (held_weight xs ws (q ▹ false)) (held_weight xs ws (q ▹ true))

-- ---- every weight one

held_one : (b : Bool) (k : ℕ) → cond b (pos 1) (pos 0) +ℤ pos k ≡ pos (digit b + k)
held_one true k = refl
held_one false k = refl

-- Where every weight is one, they add to the number of holders.
pub held_count : (xs : List Bits) (ws : List ℤ) (q : Bits) → length ws ≡ length xs → EveryOne ws → held_weight xs ws q ≡ pos (count xs q)
held_count [] ws q l a = refl
held_count (x ∷ xs) [] q l a = absurd (omega arith)
held_count (x ∷ xs) (w ∷ ws) q l a =
    ap₂ (λ (v z : ℤ). cond (is_prefix q x) v (pos 0) +ℤ z) a.0 (held_count xs ws q (omega arith) a.1) ∙ held_one (is_prefix q x) (count xs q)
