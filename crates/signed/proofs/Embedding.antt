-- Whole numbers modulo m add as they do without it, and those near zero are read back.
use Prim.Native.Nat.{ℕ, suc, ◌+◌, ◌-◌, ◌/◌, ◌%◌, ◌≤◌, ◌<◌}
use native.Mathlib.Nat.{add_assoc, zero-add, zero-mod, add-mod, mod-add-mod, mod-eq_of_lt, mod-lt}
use native.Mathlib.Omega.{arith}
use mathlib.Core.Path.{◌≡◌, refl, sym, ap, ap₂, ◌∙◌}
use mathlib.Core.Bool.{Bool, true, false, cond, ◌&&◌}
use borrow.Author.Tests.{ltb-true, ltb-false, le-leb, lt-leb, lt-ltb}
use lib.Dec.{leb, ltb}
use lib.IntN.{ℤ, pos, negsuc, ◌+ℤ◌}
use lib.Signed.{le_z}
use Rattle.group.specs.Group.{CommutativeGroup}
use Rattle.group.specs.Modular.{modular}
use Rattle.group.proofs.Laws.{interchange, sub_intro}
use Rattle.group.proofs.Modular.{modular_laws}
use Rattle.signed.specs.SignedReading.{embed, signed_in}

-- ---- sums

module _ (m : ℕ) (some : 0 < m) where
  abbrev add : ℕ → ℕ → ℕ
  add = (modular m).add

  abbrev neg : ℕ → ℕ
  neg = (modular m).neg

  L : CommutativeGroup ℕ (modular m) (λ x. x < m)
  L = modular_laws m some

  -- A whole number modulo m is below m.
  pub embed_below : (z : ℤ) → embed m z < m
  unfolding embed
  embed_below (pos n) = mod-lt n some
  embed_below (negsuc n) = L.in_neg (suc n)

  -- the negative is the only number that adds to zero
  neg_unique : (w y : ℕ) → w < m → add w y ≡ 0 → neg y ≡ w
  neg_unique w y h e = sym (L.comm 0 (neg y) ∙ L.unit (neg y) (L.in_neg y)) ∙ sub_intro (modular m) L w 0 y h some e

  raw : (x y z : ℕ) → add x (y + z) ≡ add (add x y) z
  raw x y z = ap (λ (n : ℕ). n % m) (sym (add_assoc x y z)) ∙ sym (mod-add-mod (x + y) m z)

  left_inverse : (x : ℕ) → add (neg x) x ≡ 0
  left_inverse x = L.comm (neg x) x ∙ L.inverse x

  neg_both : (u v : ℕ) → neg (u + v) ≡ add (neg u) (neg v)
  neg_both u v =
      neg_unique (add (neg u) (neg v)) (u + v) (L.in_add (neg u) (neg v))
      (raw (add (neg u) (neg v)) u v
      ∙ L.assoc (add (neg u) (neg v)) u v
      ∙ interchange (modular m) L (neg u) (neg v) u v
      ∙ ap₂ add (left_inverse u) (left_inverse v)
      ∙ L.unit 0 some)

  -- a − v modulo m
  difference : (t : Bool) (a v : ℕ) → ltb a v ≡ t → embed m (cond t (negsuc (v - suc a)) (pos (a - v))) ≡ add (a % m) (neg v)
  unfolding embed
  difference true a v e =
      let less : a < v = ltb-true a v e in
      let whole : v ≡ suc (v - suc a) + a = omega arith in
      sym (sub_intro (modular m) L (neg (suc (v - suc a))) (a % m) v (L.in_neg (suc (v - suc a))) (mod-lt a some)
      (ap (add (neg (suc (v - suc a)))) whole
      ∙ raw (neg (suc (v - suc a))) (suc (v - suc a)) a
      ∙ ap (λ (z : ℕ). add z a) (left_inverse (suc (v - suc a)))
      ∙ ap (λ (n : ℕ). n % m) (zero-add a)))
  difference false a v e =
      let least : v ≤ a = ltb-false a v e in
      sym (sub_intro (modular m) L ((a - v) % m) (a % m) v (mod-lt (a - v) some) (mod-lt a some)
      (mod-add-mod (a - v) m v ∙ ap (λ (n : ℕ). n % m) (omega arith)))

  -- A sum of whole numbers is the sum of both modulo m.
  pub embed_add : (x y : ℤ) → embed m (x +ℤ y) ≡ add (embed m x) (embed m y)
  unfolding embed
  embed_add (pos a) (pos b) = add-mod a b m
  embed_add (pos a) (negsuc b) = difference (ltb a (suc b)) a (suc b) refl
  embed_add (negsuc a) (pos b) = difference (ltb b (suc a)) b (suc a) refl ∙ L.comm (b % m) (neg (suc a))
  embed_add (negsuc a) (negsuc b) =
      let e : suc (suc (a + b)) ≡ suc a + suc b = omega arith in
      ap neg e ∙ neg_both (suc a) (suc b)

pub embed_zero : (m : ℕ) → embed m (pos 0) ≡ 0
unfolding embed
embed_zero m = zero-mod m

-- ---- reading

-- the whole numbers that are read back: from −(m − 1 − (m − 1) ÷ 2) to (m − 1) ÷ 2
abbrev pub NearZero : ℕ → ℤ → Type 0
NearZero m (pos n) = (0 < m) × (n ≤ (m - 1) / 2)
NearZero m (negsuc n) = suc n + (m - 1) / 2 < m

pub reads_back : (m : ℕ) (z : ℤ) → NearZero m z → signed_in m (embed m z) ≡ z
unfolding signed_in embed
reads_back m (pos n) h = rw (mod-eq_of_lt {n = n} {m = m} (omega arith), le-leb n ((m - 1) / 2) h.1)
reads_back m (negsuc n) h =
    let e : (m - suc n % m) % m ≡ m - suc n = rw (mod-eq_of_lt {n = suc n} {m = m} (omega arith)) (mod-eq_of_lt (omega arith)) in
    rw (e, lt-leb (m - suc n) ((m - 1) / 2) (omega arith), lt-ltb (m - suc n) m (omega arith)) (ap negsuc (omega arith))

-- A number below m reads as at least t exactly if it is from t to (m − 1) ÷ 2.
pub reads_at_least : (m x t : ℕ) → x < m → le_z (pos t) (signed_in m x) ≡ (leb x ((m - 1) / 2) && leb t x)
unfolding signed_in
reads_at_least m x t h = go (leb x ((m - 1) / 2)) refl
  where
    go : (b : Bool) → leb x ((m - 1) / 2) ≡ b → le_z (pos t) (signed_in m x) ≡ (b && leb t x)
    go true e = rw e
    go false e = rw (e, lt-ltb x m h)
