-- Where the parent of each new node stands: report by report, in order.
use Prim.Native.Nat.{ℕ, ◌+◌, ◌*◌, ◌/◌, ◌%◌, ◌≤◌, ◌<◌}
use native.Mathlib.Omega.{arith}
use native.Mathlib.Decide.{dec_lt}
use native.Mathlib.Nat.{mod-lt, div-add-mod', div-lt_iff_lt-mul, mul-le-mul_right, mul-add-div_right, mul-add-mod_self_right, div-eq_of_lt, mod-eq_of_lt, add-zero, suc-mul}
use mathlib.Core.Path.{◌≡◌, ap, ◌∙◌}

-- the parts of a place: report i of m prefixes each, prefix j
pub report_of : (i j m : ℕ) → j < m → (i * m + j) / m ≡ i
report_of i j m h =
    let some : 0 < m = omega arith in
    mul-add-div_right some i j ∙ ap (λ (k : ℕ). i + k) (div-eq_of_lt h) ∙ add-zero i

pub prefix_of : (i j m : ℕ) → j < m → (i * m + j) % m ≡ j
prefix_of i j m h = mul-add-mod_self_right i m j ∙ mod-eq_of_lt h

pub report_below : (x m r : ℕ) → 0 < m → x < r * m → x / m < r
report_below x m r some h = (div-lt_iff_lt-mul some).1 h

-- report i of r, prefix j of m
pub place_inside : (i j m r : ℕ) → i < r → j < m → i * m + j < r * m
place_inside i j m r a b = omega (arith, mul-le-mul_right m a, suc-mul i m)

module _ (before after : ℕ) (π : ℕ → ℕ) where
  -- the place of the parent of new node T, where π tells the parent of a prefix
  abbrev pub source_of : ℕ → ℕ
  source_of T = T / after * before + π (T % after)

  module _ (some : 0 < after) (below : (j : ℕ) → j < after → π j < before) where
    pub source_below : (r T : ℕ) → T < r * after → source_of T < r * before
    source_below r T h = place_inside (T / after) (π (T % after)) before r (report_below T after r some h) (below (T % after) (mod-lt T some))

    -- they rise where those of one report do
    pub sources_rise : ((i j : ℕ) → i ≤ j → j < after → π i ≤ π j) → (x y : ℕ) → x ≤ y → source_of x ≤ source_of y
    sources_rise rise x y h =
        let x-at = div-add-mod' x after in
        let y-at = div-add-mod' y after in
        let x-mod = mod-lt x some in
        let y-mod = mod-lt y some in
        elim (dec_lt (x / after) (y / after)) [
          | yes a ↦ omega (arith, below (x % after) x-mod, mul-le-mul_right before a, suc-mul (x / after) before)
          | no a ↦ elim (dec_lt (y / after) (x / after)) [
            | yes b ↦ absurd (omega (arith, mul-le-mul_right after b, suc-mul (y / after) after))
            | no b ↦
                let e : x / after ≡ y / after = omega arith in
                let k : x / after * after ≡ y / after * after = ap (λ (z : ℕ). z * after) e in
                let m : x / after * before ≡ y / after * before = ap (λ (z : ℕ). z * before) e in
                omega (arith, rise (x % after) (y % after) (omega arith) y-mod)
          ]
        ]
