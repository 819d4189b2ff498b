-- What a level, and the levels below it, add to a record, in the steps in which the code adds it up.
use Prim.Native.Nat.{ℕ, zero, suc, ◌+◌, ◌-◌, ◌*◌, ◌/◌, ◌^◌, ◌≤◌, ◌<◌, min}
use native.Mathlib.Omega.{arith}
use native.Mathlib.Nat.{mul-le-mul, pow-succ'}
use native.Mathlib.Numerals.{add-one}
use mathlib.Core.Path.{◌≡◌, refl, ap, sym, ◌∙◌}
use Rattle.bits.specs.Packing.{packed_length}
use Rattle.tree.specs.SearchRule.{heading_length}
use Rattle.tree.specs.Space.{level_length, space_from, record_space}

pub level_none : (k c : ℕ) → c < 1 → level_length k c ≡ 0
unfolding level_length
level_none k zero h = refl
level_none k (suc c) h = absurd (omega arith)

pub level_some : (k c : ℕ) → 1 ≤ c → level_length k c ≡ 6 + c * (packed_length (k + 1) + 8)
unfolding level_length
level_some k zero h = absurd (omega arith)
level_some k (suc c) h = rw (add-one k)

-- how many bytes a level has at most
pub level_most : (p c : ℕ) → p ≤ 32 → c ≤ 131070 → c * (p + 8) ≤ 5242800
level_most p c h l = mul-le-mul {m₂ = 40} l (omega arith)

-- how many of the prefixes of k bits can be kept: no more than there are, and no more than w
abbrev pub keepable : ℕ → ℕ → ℕ
keepable w k = min (2 ^ k) w

double_min : (a w : ℕ) → min (2 * a) (2 * w) ≡ 2 * min a w
double_min a w = omega arith

min_again : (a w : ℕ) → min (2 * min a w) w ≡ min (2 * a) w
min_again a w = omega arith

-- the next length's, from this one's
pub keepable_next : (w k : ℕ) → min (2 * keepable w k) w ≡ keepable w (k + 1)
keepable_next w k = min_again (2 ^ k) w ∙ ap (λ (x : ℕ). min x w) (sym (rw (add-one k) (pow-succ' 2 k)))

-- no level
pub levels_none : (w n k : ℕ) → n ≤ k → space_from w (n - k) k ≡ 0
unfolding space_from
levels_none w n k h = let e : n - k ≡ 0 = omega arith in rw e

-- one level, and those below it
pub levels_step : (w n k : ℕ) → k < n → space_from w (n - k) k ≡ level_length k (2 * keepable w k) + space_from w (n - (k + 1)) (k + 1)
unfolding space_from
levels_step w n k h =
    let e : n - k ≡ suc (n - (k + 1)) = omega arith in
    rw (e, add-one k, pow-succ' 2 k, double_min (2 ^ k) w)

-- a record's space is that of its heading, of the first level and of those below
pub record_parts : (n t C : ℕ) → 1 ≤ n → record_space n t C ≡ heading_length + (level_length 0 2 + space_from (C / t) (n - 1) 1)
unfolding record_space
record_parts zero t C h = absurd (omega arith)
record_parts (suc n) t C h = ap (λ (m : ℕ). heading_length + (level_length 0 2 + space_from (C / t) m 1)) {x = n} {y = suc n - 1} (omega arith)
