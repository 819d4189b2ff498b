-- Doubling by a shift, with 1b added where the top bit is set, and tripling are products in GF(2^8), by a test of all 256 bytes.
use mathlib.Core.Path.{◌≡◌, ap, ◌∙◌}
use native.Mathlib.Omega.{arith}
use mathlib.Core.Bool.{Bool}
use Prim.Native.Nat.{ℕ, ◌*◌, ◌/◌, ◌%◌, ◌<◌, ◌≤◌}
use lib.Dec.{eqb, eqb→eq}
use Rattle.gf256.specs.Field.{◌⊕◌, ◌·◌}
use Rattle.gf256.proofs.Computes.{computes}
use Rattle.gf256.proofs.Below.{below}

-- a byte shifted by one place, and 1b times its top bit
abbrev pub doubling : ℕ → ℕ
doubling x = x * 2 % 256 ⊕ x / 128 * 0x1b

is_double : ℕ → Bool
is_double x = eqb (doubling x) (2 · x)

is_triple : ℕ → Bool
is_triple x = eqb (2 · x ⊕ x) (3 · x)

pub double_byte : (x : ℕ) → x < 256 → doubling x ≡ 2 · x
unfolding is_double computes
double_byte x h = eqb→eq (doubling x) (2 · x) (below is_double 256 tt x h)

tripled : (x : ℕ) → x < 256 → 2 · x ⊕ x ≡ 3 · x
unfolding is_triple computes
tripled x h = eqb→eq (2 · x ⊕ x) (3 · x) (below is_triple 256 tt x h)

-- a byte of a mixed column, from two doublings
pub mixed : (a b c d : ℕ) → b < 256 → 2 · a ⊕ (2 · b ⊕ b) ⊕ c ⊕ d ≡ 2 · a ⊕ 3 · b ⊕ c ⊕ d
mixed a b c d h = ap (λ (x : ℕ). 2 · a ⊕ x ⊕ c ⊕ d) (tripled b h)

-- a byte doubled in the two cases
pub doubled_below : (x : ℕ) → x < 128 → x * 2 % 256 ⊕ 0x00 ≡ 2 · x
doubled_below x h = ap (λ (y : ℕ). x * 2 % 256 ⊕ y) (omega (arith, h)) ∙ double_byte x (omega (arith, h))

pub doubled_above : (x : ℕ) → 128 ≤ x → x < 256 → x * 2 % 256 ⊕ 0x1b ≡ 2 · x
doubled_above x h l = ap (λ (y : ℕ). x * 2 % 256 ⊕ y) (omega (arith, h, l)) ∙ double_byte x l
