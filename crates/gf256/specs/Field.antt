-- The finite field GF(2^8) of FIPS 197, section 4. A byte is a number below 256; its bit i is the coefficient of x ^ i.
use Rattle.std.specs.Prelude.{List, [], ◌∷◌, ℕ, zero, suc, ◌+◌, ◌*◌, ◌/◌, ◌%◌, ◌^◌}
use Rattle.std.specs.Int.Bits.{bit_xor}

-- The list of f 0, f 1 and so on, n elements.
abbrev pub tabulate : ℕ → (ℕ → ℕ) → List ℕ
tabulate zero f = []
tabulate (suc n) f = f 0 ∷ tabulate n (λ i. f (suc i))

infixl 60 ◌⊕◌
infixl 70 ◌·◌
-- Section 4.1: the sum of two polynomials.
abbrev pub ◌⊕◌ : ℕ → ℕ → ℕ
a ⊕ b = bit_xor a b

-- The product of two polynomials, of which the second has degree below n.
unfoldable pub product : ℕ → ℕ → ℕ → ℕ
product zero a b = 0
product (suc n) a b = b % 2 * a ⊕ product n a (b / 2) * 2

-- The remainder of a polynomial of degree below n + 8 by x ^ 8 + x ^ 4 + x ^ 3 + x + 1: in each step the coefficient of x ^ (n + 8) is cleared.
unfoldable pub remainder : ℕ → ℕ → ℕ
remainder zero a = a
remainder (suc n) a = remainder n (a / 2 ^ (n + 8) * (0x11b * 2 ^ n) ⊕ a)

-- Section 4.2: the product of two bytes.
unfoldable pub ◌·◌ : ℕ → ℕ → ℕ
a · b = remainder 7 (product 8 a b)

-- The product of a ^ 2, a ^ 4, a ^ 8 and so on, n factors.
unfoldable pub squares : ℕ → ℕ → ℕ
squares zero a = 1
squares (suc n) a = let s = a · a in s · squares n s

-- Section 4.4 (4.2 in the edition of 2001): the multiplicative inverse, a ^ 254, which maps 0 to 0.
unfoldable pub inverse : ℕ → ℕ
inverse a = squares 7 a
