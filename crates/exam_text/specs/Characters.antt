-- The characters of exam texts and of answers, as bytes: ASCII.
use Rattle.std.specs.Prelude.{ℕ, zero, suc, ◌+◌, ◌/◌, ◌%◌, cond, List, [], ◌∷◌, ◌++◌, ltb}
use Rattle.places.specs.Lists.{digit}
use Rattle.bits.specs.Strings.{Bits}

-- what stands between two fields of a line, and what ends it
abbrev pub space : ℕ
space = 32

abbrev pub newline : ℕ
newline = 10

-- a digit below 16: `0` to `9`, then `a` to `f`
abbrev pub glyph : ℕ → ℕ
glyph d = cond (ltb d 10) (48 + d) (87 + d)

-- a string of bits, a digit `0` or `1` for each
unfoldable pub binary : Bits → List ℕ
binary [] = []
binary (b ∷ s) = glyph (digit b) ∷ binary s

-- bytes in lower-case hexadecimal, two digits for each
unfoldable pub hexadecimal : List ℕ → List ℕ
hexadecimal [] = []
hexadecimal (b ∷ bs) = glyph (b / 16) ∷ glyph (b % 16) ∷ hexadecimal bs

-- a number of at most m digits in decimal, without leading zeros; zero is `0`
unfoldable pub decimal_in : ℕ → ℕ → List ℕ
decimal_in zero x = []
decimal_in (suc m) x = cond (ltb x 10) (glyph x ∷ []) (decimal_in m (x / 10) ++ (glyph (x % 10) ∷ []))

-- a number in decimal; 20 digits are enough for 64 bits
abbrev pub decimal : ℕ → List ℕ
decimal x = decimal_in 20 x
