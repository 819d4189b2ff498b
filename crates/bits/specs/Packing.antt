-- A bit string as bytes: in the fewest bytes, first bit highest, spare bits zero.
use Rattle.std.specs.Prelude.{ℕ, zero, suc, ◌+◌, ◌*◌, ◌/◌, ◌%◌, ◌^◌, Bool, true, false, ◌&&◌, ◌||◌, not, List, [], ◌∷◌, ◌++◌, length, take, drop, eqb, ltb}
use Rattle.places.specs.Lists.{digit}
use Rattle.bits.specs.Strings.{Bits}

-- how many bytes n bits take
abbrev pub packed_length : ℕ → ℕ
packed_length n = (n + 7) / 8

-- the first w bits as a number, the first one highest; missing bits are 0
unfoldable pub value : ℕ → Bits → ℕ
value zero s = 0
value (suc w) [] = 0
value (suc w) (b ∷ s) = digit b * 2 ^ w + value w s

-- m bytes of eight bits each
unfoldable pub pack_in : ℕ → Bits → List ℕ
unfolding value
pack_in zero s = []
pack_in (suc m) s = value 8 s ∷ pack_in m (drop 8 s)

-- a string in the fewest bytes
unfoldable pub pack : Bits → List ℕ
pack s = pack_in (packed_length (length s)) s

-- the w lowest binary digits of x, the highest first
unfoldable pub digits : ℕ → ℕ → Bits
digits zero x = []
digits (suc w) x = eqb (x / 2 ^ w % 2) 1 ∷ digits w x

-- all bits of the bytes, first bit highest
unfoldable pub bits_of : List ℕ → Bits
unfolding digits
bits_of [] = []
bits_of (x ∷ xs) = digits 8 x ++ bits_of xs

-- the string of n bits that the bytes hold
unfoldable pub unpack : ℕ → List ℕ → Bits
unfolding bits_of
unpack n xs = take n (bits_of xs)

-- whether every bit is zero
abbrev pub is_zero : Bits → Bool
is_zero [] = true
is_zero (b ∷ s) = not b && is_zero s

-- whether the spare bits of a packed string of n bits, those past the n-th, are zero
unfoldable pub spare_zero : ℕ → List ℕ → Bool
unfolding bits_of
spare_zero n xs = is_zero (drop n (bits_of xs))

-- whether xs stands before ys, of one length: at the first place where they differ, xs has the lesser byte
unfoldable pub bytes_before : List ℕ → List ℕ → Bool
bytes_before [] ys = false
bytes_before (x ∷ xs) [] = false
bytes_before (x ∷ xs) (y ∷ ys) = ltb x y || (eqb x y && bytes_before xs ys)
