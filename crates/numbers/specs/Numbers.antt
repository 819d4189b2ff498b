-- Numbers as bytes.
use Rattle.std.specs.Prelude.{ℕ, zero, suc, ◌+◌, ◌*◌, ◌/◌, ◌%◌, ◌^◌, List, [], ◌∷◌, ◌++◌, length}

-- x in n bytes, least significant first, kept to as many bits as they have
unfoldable pub little : ℕ → ℕ → List ℕ
little zero x = []
little (suc n) x = x % 256 ∷ little n (x / 256)

-- the number that bytes are, least significant first
unfoldable pub from_little : List ℕ → ℕ
from_little [] = 0
from_little (b ∷ bs) = b + 256 * from_little bs

-- x in n bytes, most significant first, kept to as many bits as they have
unfoldable pub big : ℕ → ℕ → List ℕ
big zero x = []
big (suc n) x = x / 256 ^ n % 256 ∷ big n x

-- the number that bytes are, most significant first
unfoldable pub from_big : List ℕ → ℕ
from_big [] = 0
from_big (b ∷ bs) = b * 256 ^ length bs + from_big bs

-- numbers, 8 bytes each, least significant first
abbrev pub in_bytes : List ℕ → List ℕ
in_bytes [] = []
in_bytes (x ∷ xs) = little 8 x ++ in_bytes xs
