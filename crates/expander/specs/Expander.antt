-- Expanders: block j of a seed, document 01, 'The group and the expanders'.
use Rattle.std.specs.Prelude.{ℕ, ◌+◌, ◌%◌, ◌^◌, Bool, cond, ◌||◌, List, [], ◌∷◌, ◌++◌, take, drop, ◌==◌, bit_xor, Option, Some, None}
use Rattle.numbers.specs.Numbers.{little, from_little, big}
use Rattle.aes.specs.Fips197.{cipher}
use Rattle.expander.specs.declared.Expander.{Expander}
use Rattle.expander.specs.declared.Expander.TheVariants.{Aes, Classroom}

-- expander 1: AES-128 with the seed as key, applied to j as a 16-byte big-endian number
unfoldable pub aes_block : List ℕ → ℕ → List ℕ
aes_block seed j = cipher seed (big 16 j)

-- expander 2: the seed is two words a and b, least significant byte first; the first word of block j is a + j + 1 and the
-- second is b plus that first word, both kept to 64 bits
unfoldable pub classroom_block : List ℕ → ℕ → List ℕ
classroom_block seed j =
    let a = from_little (take 8 seed) in
    let b = from_little (drop 8 seed) in
    let first = (a + j + 1) % 2 ^ 64 in
    let second = (b + first) % 2 ^ 64 in
    little 8 first ++ little 8 second

-- block j of a seed
abbrev pub block_of : Expander → List ℕ → ℕ → List ℕ
block_of Aes seed j = aes_block seed j
block_of Classroom seed j = classroom_block seed j

-- whether a number names an expander
abbrev pub is_expander : ℕ → Bool
is_expander e = e == 1 || e == 2

-- the expander that a number names
abbrev pub choice_of : ℕ → Option Expander
choice_of e = cond (e == 1) (Some Aes) (cond (e == 2) (Some Classroom) None)

-- what is written under the expander that was chosen; without one, nothing
abbrev pub under : {A : Type 0} → Option Expander → (Expander → List A) → List A
under (Some e) f = f e
under None f = []

-- two seeds of one length, XORed byte by byte
unfoldable pub xor_bytes : List ℕ → List ℕ → List ℕ
xor_bytes [] ys = []
xor_bytes (x ∷ xs) [] = []
xor_bytes (x ∷ xs) (y ∷ ys) = bit_xor x y ∷ xor_bytes xs ys
