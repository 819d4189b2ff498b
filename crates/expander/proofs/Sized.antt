-- Each expander gives 16 bytes for 16 bytes.
use Rattle.std.proofs.Common.{◌≡◌, ℕ, zero, suc, ◌<◌, List, [], ◌∷◌, ◌++◌, length, get_or, length-append}
use Rattle.places.specs.Places.{Bytes}
use Rattle.numbers.specs.Numbers.{little}
use Rattle.numbers.proofs.Endian.{little_length, little_byte}
use Rattle.aes.proofs.Bytes.{cipher_length, cipher_byte}
use Rattle.expander.specs.Expander.{aes_block, classroom_block, block_of}
use Rattle.expander.specs.declared.Expander.{Expander}
use Rattle.expander.specs.declared.Expander.TheVariants.{Aes, Classroom}

append_byte : (xs ys : List ℕ) → ((i : ℕ) → get_or xs i 0 < 256) → ((i : ℕ) → get_or ys i 0 < 256) → (i : ℕ) → get_or (xs ++ ys) i 0 < 256
append_byte [] ys h k i = k i
append_byte (x ∷ xs) ys h k zero = h 0
append_byte (x ∷ xs) ys h k (suc i) = append_byte xs ys (λ j. h (suc j)) k i

-- a block has 16 bytes, whatever the seed
pub block_length : (e : Expander) (s : List ℕ) (j : ℕ) → length (block_of e s j) ≡ 16
unfolding aes_block classroom_block
block_length Aes s j = cipher_length s _
block_length Classroom s j = simp (length-append, little_length)

pub block_bytes : (e : Expander) (s : List ℕ) → Bytes 16 s → (j : ℕ) → Bytes 16 (block_of e s j)
unfolding aes_block classroom_block
block_bytes Aes s h j = record { size = block_length Aes s j; byte = cipher_byte s _ h.byte }
block_bytes Classroom s h j =
    record { size = block_length Classroom s j; byte = append_byte (little 8 _) (little 8 _) (little_byte 8 _) (little_byte 8 _) }
