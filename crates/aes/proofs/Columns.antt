-- The bytes of a mixed column.
use mathlib.Core.Path.{◌≡◌}
use mathlib.Core.List.{List, map}
use Prim.Native.Nat.{ℕ, ◌/◌, ◌%◌}
use Rattle.gf256.specs.Field.{◌·◌}
use Rattle.aes.specs.Fips197.{sum_word, rot_word, mix_column}
use Rattle.aes.specs.StateLayout.{four_bytes}
use Rattle.gf256.proofs.Lists.{cons4}
use Rattle.gf256.proofs.Products.{mixed}
use Rattle.aes.proofs.Words.{byte}

-- the doubles of a word's bytes
abbrev doubles : ℕ → List ℕ
doubles x = map (λ y. 2 · y) (four_bytes x)

-- the column that the sums and rotations of a word and its double make
pub mixed_word : (x : ℕ)
    → sum_word
    (sum_word (sum_word (doubles x) (rot_word (sum_word (doubles x) (four_bytes x)))) (rot_word (rot_word (four_bytes x))))
    (rot_word (rot_word (rot_word (four_bytes x))))
    ≡ mix_column (four_bytes x)
mixed_word x =
    let a = x % 256 in
    let b = x / 256 % 256 in
    let c = x / 65536 % 256 in
    let d = x / 16777216 % 256 in
    cons4
    (mixed a b c d (byte (x / 256)))
    (mixed b c d a (byte (x / 65536)))
    (mixed c d a b (byte (x / 16777216)))
    (mixed d a b c (byte x))
