-- How long the lines of an answer are.
use Prim.Native.Nat.{ℕ, ◌+◌}
use native.Mathlib.Omega.{arith}
use mathlib.Core.Path.{◌≡◌}
use mathlib.Core.List.{List, [], ◌∷◌, ◌++◌}
use lib.ListN.{length, length-append}
use Rattle.bits.specs.Packing.{packed_length, unpack}
use Rattle.exam_text.specs.Characters.{space, newline, binary, decimal}
use Rattle.fields.proofs.LineRoom.{bits_size}
use Rattle.exam_lines.specs.Lines.{prefix_line, heavy_line}

module _ (k : ℕ) (packed : List ℕ) where
  pub prefix_size : (total m : ℕ) → length packed ≡ packed_length k → m ≡ length (decimal total) → length (prefix_line (unpack k packed) total) ≡ k + (m + 2)
  prefix_size total m sized digits =
      omega (
        arith,
        bits_size k packed sized,
        digits,
        length-append (binary (unpack k packed)) (space ∷ decimal total ++ (newline ∷ [])),
        length-append (decimal total) (newline ∷ []),
      )

  pub heavy_size : length packed ≡ packed_length k → length (heavy_line (unpack k packed)) ≡ k + 7
  heavy_size sized = omega (arith, bits_size k packed sized, length-append (binary (unpack k packed)) (newline ∷ []))
