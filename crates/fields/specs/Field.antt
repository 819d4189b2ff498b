-- Texts that are put at a place of a space: where they have room, and from packed bits.
use Rattle.std.specs.Prelude.{ℕ, ◌+◌, cond, List, [], length, leb, eqb}
use Rattle.bits.specs.Strings.{Bits}
use Rattle.bits.specs.Packing.{packed_length, unpack}

-- the text of k bits that are packed in as many bytes as they take; of other bytes there is none
abbrev pub packed_line : (Bits → List ℕ) → ℕ → List ℕ → List ℕ
packed_line line k packed = cond (eqb (length packed) (packed_length k)) (line (unpack k packed)) []

-- the place behind a text that is put at a place, or that place itself where there is no room for it
abbrev pub place_behind : List ℕ → ℕ → List ℕ → ℕ
place_behind out at vs = cond (leb (at + length vs) (length out)) (at + length vs) at
