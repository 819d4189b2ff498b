-- Bytes as hexadecimal characters, one after the other.
use Prim.Native.Nat.{ℕ, ◌+◌, ◌/◌, ◌%◌, ◌≤◌, ◌<◌}
use native.Mathlib.Numerals.{add-one}
use mathlib.Core.Path.{◌≡◌, ap, ◌∙◌}
use mathlib.Core.List.{List, [], ◌∷◌}
use lib.ListN.{length, get_or, drop, drop_of_length-le}
use lib.Seq.{drop-cons}
use Rattle.exam_text.specs.Characters.{glyph, hexadecimal}

module _ (bytes : List ℕ) (i : ℕ) where
  pub hex_none : length bytes ≤ i → hexadecimal (drop i bytes) ≡ []
  unfolding hexadecimal
  hex_none h = rw (drop_of_length-le bytes h)

  -- byte i and those after it
  pub hex_step : i < length bytes
      → hexadecimal (drop i bytes) ≡ glyph (get_or bytes i 0 / 16) ∷ glyph (get_or bytes i 0 % 16) ∷ hexadecimal (drop (i + 1) bytes)
  unfolding hexadecimal
  hex_step h = ap hexadecimal (drop-cons bytes i 0 h) ∙ rw (add-one i)
