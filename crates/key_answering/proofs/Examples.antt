-- Computed facts that pin the page: A of document 01, with B and C in its last two lines, and a key of three levels.
use mathlib.Core.Path.{◌≡◌, refl}
use mathlib.Core.Bool.{true, false, xor}
use mathlib.Core.List.{[], ◌∷◌}
use lib.ListN.{replicate}
use Rattle.places.specs.Places.{window}
use Rattle.numbers.specs.Numbers.{little, from_little}
use Rattle.bits.specs.Packing.{value, pack_in, pack, digits, bits_of, unpack}
use Rattle.signed.specs.SignedReading.{embed}
use Rattle.expander.specs.Expander.{classroom_block, xor_bytes}
use Rattle.expander.specs.declared.Expander.TheVariants.{Classroom}
use Rattle.point.specs.Node.{control_bit, cleared, child, final, payload_of}
use Rattle.point.specs.Correction.{corrected, corrected_child}
use Rattle.point.specs.Keys.{seed_correction, left_correction, right_correction, kept_child, payload_correction, correction, key_node, key_correction}
use Rattle.point.specs.Evaluation.{descend, corrected_payload, share_below, node, share}
use Rattle.point.specs.PublicShare.{joined, lowest_first, level_bit, control_byte, level_bytes, public_share, binary_digit, read_correction}
use Rattle.point.specs.Instance.{field_scheme}
use Rattle.keymaker.specs.Key.{key_bytes}
use Rattle.exam_text.specs.Characters.{binary, hexadecimal, decimal_in}
use Rattle.exam_text.specs.Sheet.{Line}
use Rattle.key_answering.specs.KeyPage.{control_line, correction_text, level_line, shares_line, page}
use Rattle.key_answering.specs.KeyAnswer.{line_page}

-- opens the definitions that a key and a share run through
keys : Unit {0}
unfolding xor xor_bytes little from_little window classroom_block control_bit cleared child final payload_of corrected corrected_child seed_correction left_correction right_correction kept_child payload_correction correction key_node key_correction descend corrected_payload share_below node share joined lowest_first level_bit control_byte level_bytes public_share binary_digit read_correction field_scheme
keys = tt

-- opens those that print
prints : Unit {0}
unfolding value pack_in pack digits bits_of unpack embed key_bytes binary hexadecimal decimal_in control_line correction_text level_line shares_line page line_page
prints = tt

-- the line of A
abbrev line_a : Line
line_a = record { string = true ∷ []; seed0 = replicate 16 0; seed1 = 1 ∷ replicate 15 0 }

-- its page
pub page_a : line_page 1 line_a Classroom
    ≡ 99 ∷ 111 ∷ 110 ∷ 116 ∷ 114 ∷ 111 ∷ 108 ∷ 32 ∷ 48 ∷ 49 ∷ 10 ∷ 108 ∷ 101 ∷ 118 ∷ 101 ∷ 108 ∷ 32 ∷ 49 ∷ 32 ∷ 49 ∷ 32 ∷ 48 ∷ 32 ∷ 48 ∷ 50 ∷ 48 ∷
    48 ∷ 48 ∷ 48 ∷ 48 ∷ 48 ∷ 48 ∷ 48 ∷ 48 ∷ 48 ∷ 48 ∷ 48 ∷ 48 ∷ 48 ∷ 48 ∷ 51 ∷ 48 ∷ 48 ∷ 48 ∷ 48 ∷ 48 ∷ 48 ∷ 48 ∷ 48 ∷ 48 ∷ 48 ∷ 48 ∷ 48 ∷ 48 ∷
    48 ∷ 32 ∷ 48 ∷ 49 ∷ 48 ∷ 48 ∷ 48 ∷ 48 ∷ 48 ∷ 48 ∷ 48 ∷ 48 ∷ 48 ∷ 48 ∷ 48 ∷ 48 ∷ 48 ∷ 48 ∷ 10 ∷ 112 ∷ 114 ∷ 101 ∷ 102 ∷ 105 ∷ 120 ∷ 32 ∷ 49 ∷
    32 ∷ 54 ∷ 32 ∷ 49 ∷ 56 ∷ 52 ∷ 52 ∷ 54 ∷ 55 ∷ 52 ∷ 52 ∷ 48 ∷ 54 ∷ 57 ∷ 52 ∷ 49 ∷ 52 ∷ 53 ∷ 56 ∷ 52 ∷ 51 ∷ 49 ∷ 54 ∷ 32 ∷ 49 ∷ 10 ∷ 98 ∷ 101 ∷
    115 ∷ 105 ∷ 100 ∷ 101 ∷ 32 ∷ 48 ∷ 32 ∷ 53 ∷ 32 ∷ 49 ∷ 56 ∷ 52 ∷ 52 ∷ 54 ∷ 55 ∷ 52 ∷ 52 ∷ 48 ∷ 54 ∷ 57 ∷ 52 ∷ 49 ∷ 52 ∷ 53 ∷ 56 ∷ 52 ∷ 51 ∷
    49 ∷ 54 ∷ 32 ∷ 48 ∷ 10 ∷ []
unfolding keys prints
page_a = refl

-- a line of three bits
abbrev line_three : Line
line_three = record {
  string = true ∷ false ∷ true ∷ [];
  seed0 = 3 ∷ 0 ∷ 0 ∷ 0 ∷ 0 ∷ 0 ∷ 0 ∷ 0 ∷ 1 ∷ 0 ∷ 0 ∷ 0 ∷ 0 ∷ 0 ∷ 0 ∷ 0 ∷ [];
  seed1 = 10 ∷ 0 ∷ 0 ∷ 0 ∷ 0 ∷ 0 ∷ 0 ∷ 0 ∷ 2 ∷ 0 ∷ 0 ∷ 0 ∷ 0 ∷ 0 ∷ 0 ∷ 0 ∷ [];
}

-- its page
pub page_three : line_page 3 line_three Classroom
    ≡ 99 ∷ 111 ∷ 110 ∷ 116 ∷ 114 ∷ 111 ∷ 108 ∷ 32 ∷ 50 ∷ 53 ∷ 10 ∷ 108 ∷ 101 ∷ 118 ∷ 101 ∷ 108 ∷ 32 ∷ 49 ∷ 32 ∷ 49 ∷ 32 ∷ 48 ∷ 32 ∷ 48 ∷ 101 ∷ 48 ∷
    48 ∷ 48 ∷ 48 ∷ 48 ∷ 48 ∷ 48 ∷ 48 ∷ 48 ∷ 48 ∷ 48 ∷ 48 ∷ 48 ∷ 48 ∷ 48 ∷ 56 ∷ 48 ∷ 48 ∷ 48 ∷ 48 ∷ 48 ∷ 48 ∷ 48 ∷ 48 ∷ 48 ∷ 48 ∷ 48 ∷ 48 ∷ 48 ∷
    48 ∷ 32 ∷ 48 ∷ 48 ∷ 48 ∷ 48 ∷ 48 ∷ 48 ∷ 48 ∷ 48 ∷ 102 ∷ 102 ∷ 102 ∷ 102 ∷ 102 ∷ 102 ∷ 102 ∷ 102 ∷ 10 ∷ 108 ∷ 101 ∷ 118 ∷ 101 ∷ 108 ∷ 32 ∷ 50 ∷
    32 ∷ 49 ∷ 32 ∷ 48 ∷ 32 ∷ 48 ∷ 101 ∷ 48 ∷ 48 ∷ 48 ∷ 48 ∷ 48 ∷ 48 ∷ 48 ∷ 48 ∷ 48 ∷ 48 ∷ 48 ∷ 48 ∷ 48 ∷ 48 ∷ 48 ∷ 52 ∷ 48 ∷ 48 ∷ 48 ∷ 48 ∷ 48 ∷
    48 ∷ 48 ∷ 48 ∷ 48 ∷ 48 ∷ 48 ∷ 48 ∷ 48 ∷ 48 ∷ 32 ∷ 48 ∷ 49 ∷ 48 ∷ 48 ∷ 48 ∷ 48 ∷ 48 ∷ 48 ∷ 48 ∷ 48 ∷ 48 ∷ 48 ∷ 48 ∷ 48 ∷ 48 ∷ 48 ∷ 10 ∷ 108 ∷
    101 ∷ 118 ∷ 101 ∷ 108 ∷ 32 ∷ 51 ∷ 32 ∷ 48 ∷ 32 ∷ 49 ∷ 32 ∷ 48 ∷ 48 ∷ 48 ∷ 48 ∷ 48 ∷ 48 ∷ 48 ∷ 48 ∷ 48 ∷ 48 ∷ 48 ∷ 48 ∷ 48 ∷ 48 ∷ 48 ∷ 48 ∷
    48 ∷ 48 ∷ 48 ∷ 48 ∷ 48 ∷ 48 ∷ 48 ∷ 48 ∷ 48 ∷ 48 ∷ 48 ∷ 48 ∷ 48 ∷ 48 ∷ 48 ∷ 48 ∷ 32 ∷ 48 ∷ 48 ∷ 48 ∷ 48 ∷ 48 ∷ 48 ∷ 48 ∷ 48 ∷ 102 ∷ 102 ∷ 102 ∷
    102 ∷ 102 ∷ 102 ∷ 102 ∷ 102 ∷ 10 ∷ 112 ∷ 114 ∷ 101 ∷ 102 ∷ 105 ∷ 120 ∷ 32 ∷ 49 ∷ 32 ∷ 55 ∷ 32 ∷ 49 ∷ 56 ∷ 52 ∷ 52 ∷ 54 ∷ 55 ∷ 52 ∷ 52 ∷ 48 ∷
    54 ∷ 57 ∷ 52 ∷ 49 ∷ 52 ∷ 53 ∷ 56 ∷ 52 ∷ 51 ∷ 49 ∷ 53 ∷ 32 ∷ 49 ∷ 10 ∷ 98 ∷ 101 ∷ 115 ∷ 105 ∷ 100 ∷ 101 ∷ 32 ∷ 48 ∷ 32 ∷ 56 ∷ 32 ∷ 49 ∷ 56 ∷
    52 ∷ 52 ∷ 54 ∷ 55 ∷ 52 ∷ 52 ∷ 48 ∷ 54 ∷ 57 ∷ 52 ∷ 49 ∷ 52 ∷ 53 ∷ 56 ∷ 52 ∷ 51 ∷ 49 ∷ 51 ∷ 32 ∷ 48 ∷ 10 ∷ 112 ∷ 114 ∷ 101 ∷ 102 ∷ 105 ∷ 120 ∷
    32 ∷ 49 ∷ 48 ∷ 32 ∷ 49 ∷ 49 ∷ 32 ∷ 49 ∷ 56 ∷ 52 ∷ 52 ∷ 54 ∷ 55 ∷ 52 ∷ 52 ∷ 48 ∷ 54 ∷ 57 ∷ 52 ∷ 49 ∷ 52 ∷ 53 ∷ 56 ∷ 52 ∷ 51 ∷ 49 ∷ 49 ∷ 32 ∷
    49 ∷ 10 ∷ 98 ∷ 101 ∷ 115 ∷ 105 ∷ 100 ∷ 101 ∷ 32 ∷ 49 ∷ 49 ∷ 32 ∷ 49 ∷ 49 ∷ 32 ∷ 49 ∷ 56 ∷ 52 ∷ 52 ∷ 54 ∷ 55 ∷ 52 ∷ 52 ∷ 48 ∷ 54 ∷ 57 ∷ 52 ∷
    49 ∷ 52 ∷ 53 ∷ 56 ∷ 52 ∷ 51 ∷ 49 ∷ 48 ∷ 32 ∷ 48 ∷ 10 ∷ 112 ∷ 114 ∷ 101 ∷ 102 ∷ 105 ∷ 120 ∷ 32 ∷ 49 ∷ 48 ∷ 49 ∷ 32 ∷ 49 ∷ 52 ∷ 32 ∷ 49 ∷ 56 ∷
    52 ∷ 52 ∷ 54 ∷ 55 ∷ 52 ∷ 52 ∷ 48 ∷ 54 ∷ 57 ∷ 52 ∷ 49 ∷ 52 ∷ 53 ∷ 56 ∷ 52 ∷ 51 ∷ 48 ∷ 56 ∷ 32 ∷ 49 ∷ 10 ∷ 98 ∷ 101 ∷ 115 ∷ 105 ∷ 100 ∷ 101 ∷
    32 ∷ 49 ∷ 48 ∷ 48 ∷ 32 ∷ 49 ∷ 52 ∷ 32 ∷ 49 ∷ 56 ∷ 52 ∷ 52 ∷ 54 ∷ 55 ∷ 52 ∷ 52 ∷ 48 ∷ 54 ∷ 57 ∷ 52 ∷ 49 ∷ 52 ∷ 53 ∷ 56 ∷ 52 ∷ 51 ∷ 48 ∷ 55 ∷
    32 ∷ 48 ∷ 10 ∷ []
unfolding keys prints
page_three = refl
