-- Computed facts that pin the definitions: numbers and bytes as text, sheet D and a key line read from their texts, and texts that are refused.
use Prim.Native.Nat.{ℕ, ◌-◌}
use mathlib.Core.Path.{◌≡◌, refl}
use mathlib.Core.Bool.{true, false}
use mathlib.Core.List.{List, [], ◌∷◌, ◌++◌}
use mathlib.Core.Option.{Option, none, some}
use lib.ListN.{length, take, drop, replicate}
use Rattle.bits.specs.Strings.{Bits}
use Rattle.exam_text.specs.Characters.{binary, hexadecimal, decimal_in, decimal}
use Rattle.exam_text.specs.Sheet.{Line, Sheet, lines_text, text}
use Rattle.exam_text.specs.KeyLine.{KeyLine, key_line_text, is_key_line, key_line_of, read_key_line}
use Rattle.exam_text.specs.Reader.{leading, number_after, is_first_line, expander_of, after_first_line, are_bits, are_hex, bytes_read, is_line, line_of, are_lines, lines_of, is_sheet, sheet_of, read_sheet}

-- opens the definitions that write a text
writes : Unit {0}
unfolding text lines_text binary hexadecimal decimal_in
writes = tt

-- opens the definitions that read a text
reads : Unit {0}
unfolding read_sheet is_sheet sheet_of is_first_line expander_of after_first_line are_lines lines_of is_line line_of are_bits are_hex bytes_read leading number_after
reads = tt

-- ---- numbers and bytes

pub decimal_0 : decimal 0 ≡ 48 ∷ []
unfolding writes
decimal_0 = refl

pub decimal_10 : decimal 10 ≡ 49 ∷ 48 ∷ []
unfolding writes
decimal_10 = refl

pub decimal_65535 : decimal 65535 ≡ 54 ∷ 53 ∷ 53 ∷ 51 ∷ 53 ∷ []
unfolding writes
decimal_65535 = refl

-- the largest number of 64 bits
pub decimal_largest : decimal 18446744073709551615 ≡ 49 ∷ 56 ∷ 52 ∷ 52 ∷ 54 ∷ 55 ∷ 52 ∷ 52 ∷ 48 ∷ 55 ∷ 51 ∷ 55 ∷ 48 ∷ 57 ∷ 53 ∷ 53 ∷ 49 ∷ 54 ∷ 49 ∷ 53 ∷ []
unfolding writes
decimal_largest = refl

pub hexadecimal_bytes : hexadecimal (0 ∷ 9 ∷ 10 ∷ 171 ∷ 255 ∷ []) ≡ 48 ∷ 48 ∷ 48 ∷ 57 ∷ 48 ∷ 97 ∷ 97 ∷ 98 ∷ 102 ∷ 102 ∷ []
unfolding writes
hexadecimal_bytes = refl

-- ---- sheet D

abbrev s01 : Bits
s01 = false ∷ true ∷ []

abbrev s11 : Bits
s11 = true ∷ true ∷ []

-- the seeds 000102030405060708090a0b0c0d0e0f and f0e1d2c3b4a5968778695a4b3c2d1eff
abbrev seed0_d : List ℕ
seed0_d = 0 ∷ 1 ∷ 2 ∷ 3 ∷ 4 ∷ 5 ∷ 6 ∷ 7 ∷ 8 ∷ 9 ∷ 10 ∷ 11 ∷ 12 ∷ 13 ∷ 14 ∷ 15 ∷ []

abbrev seed1_d : List ℕ
seed1_d = 240 ∷ 225 ∷ 210 ∷ 195 ∷ 180 ∷ 165 ∷ 150 ∷ 135 ∷ 120 ∷ 105 ∷ 90 ∷ 75 ∷ 60 ∷ 45 ∷ 30 ∷ 255 ∷ []

abbrev line : Bits → Line
line s = record { string = s; seed0 = seed0_d; seed1 = seed1_d }

abbrev sheet : Option ℕ → Sheet
sheet e = record { n = 2; t = 2; expander = e; lines = line s01 ∷ line s01 ∷ line s11 ∷ [] }

-- what stands behind the string of each line
abbrev seeds_text : List ℕ
seeds_text =
    32
    ∷ 48 ∷ 48 ∷ 48 ∷ 49 ∷ 48 ∷ 50 ∷ 48 ∷ 51 ∷ 48 ∷ 52 ∷ 48 ∷ 53 ∷ 48 ∷ 54 ∷ 48 ∷ 55 ∷ 48 ∷ 56 ∷ 48 ∷ 57 ∷ 48 ∷ 97 ∷ 48 ∷ 98 ∷ 48 ∷ 99 ∷ 48 ∷ 100 ∷ 48 ∷ 101 ∷ 48 ∷ 102
    ∷ 32
    ∷ 102 ∷ 48 ∷ 101 ∷ 49 ∷ 100 ∷ 50 ∷ 99 ∷ 51 ∷ 98 ∷ 52 ∷ 97 ∷ 53 ∷ 57 ∷ 54 ∷ 56 ∷ 55 ∷ 55 ∷ 56 ∷ 54 ∷ 57 ∷ 53 ∷ 97 ∷ 52 ∷ 98 ∷ 51 ∷ 99 ∷ 50 ∷ 100 ∷ 49 ∷ 101 ∷ 102 ∷ 102
    ∷ 10
    ∷ []

-- the lines `01`, `01` and `11`
abbrev lines_d : List ℕ
lines_d = (48 ∷ 49 ∷ seeds_text) ++ (48 ∷ 49 ∷ seeds_text) ++ (49 ∷ 49 ∷ seeds_text)

-- the first line `2 2 3 2`, and those lines
abbrev text_d : List ℕ
text_d = 50 ∷ 32 ∷ 50 ∷ 32 ∷ 51 ∷ 32 ∷ 50 ∷ 10 ∷ lines_d

pub d_printed : text (sheet (some 2)) ≡ text_d
unfolding writes
d_printed = refl

pub d_read : read_sheet text_d ≡ some (sheet (some 2))
unfolding reads
d_read = refl

-- without ` 2` the expander is missing
pub d_short : read_sheet (50 ∷ 32 ∷ 50 ∷ 32 ∷ 51 ∷ 10 ∷ lines_d) ≡ some (sheet none)
unfolding reads
d_short = refl

-- ---- texts that are refused

-- `02 2 3 2`
pub leading_zero : is_sheet (48 ∷ 50 ∷ 32 ∷ 50 ∷ 32 ∷ 51 ∷ 32 ∷ 50 ∷ 10 ∷ lines_d) ≡ false
unfolding reads
leading_zero = refl

-- `2  2 3 2`
pub two_spaces : is_sheet (50 ∷ 32 ∷ 32 ∷ 50 ∷ 32 ∷ 51 ∷ 32 ∷ 50 ∷ 10 ∷ lines_d) ≡ false
unfolding reads
two_spaces = refl

pub no_last_newline : is_sheet (take (length text_d - 1) text_d) ≡ false
unfolding reads
no_last_newline = refl

pub byte_behind : is_sheet (text_d ++ (10 ∷ [])) ≡ false
unfolding reads
byte_behind = refl

pub no_text : is_sheet [] ≡ false
unfolding reads
no_text = refl

-- a sheet of one line passes, and with an upper_case `A` for the first digit of its seed not
pub upper_case : (is_sheet (49 ∷ 32 ∷ 49 ∷ 32 ∷ 49 ∷ 10 ∷ 49 ∷ seeds_text) ≡ true) × (is_sheet (49 ∷ 32 ∷ 49 ∷ 32 ∷ 49 ∷ 10 ∷ 49 ∷ 32 ∷ 65 ∷ drop 2 seeds_text) ≡ false)
unfolding reads
upper_case = (refl, refl)

-- five digits pass, `99999`, and six not, `100000`
pub six_digits : (is_sheet (49 ∷ 32 ∷ 57 ∷ 57 ∷ 57 ∷ 57 ∷ 57 ∷ 32 ∷ 48 ∷ 10 ∷ []) ≡ true) × (is_sheet (49 ∷ 32 ∷ 49 ∷ 48 ∷ 48 ∷ 48 ∷ 48 ∷ 48 ∷ 32 ∷ 48 ∷ 10 ∷ []) ≡ false)
unfolding reads
six_digits = (refl, refl)

-- strings of 32 bits pass, and of 33 not
pub long_strings : (is_sheet (51 ∷ 50 ∷ 32 ∷ 49 ∷ 32 ∷ 48 ∷ 10 ∷ []) ≡ true) × (is_sheet (51 ∷ 51 ∷ 32 ∷ 49 ∷ 32 ∷ 48 ∷ 10 ∷ []) ≡ false)
unfolding reads
long_strings = (refl, refl)

-- m lines of strings of no bits
abbrev empties : ℕ → List ℕ
empties m = lines_text (replicate m (line []))

-- 32 lines pass, and 33 not
pub many_lines : (is_sheet (48 ∷ 32 ∷ 49 ∷ 32 ∷ 51 ∷ 50 ∷ 10 ∷ empties 32) ≡ true) × (is_sheet (48 ∷ 32 ∷ 49 ∷ 32 ∷ 51 ∷ 51 ∷ 10 ∷ empties 33) ≡ false)
unfolding writes reads
many_lines = (refl, refl)

-- ---- a key line

-- A of document 01 as a key line: n = 1, expander 2, the string `1`, seeds of zeros but for a first byte 01
abbrev key_a : KeyLine
key_a = record {
  n = 1;
  expander = 2;
  line = record { string = true ∷ []; seed0 = replicate 16 0; seed1 = 1 ∷ replicate 15 0 };
}

pub key_line_a : key_line_text key_a
    ≡ 49 ∷ 32 ∷ 50 ∷ 32 ∷ 49 ∷ 32 ∷ 48 ∷ 48 ∷ 48 ∷ 48 ∷ 48 ∷ 48 ∷ 48 ∷ 48 ∷ 48 ∷ 48 ∷ 48 ∷ 48 ∷ 48 ∷ 48 ∷ 48 ∷ 48 ∷ 48 ∷ 48 ∷ 48 ∷ 48 ∷ 48 ∷ 48 ∷
    48 ∷ 48 ∷ 48 ∷ 48 ∷ 48 ∷ 48 ∷ 48 ∷ 48 ∷ 48 ∷ 48 ∷ 32 ∷ 48 ∷ 49 ∷ 48 ∷ 48 ∷ 48 ∷ 48 ∷ 48 ∷ 48 ∷ 48 ∷ 48 ∷ 48 ∷ 48 ∷ 48 ∷ 48 ∷ 48 ∷ 48 ∷ 48 ∷
    48 ∷ 48 ∷ 48 ∷ 48 ∷ 48 ∷ 48 ∷ 48 ∷ 48 ∷ 48 ∷ 48 ∷ 48 ∷ 48 ∷ 48 ∷ 48 ∷ 48 ∷ 10 ∷ []
unfolding writes key_line_text
key_line_a = refl

-- and read from its text
pub key_line_a_read : read_key_line (key_line_text key_a) ≡ some key_a
unfolding writes reads key_line_text is_key_line key_line_of read_key_line
key_line_a_read = refl
