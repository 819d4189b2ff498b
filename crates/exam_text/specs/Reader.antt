-- The reader of exam texts: whether a text is that of a sheet, and of which.
use Rattle.std.specs.Prelude.{ℕ, zero, suc, ◌+◌, ◌*◌, ◌-◌, ◌≤◌, ◌≡◌, Bool, true, cond, not, ◌&&◌, ◌||◌, List, [], ◌∷◌, map, length, get_or, take, drop, replicate, leb, eqb}
use Rattle.std.proofs.Math.Option.{Option, none, some}
use Rattle.bits.specs.Strings.{Bits}
use Rattle.exam_text.specs.Characters.{space, newline}
use Rattle.exam_text.specs.Sheet.{Line, Sheet, expander_number}

-- ---- numbers

-- whether a character is a decimal digit
abbrev pub is_decimal : ℕ → Bool
is_decimal c = leb 48 c && leb c 57

-- the digits with which a text begins
unfoldable pub leading : List ℕ → List ℕ
leading [] = []
leading (c ∷ cs) = cond (is_decimal c) (c ∷ leading cs) []

-- the number that digits are, after x
unfoldable pub number_after : ℕ → List ℕ → ℕ
number_after x [] = x
number_after x (c ∷ cs) = number_after (10 * x + (c - 48)) cs

-- whether digits are laid out as a number: one to five of them, and no zero before others
abbrev pub is_number : List ℕ → Bool
is_number ds = leb 1 (length ds) && leb (length ds) 5 && (eqb (length ds) 1 || not (eqb (get_or ds 0 0) 48))

-- whether a text begins with a number that the character c follows
abbrev pub number_then : ℕ → List ℕ → Bool
number_then c cs = is_number (leading cs) && eqb (get_or cs (length (leading cs)) 0) c

-- that number
abbrev pub first_number : List ℕ → ℕ
first_number cs = number_after 0 (leading cs)

-- and what stands behind that character
abbrev pub behind : List ℕ → List ℕ
behind cs = drop (suc (length (leading cs))) cs

-- ---- the first line

-- what stands behind its first, its second and its third number
abbrev pub second : List ℕ → List ℕ
second cs = behind cs

abbrev pub third : List ℕ → List ℕ
third cs = behind (second cs)

abbrev pub fourth : List ℕ → List ℕ
fourth cs = behind (third cs)

-- whether the field of the expander is there: a space follows the third number
abbrev pub has_expander : List ℕ → Bool
has_expander cs = number_then space (third cs)

-- whether the first line is laid out as `n t C` or `n t C e`
unfoldable pub is_first_line : List ℕ → Bool
is_first_line cs =
    number_then space cs && number_then space (second cs) && (number_then newline (third cs) || (has_expander cs && number_then newline (fourth cs)))

-- the expander
unfoldable pub expander_of : List ℕ → Option ℕ
expander_of cs = cond (has_expander cs) (some (first_number (fourth cs))) none

-- what stands behind the first line
unfoldable pub after_first_line : List ℕ → List ℕ
after_first_line cs = cond (has_expander cs) (behind (fourth cs)) (fourth cs)

-- ---- the other lines

-- whether each character is `0` or `1`; and the bits
unfoldable pub are_bits : List ℕ → Bool
are_bits [] = true
are_bits (c ∷ cs) = (eqb c 48 || eqb c 49) && are_bits cs

abbrev pub bits_read : List ℕ → Bits
bits_read cs = map (λ c. eqb c 49) cs

-- whether a character is a lower-case hexadecimal digit; and its value
abbrev pub is_hex : ℕ → Bool
is_hex c = is_decimal c || (leb 97 c && leb c 102)

abbrev pub hex_value : ℕ → ℕ
hex_value c = cond (leb c 57) (c - 48) (c - 87)

-- whether each character is such a digit; and the bytes that pairs of them are
unfoldable pub are_hex : List ℕ → Bool
are_hex [] = true
are_hex (c ∷ cs) = is_hex c && are_hex cs

unfoldable pub bytes_read : List ℕ → List ℕ
bytes_read [] = []
bytes_read (c ∷ []) = []
bytes_read (c ∷ d ∷ cs) = (16 * hex_value c + hex_value d) ∷ bytes_read cs

-- how long a line is for strings of n bits: the string, two seeds of 32 digits, two spaces and the newline
abbrev pub line_length : ℕ → ℕ
line_length n = n + 67

-- the parts of such a line
abbrev pub string_part : ℕ → List ℕ → List ℕ
string_part n cs = take n cs

abbrev pub seed0_part : ℕ → List ℕ → List ℕ
seed0_part n cs = take 32 (drop (n + 1) cs)

abbrev pub seed1_part : ℕ → List ℕ → List ℕ
seed1_part n cs = take 32 (drop (n + 34) cs)

-- whether it is laid out so
unfoldable pub is_line : ℕ → List ℕ → Bool
is_line n cs =
    are_bits (string_part n cs)
    && eqb (get_or cs n 0) space
    && are_hex (seed0_part n cs)
    && eqb (get_or cs (n + 33) 0) space
    && are_hex (seed1_part n cs)
    && eqb (get_or cs (n + 66) 0) newline

-- what it says
unfoldable pub line_of : ℕ → List ℕ → Line
line_of n cs = record { string = bits_read (string_part n cs); seed0 = bytes_read (seed0_part n cs); seed1 = bytes_read (seed1_part n cs) }

-- whether a text is C such lines and nothing after them
unfoldable pub are_lines : ℕ → ℕ → List ℕ → Bool
are_lines n zero cs = eqb (length cs) 0
are_lines n (suc C) cs = leb (line_length n) (length cs) && is_line n (take (line_length n) cs) && are_lines n C (drop (line_length n) cs)

-- what they say
unfoldable pub lines_of : ℕ → ℕ → List ℕ → List Line
lines_of n zero cs = []
lines_of n (suc C) cs = line_of n (take (line_length n) cs) ∷ lines_of n C (drop (line_length n) cs)

-- ---- the whole text

-- n, t and C
abbrev pub length_read : List ℕ → ℕ
length_read cs = first_number cs

abbrev pub threshold_read : List ℕ → ℕ
threshold_read cs = first_number (second cs)

abbrev pub count_read : List ℕ → ℕ
count_read cs = first_number (third cs)

-- whether it is the text of a sheet; if not, cause 10 applies
unfoldable pub is_sheet : List ℕ → Bool
is_sheet cs =
    leb (length cs) 4096
    && is_first_line cs
    && leb (length_read cs) 32
    && leb (count_read cs) 32
    && are_lines (length_read cs) (count_read cs) (after_first_line cs)

-- that sheet
unfoldable pub sheet_of : List ℕ → Sheet
sheet_of cs = record {
  n = length_read cs;
  t = threshold_read cs;
  expander = expander_of cs;
  lines = lines_of (length_read cs) (count_read cs) (after_first_line cs);
}

-- the reader: the sheet of a text, or none
unfoldable pub read_sheet : List ℕ → Option Sheet
read_sheet cs = cond (is_sheet cs) (some (sheet_of cs)) none

-- ---- what is told of a text

-- The numbers of its first line, and the place where its other lines begin.
pub record SheetSays (cs : List ℕ) (n t count expander lines : ℕ) : Type 0 where
  pub n_read : n ≡ (sheet_of cs).n
  pub t_read : t ≡ (sheet_of cs).t
  pub count_is_read : count ≡ length (sheet_of cs).lines
  pub expander_read : expander ≡ expander_number (sheet_of cs).expander
  pub lines_within : lines ≤ length cs
  pub lines_placed : drop lines cs ≡ after_first_line cs

-- whether a line for strings of n bits, at most 32, stands at a place
unfoldable pub has_line : ℕ → ℕ → List ℕ → Bool
has_line n at cs = leb n 32 && leb (at + line_length n) (length cs) && is_line n (take (line_length n) (drop at cs))

-- a line of no bits, with seeds of zeros
abbrev pub no_line : Line
no_line = record { string = []; seed0 = replicate 16 0; seed1 = replicate 16 0 }

-- the line that stands there; where none does, that one
unfoldable pub line_at : ℕ → ℕ → List ℕ → Line
line_at n at cs = cond (has_line n at cs) (line_of n (take (line_length n) (drop at cs))) no_line
