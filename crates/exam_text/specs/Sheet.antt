-- An exam sheet, and its text: document 01, 'Exam program'.
use Rattle.std.specs.Prelude.{ℕ, ◌≤◌, ◌<◌, List, [], ◌∷◌, ◌++◌, map, length}
use Rattle.std.proofs.Math.Option.{Option, none, some}
use Rattle.places.specs.Lists.{All}
use Rattle.bits.specs.Strings.{Bits}
use Rattle.places.specs.Places.{Bytes}
use Rattle.query.specs.Query.{OfLength}
use Rattle.exam_text.specs.Characters.{space, newline, binary, hexadecimal, decimal}

-- One line of a sheet: an installation's string and its two root seeds.
pub record Line : Type 0 where
  pub string : Bits
  pub seed0 : List ℕ
  pub seed1 : List ℕ

-- A sheet: the string length n, the threshold t, the expander, which may be missing, and a line for each report.
pub record Sheet : Type 0 where
  pub n : ℕ
  pub t : ℕ
  pub expander : Option ℕ
  pub lines : List Line

-- the strings of a sheet
abbrev pub strings : Sheet → List Bits
strings s = map (λ l. l.string) s.lines

-- the expander's number; a missing one means 2
abbrev pub expander_number : Option ℕ → ℕ
expander_number none = 2
expander_number (some e) = e

-- ---- the text

-- a line `string seed0 seed1`
abbrev pub line_text : Line → List ℕ
line_text l = binary l.string ++ (space ∷ hexadecimal l.seed0 ++ (space ∷ hexadecimal l.seed1 ++ (newline ∷ [])))

-- such lines, one after the other
unfoldable pub lines_text : List Line → List ℕ
lines_text [] = []
lines_text (l ∷ ls) = line_text l ++ lines_text ls

-- the field of the expander, with the space before it
abbrev pub expander_text : Option ℕ → List ℕ
expander_text none = []
expander_text (some e) = space ∷ decimal e

-- a line `n t C e`, then the C lines, and nothing after them
unfoldable pub text : Sheet → List ℕ
text s = decimal s.n ++ (space ∷ decimal s.t ++ (space ∷ decimal (length s.lines) ++ (expander_text s.expander ++ (newline ∷ lines_text s.lines))))

-- ---- its bounds

-- at most 5 digits
abbrev pub FiveDigits : ℕ → Type 0
FiveDigits x = x < 100000

-- The sheet is within the bounds of a text.
pub record Within (s : Sheet) : Type 0 where
  pub n_most : s.n ≤ 32
  pub lines_at_most : length s.lines ≤ 32
  pub t_digits : FiveDigits s.t
  pub expander_digits : FiveDigits (expander_number s.expander)
  pub n_bits : OfLength s.n (strings s)
  pub seeds : All (λ l. Bytes 16 l.seed0 × Bytes 16 l.seed1) s.lines
  pub most : length (text s) ≤ 4096
