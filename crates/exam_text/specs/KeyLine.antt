-- The line that the program `key` is given: `n e string seed0 seed1`, with the fields of a sheet.
use Rattle.std.specs.Prelude.{ℕ, ◌≤◌, ◌≡◌, Bool, true, cond, ◌&&◌, List, ◌∷◌, ◌++◌, length, drop, leb}
use Rattle.std.proofs.Math.Option.{Option, none, some}
use Rattle.places.specs.Places.{Bytes}
use Rattle.exam_text.specs.Characters.{space, decimal}
use Rattle.exam_text.specs.Sheet.{Line, line_text, FiveDigits}
use Rattle.exam_text.specs.Reader.{number_then, first_number, second, third, line_of, are_lines, has_line, line_at}

-- The string length n, the expander, and the string with its two root seeds.
pub record KeyLine : Type 0 where
  pub n : ℕ
  pub expander : ℕ
  pub line : Line

-- the line `n e string seed0 seed1`
unfoldable pub key_line_text : KeyLine → List ℕ
key_line_text k = decimal k.n ++ (space ∷ decimal k.expander ++ (space ∷ line_text k.line))

-- It is within the bounds that a sheet has.
pub record KeyWithin (k : KeyLine) : Type 0 where
  pub n_most : k.n ≤ 32
  pub expander_digits : FiveDigits k.expander
  pub n_bits : length k.line.string ≡ k.n
  pub seeds : Bytes 16 k.line.seed0 × Bytes 16 k.line.seed1

-- ---- its reader

-- whether a text is such a line, and nothing after it
unfoldable pub is_key_line : List ℕ → Bool
is_key_line cs = number_then space cs && number_then space (second cs) && leb (first_number cs) 32 && are_lines (first_number cs) 1 (third cs)

-- what it says
unfoldable pub key_line_of : List ℕ → KeyLine
key_line_of cs = record { n = first_number cs; expander = first_number (second cs); line = line_of (first_number cs) (third cs) }

-- the reader: the line that a text is, or none
unfoldable pub read_key_line : List ℕ → Option KeyLine
read_key_line cs = cond (is_key_line cs) (some (key_line_of cs)) none

-- ---- what is told of a text

-- Its two numbers, and the place where its string and seeds stand.
pub record KeyLineSays (cs : List ℕ) (n expander place : ℕ) : Type 0 where
  pub n_read : n ≡ (key_line_of cs).n
  pub expander_read : expander ≡ (key_line_of cs).expander
  pub n_most : n ≤ 32
  pub placed : drop place cs ≡ third cs
  pub stands : has_line n place cs ≡ true
  pub line_read : line_at n place cs ≡ (key_line_of cs).line
