-- The lines of an answer, and that of a refusal: document 01, 'Exam program'.
use Rattle.std.specs.Prelude.{ℕ, cond, List, [], ◌∷◌, ◌++◌, length, eqb}
use Rattle.bits.specs.Strings.{Bits}
use Rattle.calls.specs.Bounds.{space_cause}
use Rattle.calls.specs.Outcome.{Outcome, judged}
use Rattle.exam_text.specs.Characters.{space, newline, binary, decimal}

-- ---- the lines

-- the line of a queried prefix: its bits and its decimal total
abbrev pub prefix_line : Bits → ℕ → List ℕ
prefix_line q total = binary q ++ (space ∷ decimal total ++ (newline ∷ []))

-- the word `heavy`
abbrev pub heavy_word : List ℕ
heavy_word = 104 ∷ 101 ∷ 97 ∷ 118 ∷ 121 ∷ []

-- the line of a heavy string: `heavy` and the string
abbrev pub heavy_line : Bits → List ℕ
heavy_line s = heavy_word ++ (space ∷ binary s ++ (newline ∷ []))

-- the word `refused`
abbrev pub refused_word : List ℕ
refused_word = 114 ∷ 101 ∷ 102 ∷ 117 ∷ 115 ∷ 101 ∷ 100 ∷ []

-- the line of a refusal: `refused` and the number
abbrev pub refused_text : ℕ → List ℕ
refused_text k = refused_word ++ (space ∷ decimal k ++ (newline ∷ []))

-- ---- `write_text` and `refused_line`

-- a text written where it fits, and 11 where it does not
abbrev pub written_in : List ℕ → ℕ → Outcome
written_in bytes room = judged (space_cause (length bytes) room ∷ []) bytes

-- the whole output of a call whose refusal is a line: what it writes, or the line of its refusal
abbrev pub output_for : Outcome → List ℕ
output_for o = cond (eqb o.number 0) o.written (refused_text o.number)

unfoldable pub refused_outcome : ℕ → ℕ → Outcome
refused_outcome k room = written_in (refused_text k) room
