-- The calls `answer` and `respond`: document 01, 'Causes of refusal' and 'Exam program'.
use Rattle.std.specs.Prelude.{ℕ, ◌<◌, ◌≡◌, Bool, true, false, not, List, [], ◌∷◌, ◌≢◌, length, ltb}
use Rattle.std.proofs.Math.Option.{Option, none, some}
use Rattle.calls.specs.Bounds.{most_bits, most_threshold, Outside, outside}
use Rattle.calls.specs.Causes.{Cause, cause}
use Rattle.calls.specs.Outcome.{Outcome, judged, Exit, exit}
use Rattle.expander.specs.Expander.{is_expander}
use Rattle.exam_text.specs.Sheet.{Sheet, expander_number, text, Within}
use Rattle.exam_text.specs.Reader.{read_sheet}
use Rattle.exam_lines.specs.Lines.{output_for, written_in}
use Rattle.exam_answering.specs.AnswerText.{answer_text}

-- ---- `answer`

-- the bytes are the text of a sheet within its bounds of which P holds
abbrev pub SheetWith : List ℕ → (Sheet → Type 0) → Type 0
SheetWith bytes P = (s : Sheet) × Within s × (bytes ≡ text s) × P s

-- whether a sheet was read and passes the test; and whether none was
abbrev pub read_with : Option Sheet → (Sheet → Bool) → Bool
read_with none f = false
read_with (some s) f = f s

abbrev pub none_read : Option Sheet → Bool
none_read none = true
none_read (some s) = false

-- the causes, 10 first: the bytes are not the text of a sheet within its bounds; they are, and its n, or its t, is outside its bounds, or its expander
-- is not 1 or 2, or its answer would not fit
abbrev pub exam_causes : List ℕ → ℕ → List Cause
exam_causes bytes room =
    let read = read_sheet bytes in
    cause 10 ((s : Sheet) → Within s → bytes ≢ text s) (none_read read)
    ∷ cause 1 (SheetWith bytes (λ s. Outside most_bits s.n)) (read_with read (λ s. outside most_bits s.n))
    ∷ cause 2 (SheetWith bytes (λ s. Outside most_threshold s.t)) (read_with read (λ s. outside most_threshold s.t))
    ∷ cause 3 (SheetWith bytes (λ s. (expander_number s.expander ≢ 1) × (expander_number s.expander ≢ 2)))
    (read_with read (λ s. not (is_expander (expander_number s.expander))))
    ∷ cause 11 (SheetWith bytes (λ s. room < length (answer_text s))) (read_with read (λ s. ltb room (length (answer_text s))))
    ∷ []

-- the answer to what was read
abbrev pub answer_read : Option Sheet → List ℕ
answer_read none = []
answer_read (some s) = answer_text s

unfoldable pub exam_outcome : List ℕ → ℕ → Outcome
exam_outcome bytes room = judged (exam_causes bytes room) (answer_read (read_sheet bytes))

-- what the call returns, and the space that it is lent, at exit
abbrev pub exam_exit : List ℕ → List ℕ → Exit
exam_exit bytes area = exit (exam_outcome bytes (length area)) area

-- space that is enough for every answer
abbrev pub answer_space : ℕ
answer_space = 43232

-- ---- `respond`

-- the whole output for a text: the answer, or the line of the refusal
unfoldable pub output : List ℕ → List ℕ
output bytes = output_for (exam_outcome bytes answer_space)

unfoldable pub respond_outcome : List ℕ → ℕ → Outcome
respond_outcome bytes room = written_in (output bytes) room

-- what the call returns, and the space that it is lent, at exit
abbrev pub respond_exit : List ℕ → List ℕ → Exit
respond_exit bytes area = exit (respond_outcome bytes (length area)) area
