-- The call `respond` of the program `key`: 10 where the text is no key line, else 1 or 3, else the page.
use Rattle.std.specs.Prelude.{ℕ, ◌≡◌, Bool, true, false, not, List, [], ◌∷◌, ◌≢◌, pos}
use Rattle.std.proofs.Math.Option.{Option, none, some}
use Rattle.bits.specs.Packing.{pack}
use Rattle.calls.specs.Bounds.{most_bits, Outside, outside}
use Rattle.calls.specs.Causes.{Cause, cause}
use Rattle.calls.specs.Outcome.{Outcome, judged}
use Rattle.expander.specs.Expander.{is_expander, choice_of, under}
use Rattle.expander.specs.declared.Expander.{Expander}
use Rattle.keymaker.specs.Key.{key_bytes}
use Rattle.exam_text.specs.Sheet.{Line}
use Rattle.exam_text.specs.KeyLine.{KeyLine, key_line_text, KeyWithin, read_key_line}
use Rattle.exam_lines.specs.Lines.{output_for, written_in}
use Rattle.key_answering.specs.KeyPage.{page}

-- the bytes are the text of a key line within its bounds of which P holds
abbrev pub KeyLineWith : List ℕ → (KeyLine → Type 0) → Type 0
KeyLineWith bytes P = (k : KeyLine) × KeyWithin k × (bytes ≡ key_line_text k) × P k

-- whether a key line was read and passes the test; and whether none was
abbrev pub key_with : Option KeyLine → (KeyLine → Bool) → Bool
key_with none f = false
key_with (some k) f = f k

abbrev pub no_key : Option KeyLine → Bool
no_key none = true
no_key (some k) = false

-- the causes, 10 first: the bytes are not the text of a key line within its bounds; they are, and its n is outside its bounds, or its expander is not 1 or 2
abbrev pub key_line_causes : List ℕ → List Cause
key_line_causes bytes =
    let read = read_key_line bytes in
    cause 10 ((k : KeyLine) → KeyWithin k → bytes ≢ key_line_text k) (no_key read)
    ∷ cause 1 (KeyLineWith bytes (λ k. Outside most_bits k.n)) (key_with read (λ k. outside most_bits k.n))
    ∷ cause 3 (KeyLineWith bytes (λ k. (k.expander ≢ 1) × (k.expander ≢ 2))) (key_with read (λ k. not (is_expander k.expander)))
    ∷ []

-- the page of a line for strings of n bits: its public share is what the key maker makes of its string, with the weight 1, and its two root seeds
unfoldable pub line_page : ℕ → Line → Expander → List ℕ
line_page n l e = page e n l.string l.seed0 l.seed1 (key_bytes n (pos 1) (pack l.string) l.seed0 l.seed1 e)

-- the page of what was read
abbrev pub page_read : Option KeyLine → List ℕ
page_read none = []
page_read (some k) = under (choice_of k.expander) (line_page k.n k.line)

-- the outcome in space enough: the page, or a refusal
unfoldable pub key_line_outcome : List ℕ → Outcome
key_line_outcome bytes = judged (key_line_causes bytes) (page_read (read_key_line bytes))

-- the whole output for a text: the page, or the line of the refusal
unfoldable pub key_output : List ℕ → List ℕ
key_output bytes = output_for (key_line_outcome bytes)

unfoldable pub respond_outcome : List ℕ → ℕ → Outcome
respond_outcome bytes room = written_in (key_output bytes) room
