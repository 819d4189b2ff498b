-- The bytes of a word and of a state, in their order.
use Rattle.std.specs.Prelude.{get_or, List, [], ◌∷◌, ◌++◌, ℕ, ◌/◌, ◌%◌}
use Rattle.aes.specs.declared.word.Word.{Word}
use Rattle.aes.specs.declared.state.State.{State}

-- The four lowest bytes of a number, lowest first.
abbrev pub four_bytes : ℕ → List ℕ
four_bytes x = x % 256 ∷ x / 256 % 256 ∷ x / 65536 % 256 ∷ x / 16777216 % 256 ∷ []

-- The bytes of a word.
abbrev pub word_of : Word → List ℕ
word_of w = four_bytes w.bits

-- Column j of a state.
abbrev pub column : State → ℕ → Word
column s j = get_or s.columns j record { bits = 0 }

-- The bytes of a state, column by column.
abbrev pub bytes_of : State → List ℕ
bytes_of s = word_of (column s 0) ++ word_of (column s 1) ++ word_of (column s 2) ++ word_of (column s 3)
