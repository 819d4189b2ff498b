-- What the program `key` prints of a string and its two root seeds: the public share, level by level, and both servers' shares at each prefix of the string and
-- beside it.
use Rattle.std.specs.Prelude.{ℕ, suc, true, false, not, List, [], ◌∷◌, ◌++◌, take}
use Rattle.places.specs.Lists.{digit}
use Rattle.numbers.specs.Numbers.{little}
use Rattle.bits.specs.Strings.{Bits, ◌▹◌}
use Rattle.group.specs.Modular.{field}
use Rattle.expander.specs.declared.Expander.{Expander}
use Rattle.point.specs.Correction.{Correction}
use Rattle.point.specs.Evaluation.{bit_of, share_at}
use Rattle.point.specs.Instance.{scheme}
use Rattle.point.specs.PublicShare.{joined, control_bytes, read_correction}
use Rattle.exam_text.specs.Characters.{space, newline, binary, hexadecimal, decimal}

-- ---- lines

-- a field with the space behind it, and the last field of a line with its newline
abbrev pub spaced : List ℕ → List ℕ
spaced v = v ++ (space ∷ [])

abbrev pub closed : List ℕ → List ℕ
closed v = v ++ (newline ∷ [])

-- the words `control`, `level`, `prefix` and `beside`
abbrev pub control_word : List ℕ
control_word = 99 ∷ 111 ∷ 110 ∷ 116 ∷ 114 ∷ 111 ∷ 108 ∷ []

abbrev pub level_word : List ℕ
level_word = 108 ∷ 101 ∷ 118 ∷ 101 ∷ 108 ∷ []

abbrev pub prefix_word : List ℕ
prefix_word = 112 ∷ 114 ∷ 101 ∷ 102 ∷ 105 ∷ 120 ∷ []

abbrev pub beside_word : List ℕ
beside_word = 98 ∷ 101 ∷ 115 ∷ 105 ∷ 100 ∷ 101 ∷ []

-- `control` and the control bytes
unfoldable pub control_line : List ℕ → List ℕ
control_line bytes = spaced control_word ++ closed (hexadecimal bytes)

-- a seed correction and a payload correction
unfoldable pub correction_text : Correction ℕ → List ℕ
correction_text c = spaced (hexadecimal c.seed) ++ closed (hexadecimal (little 8 c.payload))

-- `level`, the number of the level, from 1 on, its left and its right bit correction, and its seed and payload correction
unfoldable pub level_line : ℕ → Correction ℕ → List ℕ
level_line k c =
    spaced level_word
    ++ (spaced (decimal (suc k)) ++ (spaced (decimal (digit c.left)) ++ (spaced (decimal (digit c.right)) ++ correction_text c)))

-- a word, a prefix, server 0's share at it, server 1's, and their sum
unfoldable pub shares_line : List ℕ → Bits → ℕ → ℕ → List ℕ
shares_line word q x y = spaced word ++ (spaced (binary q) ++ (spaced (decimal x) ++ (spaced (decimal y) ++ closed (decimal (field.add x y)))))

-- ---- the page

-- For a string s of n bits, its two root seeds and its public share, under an expander.
module _ (e : Expander) (n : ℕ) (s : Bits) (seed0 seed1 public_bytes : List ℕ) where
  -- the line of a prefix
  abbrev pub shares_line_at : List ℕ → Bits → List ℕ
  shares_line_at word q =
      shares_line word q (share_at (scheme e) (read_correction n public_bytes) seed0 false q) (share_at (scheme e) (read_correction n public_bytes) seed1 true q)

  -- the prefix that ends with bit k of the string, and the one with the other bit in its place
  abbrev pub path_lines : ℕ → List ℕ
  path_lines k = shares_line_at prefix_word (take k s ▹ bit_of s k) ++ shares_line_at beside_word (take k s ▹ not (bit_of s k))

  -- the control bytes; a line for each level; two lines for each bit of the string
  unfoldable pub page : List ℕ
  page = control_line (take (control_bytes n) public_bytes) ++ (joined n (λ k. level_line k (read_correction n public_bytes k)) ++ joined n path_lines)

-- space that is enough for every page of at most 32 bits, counted with 20 digits for each number
abbrev pub page_space : ℕ
page_space = 10425
