-- What the code that reads a first line finds at a place of a text, for contracts that are not published.
use Prim.Native.Nat.{ℕ, ◌≤◌}
use mathlib.Core.Path.{◌≡◌}
use mathlib.Core.Bool.{Bool, cond, ◌&&◌, ◌||◌}
use mathlib.Core.List.{List}
use mathlib.Core.Option.{Option, none, some}
use lib.ListN.{length, drop}
use Rattle.exam_text.specs.Characters.{space, newline}
use Rattle.exam_text.specs.Sheet.{expander_number}
use Rattle.exam_text.specs.Reader.{number_then, first_number, behind, length_read, threshold_read, count_read, expander_of, after_first_line}

-- the place `here` of a text is where the rest begins
pub record Rest (text : List ℕ) (here : ℕ) (rest : List ℕ) : Type 0 where
  pub within : here ≤ length text
  pub same : drop here text ≡ rest

-- what a field at the text cs says: its number, and the place behind it
pub record FieldSays (text cs : List ℕ) (number here : ℕ) : Type 0 where
  pub number_read : number ≡ first_number cs
  pub rest : Rest text here (behind cs)

-- the end of a first line at the text cs, its third number: whether it is laid out, its expander, and what stands behind it
abbrev pub is_end : List ℕ → Bool
is_end cs = number_then newline cs || (number_then space cs && number_then newline (behind cs))

abbrev pub end_expander : List ℕ → Option ℕ
end_expander cs = cond (number_then space cs) (some (first_number (behind cs))) none

abbrev pub after_end : List ℕ → List ℕ
after_end cs = cond (number_then space cs) (behind (behind cs)) (behind cs)

-- what such an end says
pub record EndSays (text cs : List ℕ) (count expander here : ℕ) : Type 0 where
  pub count_is_read : count ≡ first_number cs
  pub expander_read : expander ≡ expander_number (end_expander cs)
  pub rest : Rest text here (after_end cs)

-- what a first line says
pub record FirstLineSays (text : List ℕ) (n t count expander here : ℕ) : Type 0 where
  pub n_read : n ≡ length_read text
  pub t_read : t ≡ threshold_read text
  pub count_is_read : count ≡ count_read text
  pub expander_read : expander ≡ expander_number (expander_of text)
  pub rest : Rest text here (after_first_line text)
