-- The tests of a key's line, in their order, and what it says.
use Prim.Native.Nat.{ℕ, ◌+◌, ◌*◌, ◌≤◌, ◌<◌}
use native.Mathlib.Omega.{arith}
use mathlib.Core.Path.{◌≡◌, sym, ◌∙◌}
use mathlib.Core.Bool.{true, false, ◌&&◌}
use mathlib.Core.List.{List}
use borrow.Author.Tests.{le-leb, lt-leb}
use lib.ListN.{take, drop}
use lib.Seq.{take_all}
use lib.Dec.{leb}
use Rattle.exam_text.specs.Characters.{space}
use Rattle.exam_text.specs.Reader.{number_then, second, third, line_length, line_of, are_lines, lines_of, has_line, no_line, line_at}
use Rattle.exam_text.specs.KeyLine.{is_key_line, key_line_of, KeyLineSays}
use Rattle.exam_text.proofs.Reading.{FieldSays}
use Rattle.exam_text.proofs.LineTests.{lines_length}
use Rattle.exam_text.proofs.Placed.{line_stands, line_placed}

-- the one line that a text is, at its place
module _ (t : List ℕ) (n at : ℕ) (short : n ≤ 32) (e : are_lines n 1 (drop at t) ≡ true) where
  first_at : at + 0 * line_length n ≡ at
  first_at = omega arith

  one_stands : has_line n at t ≡ true
  one_stands = rw first_at at (line_stands t at n 1 0 (omega arith) short e)

  whole : take (line_length n) (drop at t) ≡ drop at t
  whole = take_all (line_length n) (drop at t) (omega (arith, lines_length n 1 (drop at t) e))

  one_placed : line_at n at t ≡ line_of n (drop at t)
  unfolding lines_of
  one_placed = rw (← whole) (sym (rw first_at at (line_placed t at n 1 0 (omega arith) short e no_line)))

module _ (t : List ℕ) where
  pub no_n : number_then space t ≡ false → is_key_line t ≡ false
  unfolding is_key_line
  no_n e = rw e

  module _ (e₁ : number_then space t ≡ true) (x₁ h₁ : ℕ) (s₁ : FieldSays t t x₁ h₁) where
    at_second : drop h₁ t ≡ second t
    at_second = s₁.rest.same

    pub no_expander : number_then space (drop h₁ t) ≡ false → is_key_line t ≡ false
    unfolding is_key_line
    no_expander e = rw (e₁, rw at_second at e)

    module _ (e₂ : number_then space (drop h₁ t) ≡ true) (x₂ h₂ : ℕ) (s₂ : FieldSays t (drop h₁ t) x₂ h₂) where
      at_third : drop h₂ t ≡ third t
      at_third = s₂.rest.same ∙ rw at_second

      left : is_key_line t ≡ (leb x₁ 32 && are_lines x₁ 1 (drop h₂ t))
      unfolding is_key_line
      left = rw (e₁, rw at_second at e₂, s₁.number_read, at_third)

      pub n_too_wide : 32 < x₁ → is_key_line t ≡ false
      n_too_wide h = left ∙ rw (lt-leb x₁ 32 h)

      module _ (short : x₁ ≤ 32) where
        pub line_decides : is_key_line t ≡ are_lines x₁ 1 (drop h₂ t)
        line_decides = left ∙ rw (le-leb x₁ 32 short)

        pub key_says : are_lines x₁ 1 (drop h₂ t) ≡ true → KeyLineSays t x₁ x₂ h₂
        unfolding key_line_of
        key_says e = record {
          n_read = s₁.number_read;
          expander_read = s₂.number_read ∙ rw at_second;
          n_most = short;
          placed = at_third;
          stands = one_stands t x₁ h₂ short e;
          line_read = one_placed t x₁ h₂ short e ∙ rw (s₁.number_read, at_third);
        }
