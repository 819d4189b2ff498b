-- The first line of a text from its fields.
use Prim.Native.Nat.{ℕ}
use mathlib.Core.Path.{◌≡◌, ◌∙◌}
use mathlib.Core.Bool.{true, false}
use mathlib.Core.List.{List}
use lib.ListN.{drop}
use Rattle.exam_text.specs.Characters.{space}
use Rattle.exam_text.specs.Reader.{number_then, second, third, is_first_line, expander_of, after_first_line}
use Rattle.exam_text.proofs.Reading.{FieldSays, is_end, EndSays, FirstLineSays}

module _ (t : List ℕ) where
  pub no_first : number_then space t ≡ false → is_first_line t ≡ false
  unfolding is_first_line
  no_first e = rw e

  module _ (e₁ : number_then space t ≡ true) (x₁ h₁ : ℕ) (s₁ : FieldSays t t x₁ h₁) where
    at_second : drop h₁ t ≡ second t
    at_second = s₁.rest.same

    pub no_second : number_then space (drop h₁ t) ≡ false → is_first_line t ≡ false
    unfolding is_first_line
    no_second e = rw (e₁, rw at_second at e)

    module _ (e₂ : number_then space (drop h₁ t) ≡ true) (x₂ h₂ : ℕ) (s₂ : FieldSays t (drop h₁ t) x₂ h₂) where
      at_third : drop h₂ t ≡ third t
      at_third = s₂.rest.same ∙ rw at_second

      pub line_laid : is_end (drop h₂ t) ≡ is_first_line t
      unfolding is_first_line
      line_laid = rw (at_third, e₁, rw at_second at e₂)

      pub line_says : (count e here : ℕ) → EndSays t (drop h₂ t) count e here → FirstLineSays t x₁ x₂ count e here
      unfolding expander_of after_first_line
      line_says count e here s =
          record {
            n_read = s₁.number_read;
            t_read = s₂.number_read ∙ rw at_second;
            count_is_read = s.count_is_read ∙ rw at_third;
            expander_read = s.expander_read ∙ rw at_third;
            rest = rw (← at_third) s.rest;
          }
