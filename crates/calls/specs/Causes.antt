-- What a call refuses with, and which number is due: document 01, 'Causes of refusal'.
use Rattle.std.specs.Prelude.{ℕ, ◌≡◌, Bool, cond, List, [], ◌∷◌, ◌⊎◌}

-- A cause of refusal: its number, the condition under which it applies, and the test that decides it.
pub record Cause : Type 1 where
  pub number : ℕ
  pub Applies : Type 0
  pub test : Bool

abbrev pub cause : ℕ → Type 0 → Bool → Cause
cause k P b = record { number = k; Applies = P; test = b }

-- the number of a call whose causes stand in the order in which they are judged: that of the first whose test is true, or 0
abbrev pub number_due : List Cause → ℕ
number_due [] = 0
number_due (c ∷ cs) = cond c.test c.number (number_due cs)

-- k is due: it is the number of the first cause that applies, or 0 where none does
abbrev pub Due : List Cause → ℕ → Type 0
Due [] k = k ≡ 0
Due (c ∷ cs) k = (c.Applies × (k ≡ c.number)) ⊎ ((c.Applies → ⊥) × Due cs k)
