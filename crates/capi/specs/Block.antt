-- The call `tally_block`: one block of a seed, for those who compare expanders.
use Rattle.std.specs.Prelude.{ℕ, not, List, [], ◌∷◌, ◌≢◌, length, eqb}
use Rattle.calls.specs.Bounds.{expander_cause, space_cause}
use Rattle.calls.specs.Causes.{Cause, cause}
use Rattle.calls.specs.Outcome.{Outcome, judged, Exit, exit}
use Rattle.expander.specs.Expander.{block_of, choice_of, under}

-- the causes: the expander is not 1 or 2; the seed has the wrong length; the block would not fit
abbrev pub block_causes : ℕ → List ℕ → ℕ → List Cause
block_causes e seed room = expander_cause e ∷ cause 4 (length seed ≢ 16) (not (eqb (length seed) 16)) ∷ space_cause 16 room ∷ []

-- the outcome: the block under the chosen expander, unless a cause applies
unfoldable pub block_outcome : ℕ → List ℕ → ℕ → ℕ → Outcome
block_outcome e seed j room = judged (block_causes e seed room) (under (choice_of e) (λ x. block_of x seed j))

-- what the call returns, and the space that it is lent, at exit
abbrev pub block_exit : ℕ → List ℕ → ℕ → List ℕ → Exit
block_exit e seed j area = exit (block_outcome e seed j (length area)) area
