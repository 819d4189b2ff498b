-- The call `add_shares`: two shares added, meant for two of one server for one query.
use Rattle.std.specs.Prelude.{ℕ, List, [], ◌∷◌, length}
use Rattle.numbers.specs.Numbers.{in_bytes}
use Rattle.calls.specs.Bounds.{space_cause}
use Rattle.calls.specs.Causes.{Cause, cause}
use Rattle.calls.specs.Outcome.{Outcome, judged, Exit, exit}
use Rattle.group.specs.Modular.{field}
use Rattle.shares.specs.ShareNumbers.{numbers, added, Unmatched, unmatched, numbers_cause}

-- the causes: the shares do not match; a number of one of them is p or more; a share would not fit
abbrev pub add_causes : List ℕ → List ℕ → ℕ → List Cause
add_causes share0 share1 room = cause 4 (Unmatched share0 share1) (unmatched share0 share1) ∷ numbers_cause share0 share1 ∷ space_cause (length share0) room ∷ []

-- for each place the sum of the two numbers in the group, 8 bytes each
abbrev pub add_bytes : List ℕ → List ℕ → List ℕ
add_bytes share0 share1 = in_bytes (added field (numbers share0) (numbers share1))

-- the outcome
unfoldable pub add_outcome : List ℕ → List ℕ → ℕ → Outcome
add_outcome share0 share1 room = judged (add_causes share0 share1 room) (add_bytes share0 share1)

-- what the call returns, and the space that it is lent, at exit
abbrev pub add_exit : List ℕ → List ℕ → List ℕ → Exit
add_exit share0 share1 area = exit (add_outcome share0 share1 (length area)) area
