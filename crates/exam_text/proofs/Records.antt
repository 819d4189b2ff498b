-- The bytes of a search's record, for contracts that are not published.
use Prim.Native.Nat.{ℕ, zero, suc, ◌≤◌}
use mathlib.Core.Path.{◌≡◌}
use mathlib.Core.List.{List}
use mathlib.Core.Logic.{◌⊎◌}
use lib.ListN.{length, drop}
use Rattle.query.specs.Query.{prefix_length}

-- the bytes are at most m queries, of prefixes of at most 256 bits, each followed by its totals; `size` tells how long the first is with them
abbrev pub Rounds : (List ℕ → ℕ) → ℕ → List ℕ → Type 0
Rounds size zero bytes = length bytes ≡ 0
Rounds size (suc m) bytes = (length bytes ≡ 0) ⊎ ((prefix_length bytes ≤ 256) × (size bytes ≤ length bytes) × Rounds size m (drop (size bytes) bytes))
