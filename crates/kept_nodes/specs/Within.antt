-- What the loop asks: every turn's places are among the nodes.
use Rattle.std.specs.Prelude.{ℕ, ◌<◌, List}
use Rattle.turns.specs.declared.Task.{Task}
use Rattle.turns.specs.declared.Place.{Place}
use Rattle.turns.specs.Turns.{place_at}

-- every turn from p on reads and writes one of m nodes
abbrev pub Within : Task → List ℕ → List ℕ → List ℕ → Place → ℕ → Type 0
Within t shares last query p m = (s : ℕ) → s < p.left → ((place_at t shares last query p s).source < m) × ((place_at t shares last query p s).target < m)
