-- What the search rule keeps of a level that stands in the record area.
use Rattle.std.specs.Prelude.{ℕ, List}
use Rattle.bits.specs.Strings.{Bits}
use Rattle.kept.specs.Kept.{reaches_by}
use Rattle.kept.specs.declared.Rule.{Rule}
use Rattle.tree.proofs.Levels.{reaching_at}
use Rattle.levels.specs.declared.Level.{Level}

-- those of the level's prefixes whose totals reach t
abbrev pub reaching_in : Rule → Level → List ℕ → List Bits
reaching_in rule level area = reaching_at (reaches_by rule) level.k area level.count level.from level.place
