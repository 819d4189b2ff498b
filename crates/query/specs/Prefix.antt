-- One prefix of a query, read in place.
use Rattle.std.specs.Prelude.{ℕ, ◌+◌, ◌*◌, cond, List, [], length, take, drop, leb}
use Rattle.bits.specs.Packing.{packed_length}
use Rattle.query.specs.Query.{prefix_length}

-- the w bytes from place `at` on; no bytes where the list does not hold them all
unfoldable pub part : ℕ → ℕ → List ℕ → List ℕ
part w at bytes = cond (leb (at + w) (length bytes)) (take w (drop at bytes)) []

-- prefix i of a query, packed, whatever the count says
abbrev pub packed_prefix : List ℕ → ℕ → List ℕ
packed_prefix bytes i = part (packed_length (prefix_length bytes)) (6 + i * packed_length (prefix_length bytes)) bytes
