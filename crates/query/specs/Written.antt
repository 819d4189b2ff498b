-- What is written of one prefix.
use Rattle.std.specs.Prelude.{ℕ, ◌+◌, true, false, cond, List, [], ◌++◌, length, leb}
use Rattle.bits.specs.Strings.{Bits, ◌▹◌}
use Rattle.bits.specs.Packing.{pack}

-- the bytes where they fit into `out` from place `at` on; where they do not, none
unfoldable pub fitting : List ℕ → ℕ → List ℕ → List ℕ
fitting out at bytes = cond (leb (at + length bytes) (length out)) bytes []

-- both children of a prefix, packed, one after the other
abbrev pub both_children : Bits → List ℕ
both_children p = pack (p ▹ false) ++ pack (p ▹ true)
