-- Lengths in bytes, and space that is enough for an honest search.
use Rattle.std.specs.Prelude.{ℕ, zero, suc, ◌+◌, ◌*◌, ◌/◌, ◌^◌, min, Bool, cond}
use Rattle.bits.specs.Packing.{packed_length}
use Rattle.tree.specs.SearchRule.{heading_length}

-- what a level with c prefixes of k + 1 bits adds to the record
unfoldable pub level_length : ℕ → ℕ → ℕ
level_length k zero = 0
level_length k (suc c) = 6 + suc c * (packed_length (suc k) + 8)

-- what m levels add below prefixes of k bits if at most w are kept of each length: a query has at most 2 × w prefixes, and never more than there are
unfoldable pub space_from : ℕ → ℕ → ℕ → ℕ
space_from w zero k = 0
space_from w (suc m) k = level_length k (min (2 ^ suc k) (2 * w)) + space_from w m (suc k)

-- how many installations hold a kept prefix, at least: t; in a weighted search ⌈t ÷ 32,767⌉, since a weight is at most 32,767
abbrev pub fewest_holders : Bool → ℕ → ℕ
fewest_holders weighted t = cond weighted ((t + 32766) / 32767) t

-- the record of a search for strings of n bits and C reports where at least h hold each kept prefix: the number of reports, then two prefixes, and at
-- most ⌊C ÷ h⌋ are kept of each length
unfoldable pub record_space : ℕ → ℕ → ℕ → ℕ
record_space zero h C = heading_length
record_space (suc n) h C = heading_length + (level_length 0 2 + space_from (C / h) n 1)

-- its list
unfoldable pub list_space : ℕ → ℕ → ℕ → ℕ
list_space n h C = C / h * packed_length n
