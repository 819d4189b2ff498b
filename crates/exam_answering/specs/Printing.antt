-- The same answer, printed from the bytes of a record and of a list.
use Rattle.std.specs.Prelude.{ℕ, zero, suc, ◌+◌, ◌*◌, ◌/◌, cond, List, [], ◌++◌, length, take, drop, eqb}
use Rattle.numbers.specs.Numbers.{from_little}
use Rattle.bits.specs.Packing.{packed_length, unpack}
use Rattle.query.specs.Query.{prefix_length, prefix_count}
use Rattle.tree.specs.SearchRule.{heading_length}
use Rattle.exam_lines.specs.Lines.{prefix_line, heavy_line}

-- the lines of c prefixes of k bits, packed one after the other in ps, whose totals are in ts
unfoldable pub entry_lines : ℕ → ℕ → List ℕ → List ℕ → List ℕ
entry_lines k zero ps ts = []
entry_lines k (suc c) ps ts = prefix_line (unpack k (take (packed_length k) ps)) (from_little (take 8 ts)) ++ entry_lines k c (drop (packed_length k) ps) (drop 8 ts)

-- how long the query is with which the bytes begin; and with its totals
abbrev pub query_length : List ℕ → ℕ
query_length bytes = 6 + prefix_count bytes * packed_length (prefix_length bytes)

abbrev pub round_length : List ℕ → ℕ
round_length bytes = query_length bytes + prefix_count bytes * 8

-- the lines of at most m queries, each followed by its totals
unfoldable pub rounds_lines : ℕ → List ℕ → List ℕ
rounds_lines zero bytes = []
rounds_lines (suc m) bytes =
    cond (eqb (length bytes) 0) []
    (entry_lines (prefix_length bytes) (prefix_count bytes) (drop 6 bytes) (drop (query_length bytes) bytes) ++ rounds_lines m (drop (round_length bytes) bytes))

-- the lines of c heavy strings of n bits, packed one after the other
unfoldable pub list_lines : ℕ → ℕ → List ℕ → List ℕ
list_lines n zero bytes = []
list_lines n (suc c) bytes = heavy_line (unpack n (take (packed_length n) bytes)) ++ list_lines n c (drop (packed_length n) bytes)

-- what is printed of a search for strings of n bits that left this record and this list: the lines of the record from its first query on, without the
-- number of reports, and those of the list
unfoldable pub printed : ℕ → List ℕ → List ℕ → List ℕ
printed n recorded listed = rounds_lines n (drop heading_length recorded) ++ list_lines n (length listed / packed_length n) listed
