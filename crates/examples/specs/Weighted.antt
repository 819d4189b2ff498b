-- Examples of weighted searches as one table: document 02, [1] and [4].
use Rattle.std.specs.Prelude.{ℕ, ◌-◌, ◌≤◌, ◌≡◌, true, List, [], ◌∷◌, ◌++◌, length, ℤ, pos, negsuc}
use Rattle.bits.specs.Strings.{Bits}
use Rattle.numbers.specs.Numbers.{little}
use Rattle.expander.specs.Expander.{is_expander}
use Rattle.group.specs.Modular.{modulus}
use Rattle.weights.specs.Weights.{held_weight}
use Rattle.query.specs.Query.{packs}
use Rattle.combine.specs.Combine.{combine_outcome}
use Rattle.search.specs.Search.{Lent, threshold_of, search_number}
use Rattle.honest.specs.Honest.{Accepted, record_read, list_read, Honest}
use Rattle.examples.specs.Marked.{head_of, s00, s01, s10, s11}

-- A row of the table.
pub data WeightedRow : Type 0 where
  -- n, t, strings and their weights, and the record and the list that every accepted weighted search of honest reports for them leaves, whatever its
  -- seeds and expander
  weighted_search : ℕ → ℕ → List Bits → List ℤ → List ℕ → List Bits → WeightedRow
  -- n, t, strings and their weights, and how many bytes of the record area and of the list area are enough that every such search with the expander 1 or 2
  -- is accepted
  accepted_in : ℕ → ℕ → List Bits → List ℤ → ℕ → ℕ → WeightedRow
  -- strings and their weights, a prefix, and what the weights of its holders add to
  held_at : List Bits → List ℤ → Bits → ℤ → WeightedRow
  -- t, and the number of every weighted search, and of every combining in one, with this threshold whose n is within its bounds
  refused_with : ℕ → ℕ → WeightedRow

-- what a row says
abbrev pub WeightedHolds : WeightedRow → Type 0
WeightedHolds (weighted_search n t xs ws bytes ss) =
    (s : Lent) → Honest s xs ws → s.weighted ≡ true → s.n ≡ n → threshold_of s ≡ t → Accepted s → (record_read s ≡ bytes) × (list_read s ≡ packs ss)
WeightedHolds (accepted_in n t xs ws room list_room) =
    (s : Lent) → Honest s xs ws → s.weighted ≡ true → s.n ≡ n → threshold_of s ≡ t → is_expander s.expander ≡ true
    → room ≤ length s.record_area → list_room ≤ length s.list_area → Accepted s
WeightedHolds (held_at xs ws q z) = held_weight xs ws q ≡ z
WeightedHolds (refused_with t number) =
    ((s : Lent) → s.weighted ≡ true → 1 ≤ s.n → s.n ≤ 256 → threshold_of s ≡ t → search_number s ≡ number)
    × ((n : ℕ) (query share0 share1 : List ℕ) (room : ℕ) → 1 ≤ n → n ≤ 256 → (combine_outcome n true t query share0 share1 room).number ≡ number)

-- `00`, `01`, `10` and `11`, which save −7, 5, 3 and −1
abbrev pub savers : List Bits
savers = s00 ∷ s01 ∷ s10 ∷ s11 ∷ []

abbrev pub savings : List ℤ
savings = negsuc 6 ∷ pos 5 ∷ pos 3 ∷ negsuc 0 ∷ []

-- what follows the number of reports in a record of one level: `0` and `1` with their totals
abbrev pub one_level : ℕ → ℕ → List ℕ
one_level a b = (0 ∷ 0 ∷ 0 ∷ 0 ∷ 0 ∷ 2 ∷ 0 ∷ 128 ∷ []) ++ little 8 a ++ little 8 b

-- what follows the number of reports in a record of two levels: `0` and `1` with their totals, then `10` and `11` with theirs
abbrev pub two_levels_of1 : ℕ → ℕ → ℕ → ℕ → List ℕ
two_levels_of1 a b c d =
    one_level a b ++ (0 ∷ 1 ∷ 0 ∷ 0 ∷ 0 ∷ 2 ∷ 128 ∷ 192 ∷ []) ++ little 8 c ++ little 8 d

-- the examples
abbrev pub weighted_table : List WeightedRow
weighted_table =
    -- negative totals stand in the record as group numbers, and `01` is not in the list, heavy under a light parent
    weighted_search 2 2 savers savings (head_of 4 ++ two_levels_of1 (modulus - 2) 2 3 (modulus - 1)) (s10 ∷ [])
    ∷ accepted_in 2 2 savers savings 74 4
    ∷ held_at savers savings s01 (pos 5)
    ∷ held_at savers savings (true ∷ []) (pos 2)
    -- the greatest threshold is reached by no two weights
    ∷ weighted_search 1 2147483647 ((true ∷ []) ∷ (true ∷ []) ∷ []) (pos 32767 ∷ pos 32767 ∷ [])
    (head_of 2 ++ one_level 0 65534) []
    ∷ accepted_in 1 2147483647 ((true ∷ []) ∷ (true ∷ []) ∷ []) (pos 32767 ∷ pos 32767 ∷ []) 32 0
    -- where weights cancel, the number of reports is all that tells these from none
    ∷ weighted_search 1 1 ((true ∷ []) ∷ (true ∷ []) ∷ []) (pos 5 ∷ negsuc 4 ∷ []) (head_of 2 ++ one_level 0 0) []
    ∷ weighted_search 1 1 [] [] (head_of 0 ++ one_level 0 0) []
    -- the bounds of a weighted threshold
    ∷ refused_with 0 12
    ∷ refused_with 2147483648 12
    ∷ []
