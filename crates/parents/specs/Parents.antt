-- Document 02, [2]: the prefixes of the last query, and the parent of a prefix.
use Rattle.std.specs.Prelude.{ℕ, suc, ◌-◌, Bool, true, false, cond, List, [], ◌∷◌, ◌≡◌, ◌⊎◌, length, get_or, take, eqb, ltb}
use Rattle.places.specs.Lists.{◌∈◌, how_many}
use Rattle.bits.specs.Strings.{Bits}
use Rattle.query.specs.Query.{IsQuery, is_query, prefixes_of}
use Rattle.tree.specs.SearchRule.{start}
use Rattle.tree.specs.Cut.{is_same, times}

-- the bytes are a last query: a query, or no bytes for the empty prefix alone
abbrev pub IsLast : ℕ → List ℕ → Type 0
IsLast n last = (last ≡ []) ⊎ IsQuery n last

abbrev pub is_last : ℕ → List ℕ → Bool
is_last n [] = true
is_last n (x ∷ xs) = is_query n (x ∷ xs)

-- its prefixes
abbrev pub last_prefixes : List ℕ → List Bits
last_prefixes [] = start
last_prefixes (x ∷ xs) = prefixes_of (x ∷ xs)

-- the parent of a prefix: all of its bits but the last
abbrev pub parent : Bits → Bits
parent q = take (length q - 1) q

-- the last bit
abbrev pub last_bit : Bits → Bool
last_bit q = get_or q (length q - 1) false

-- the place of a prefix among others: how many stand before it
abbrev pub place_in : Bits → List Bits → ℕ
place_in p [] = 0
place_in p (q ∷ qs) = cond (is_same p q) 0 (suc (place_in p qs))

-- a prefix whose parent was not in the last query
abbrev pub ParentMissing : List ℕ → List ℕ → Type 0
ParentMissing last query = (q : Bits) × (q ∈ prefixes_of query) × (parent q ∈ last_prefixes last → ⊥)

abbrev pub parent_missing : List ℕ → List ℕ → Bool
parent_missing last query = ltb 0 (how_many (λ q. eqb (times (parent q) (last_prefixes last)) 0) (prefixes_of query))
