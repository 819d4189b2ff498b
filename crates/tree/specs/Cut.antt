-- Document 01, 'Words of demand 3', and demand 3's own: honest searches, cut strings, rearrangements.
use Rattle.std.specs.Prelude.{ℕ, ◌≤◌, ◌≡◌, Bool, true, false, cond, ◌&&◌, List, [], ◌∷◌, map, length, ltb}
use Rattle.std.specs.Bool.{beq}
use Rattle.places.specs.Lists.{how_many}
use Rattle.bits.specs.Strings.{Bits, count}
use Rattle.kept.specs.Kept.{reaches}
use Rattle.tree.specs.SearchRule.{search_record, search_list, search_fits}

-- ---- honest searches: each of the strings xs is held by one installation, and the total of a prefix is the number of strings that have it;
-- that honest reports have these totals is shown in `honest` (`honest_total`)

-- heavy: at least t installations hold s
abbrev pub Heavy : ℕ → List Bits → Bits → Type 0
Heavy t xs s = t ≤ count xs s

-- the record
abbrev pub honest_record : ℕ → ℕ → List Bits → List ℕ
honest_record n t xs = search_record (reaches t) (count xs) (length xs) n

-- the list
abbrev pub honest_list : ℕ → ℕ → List Bits → List Bits
honest_list n t xs = search_list (reaches t) (count xs) n

-- whether no query passes the limit
abbrev pub honest_fits : ℕ → ℕ → List Bits → Bool
honest_fits n t xs = search_fits (reaches t) (count xs) n

-- ---- cut strings

-- the non-empty prefixes of s, the shortest first, s itself last
abbrev pub prefixes : Bits → List Bits
prefixes [] = []
prefixes (b ∷ s) = (b ∷ []) ∷ map (λ q. b ∷ q) (prefixes s)

-- the first of the strings that passes the test, or s if there is none
abbrev pub first : (Bits → Bool) → Bits → List Bits → Bits
first f s [] = s
first f s (q ∷ qs) = cond (f q) q (first f s qs)

-- cut string: the shortest non-empty prefix of s that fewer than t of the strings have, or s whole if there is none
unfoldable pub cut : ℕ → List Bits → Bits → Bits
cut t xs s = first (λ q. ltb (count xs q) t) s (prefixes s)

-- the cut strings of a collection
abbrev pub cuts : ℕ → List Bits → List Bits
cuts t xs = map (cut t xs) xs

-- ---- rearrangements

-- whether two strings are the same
abbrev pub is_same : Bits → Bits → Bool
is_same [] [] = true
is_same [] (c ∷ s) = false
is_same (b ∷ q) [] = false
is_same (b ∷ q) (c ∷ s) = beq b c && is_same q s

-- how often s stands in the list
abbrev pub times : Bits → List Bits → ℕ
times s xs = how_many (is_same s) xs

-- rearrangements of each other: every string, of whatever length, stands in both equally often
abbrev pub Rearranged : List Bits → List Bits → Type 0
Rearranged xs ys = (s : Bits) → times s xs ≡ times s ys
