-- Document 01, 'The search': the search rule, over any totals and any test of a total; document 02, [4]: the record begins with the number of reports.
use Rattle.std.specs.Prelude.{ℕ, zero, suc, ◌<◌, ◌≡◌, Bool, true, ◌&&◌, List, [], ◌∷◌, ◌++◌, map, length, leb}
use Rattle.places.specs.Lists.{select}
use Rattle.bits.specs.Strings.{Bits}
use Rattle.numbers.specs.Numbers.{big, in_bytes}
use Rattle.query.specs.Query.{query, children, limit}

-- the empty prefix, from which a search goes down
abbrev pub start : List Bits
start = [] ∷ []

-- the totals of prefixes, 8 bytes each
abbrev pub totals : (Bits → ℕ) → List Bits → List ℕ
totals T qs = in_bytes (map T qs)

-- What one level adds to the record: the query for prefixes of k + 1 bits, followed by its totals. Where no prefix is left, nothing is asked.
abbrev pub level : (Bits → ℕ) → ℕ → List Bits → List ℕ
level T k [] = []
level T k (q ∷ qs) = query k (q ∷ qs) ++ totals T (q ∷ qs)

-- These go m levels down from the kept prefixes ps, of k bits each; `keeps` tells which prefixes are kept.
module _ (keeps : Bits → Bool) where
  -- the prefixes kept after m levels
  abbrev pub kept_from : ℕ → List Bits → List Bits
  kept_from zero ps = ps
  kept_from (suc m) ps = kept_from m (select keeps (children ps))

  -- whether every query is within the limit
  abbrev pub fits_from : ℕ → List Bits → Bool
  fits_from zero ps = true
  fits_from (suc m) ps = leb (length (children ps)) limit && fits_from m (select keeps (children ps))

  -- what the levels add to the record
  abbrev pub record_from : (Bits → ℕ) → ℕ → ℕ → List Bits → List ℕ
  record_from T zero k ps = []
  record_from T (suc m) k ps = level T k (children ps) ++ record_from T m (suc k) (select keeps (children ps))

-- what stands before the first query in the record of C reports: C as 8 bytes, big-endian
abbrev pub heading : ℕ → List ℕ
heading C = big 8 C

-- how many bytes that is
abbrev pub heading_length : ℕ
heading_length = 8

-- A search for strings of n bits with the totals T; `enough` tells whether a total is at least the threshold.
module _ (enough : ℕ → Bool) (T : Bits → ℕ) where
  -- kept: a prefix whose total is at least the threshold
  abbrev pub is_kept : Bits → Bool
  is_kept q = enough (T q)

  -- the record of a search over C reports
  unfoldable pub search_record : ℕ → ℕ → List ℕ
  search_record C n = heading C ++ record_from is_kept T n 0 start

  -- the list: the kept prefixes of n bits
  unfoldable pub search_list : ℕ → List Bits
  search_list n = kept_from is_kept n start

  -- whether no query passes the limit
  unfoldable pub search_fits : ℕ → Bool
  search_fits n = fits_from is_kept n start

  -- ended: before length n, nothing is kept
  abbrev pub Ended : ℕ → Type 0
  Ended n = (k : ℕ) × (k < n) × (kept_from is_kept k start ≡ [])
