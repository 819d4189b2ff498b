-- Document 01, 'Query': the prefixes that two servers are asked about, as bytes.
use Rattle.std.specs.Prelude.{ℕ, zero, suc, ◌+◌, ◌*◌, ◌≤◌, ◌<◌, ◌≡◌, Bool, true, false, ◌&&◌, List, [], ◌∷◌, ◌++◌, map, length, take, drop, leb, eqb}
use Rattle.places.specs.Lists.{All}
use Rattle.bits.specs.Strings.{Bits, ◌▹◌, is_before, Ascending}
use Rattle.numbers.specs.Numbers.{big, from_big}
use Rattle.bits.specs.Packing.{packed_length, pack, unpack, spare_zero}
use Rattle.places.specs.Places.{window}

-- strings of n bits each
abbrev pub OfLength : ℕ → List Bits → Type 0
OfLength n ss = All (λ s. length s ≡ n) ss

-- strings packed, one after the other: the prefixes of a query, and the heavy strings of a list
unfoldable pub packs : List Bits → List ℕ
packs [] = []
packs (s ∷ ss) = pack s ++ packs ss

-- A query: 2 bytes, the prefix length minus one, which is k here; 4 bytes, the count; the prefixes.
unfoldable pub query : ℕ → List Bits → List ℕ
query k qs = big 2 k ++ (big 4 (length qs) ++ packs qs)

-- both children of each prefix, in order; those of the empty prefix are `0` and `1`
abbrev pub children : List Bits → List Bits
children [] = []
children (p ∷ ps) = p ▹ false ∷ p ▹ true ∷ children ps

-- the most prefixes in one query
abbrev pub limit : ℕ
limit = 131070

-- The bytes are a query for strings of n bits: they are what `query` writes for 1 to 131,070 strictly ascending prefixes of one length from 1 to n.
pub record IsQuery (n : ℕ) (bytes : List ℕ) : Type 0 where
  pub k : ℕ
  pub prefixes : List Bits
  pub not_longer : suc k ≤ n
  pub in_field : k < 65536
  pub one_length : OfLength (suc k) prefixes
  pub some : 1 ≤ length prefixes
  pub not_more : length prefixes ≤ limit
  pub ascending : Ascending prefixes
  pub written : bytes ≡ query k prefixes

-- ---- the same, read from bytes

-- the prefix length, one more than the first field
abbrev pub prefix_length : List ℕ → ℕ
prefix_length bytes = suc (from_big (window 2 0 bytes))

-- the count
abbrev pub prefix_count : List ℕ → ℕ
prefix_count bytes = from_big (window 4 2 bytes)

-- m parts of w bytes each
unfoldable pub parts : ℕ → ℕ → List ℕ → List (List ℕ)
parts w zero bytes = []
parts w (suc m) bytes = take w bytes ∷ parts w m (drop w bytes)

-- the prefixes, packed
abbrev pub packed_prefixes : List ℕ → List (List ℕ)
packed_prefixes bytes = parts (packed_length (prefix_length bytes)) (prefix_count bytes) (drop 6 bytes)

-- the prefixes
abbrev pub prefixes_of : List ℕ → List Bits
prefixes_of bytes = map (unpack (prefix_length bytes)) (packed_prefixes bytes)

-- whether the spare bits of each packed string of n bits are zero
unfoldable pub spares_zero : ℕ → List (List ℕ) → Bool
spares_zero n [] = true
spares_zero n (s ∷ ss) = spare_zero n s && spares_zero n ss

-- whether each string stands before the next
unfoldable pub is_ascending : List Bits → Bool
is_ascending [] = true
is_ascending (p ∷ []) = true
is_ascending (p ∷ q ∷ ps) = is_before p q && is_ascending (q ∷ ps)

-- whether the bytes are a query for strings of n bits; if not, cause 9 applies
unfoldable pub is_query : ℕ → List ℕ → Bool
is_query n bytes =
    leb (prefix_length bytes) n
    && leb 1 (prefix_count bytes)
    && leb (prefix_count bytes) limit
    && eqb (length bytes) (6 + prefix_count bytes * packed_length (prefix_length bytes))
    && spares_zero (prefix_length bytes) (packed_prefixes bytes)
    && is_ascending (prefixes_of bytes)
