-- Honest searches, and what is read of a search: document 01, 'Keys and nodes' and 'Words of demand 3', and document 02, [1].
use Rattle.std.specs.Prelude.{ℕ, ◌*◌, ◌≤◌, ◌<◌, ◌≡◌, true, false, List, [], length, get_or, take, ℤ, pos, ◌≤ℤ◌}
use Rattle.places.specs.Lists.{All}
use Rattle.bits.specs.Strings.{Bits, is_prefix}
use Rattle.places.specs.Places.{Bytes}
use Rattle.bits.specs.Packing.{pack}
use Rattle.calls.specs.Outcome.{Outcome, accepted}
use Rattle.point.specs.PublicShare.{public_share_length}
use Rattle.query.specs.Query.{OfLength}
use Rattle.weights.specs.Weights.{IsWeight, EveryOne, held_weight}
use Rattle.keymaker.specs.Key.{key_outcome}
use Rattle.report_sums.specs.Reports.{seed_at, public_share_at}
use Rattle.search.specs.Search.{Lent, search_number, record_length, list_length, record_after, list_after}

-- each number is a byte, as in every lent slice
abbrev pub AreBytes : List ℕ → Type 0
AreBytes bytes = (i : ℕ) → get_or bytes i 0 < 256

-- accepted: it returns 0
abbrev pub Accepted : Lent → Type 0
Accepted s = search_number s ≡ 0

-- its record: the bytes of the record area at exit, up to the record length that it returns
abbrev pub record_read : Lent → List ℕ
record_read s = take (record_length s) (record_after s)

-- its list: the bytes of the list area at exit, up to the list length that it returns
abbrev pub list_read : Lent → List ℕ
list_read s = take (list_length s) (list_after s)

-- what the key maker gives for the string x and the weight w, with the search's length and expander and the root seeds lent for report i, each
-- server's own, in space for exactly the public share; more space gives the same (`key_made`)
abbrev pub key_at : Lent → Bits → ℤ → ℕ → Outcome
key_at s x w i = key_outcome s.n s.expander w (pack x) (seed_at s.seeds0 i) (seed_at s.seeds1 i) (public_share_length s.n)

-- The reports of a search are honest, made for the strings xs with the weights ws: there are as many as strings, all of n bits, and as many weights,
-- all of 16 bits, and every weight is one where the search is not weighted; the root seeds are bytes; and for each report the public share that each
-- server is lent is what the key maker gave for its string, its weight and its two root seeds.
pub record Honest (s : Lent) (xs : List Bits) (ws : List ℤ) : Type 0 where
  pub n_bits : OfLength s.n xs
  pub weighed : length ws ≡ length xs
  pub weights : All IsWeight ws
  pub unweighted : s.weighted ≡ false → EveryOne ws
  pub seeds0 : Bytes (16 * length xs) s.seeds0
  pub seeds1 : Bytes (16 * length xs) s.seeds1
  pub shares0 : length s.shares0 ≡ public_share_length s.n * length xs
  pub shares1 : length s.shares1 ≡ public_share_length s.n * length xs
  pub made0 : (i : ℕ) → i < length xs → key_at s (get_or xs i []) (get_or ws i (pos 0)) i ≡ accepted (public_share_at s.n s.shares0 i)
  pub made1 : (i : ℕ) → i < length xs → key_at s (get_or xs i []) (get_or ws i (pos 0)) i ≡ accepted (public_share_at s.n s.shares1 i)

-- the strings of the counted reports, of those that are lent for the strings xs: all of them
abbrev pub counted_strings : Lent → List Bits → List Bits
counted_strings s xs = xs

-- their weights
abbrev pub counted_weights : Lent → List ℤ → List ℤ
counted_weights s ws = ws

-- heavy throughout: for every non-empty prefix of x, the weights of those that hold it add to t or more
abbrev pub HeavyThroughout : ℕ → List Bits → List ℤ → Bits → Type 0
HeavyThroughout t xs ws x = (q : Bits) → is_prefix q x ≡ true → 1 ≤ length q → pos t ≤ℤ held_weight xs ws q
