-- Computed facts that pin the definitions: a query written, read, passed and refused, and the limit.
use Prim.Native.Nat.{ℕ, ◌*◌}
use mathlib.Core.Path.{◌≡◌, refl}
use mathlib.Core.Bool.{true, false}
use mathlib.Core.List.{List, [], ◌∷◌}
use Rattle.bits.specs.Strings.{Bits}
use Rattle.numbers.specs.Numbers.{big, from_big}
use Rattle.bits.specs.Packing.{value, pack_in, pack, digits, bits_of, unpack, spare_zero}
use Rattle.places.specs.Places.{window}
use Rattle.query.specs.Query.{packs, query, limit, prefix_length, prefix_count, parts, prefixes_of, spares_zero, is_ascending, is_query}

-- opens the definitions that write a query
writes : Unit {0}
unfolding query packs pack pack_in value big
writes = tt

-- opens the definitions that read and check a query
reads : Unit {0}
unfolding is_query parts spares_zero is_ascending spare_zero unpack bits_of digits window from_big
reads = tt

-- two prefixes of 10 bits
abbrev pub long : List Bits
long = (true ∷ false ∷ false ∷ false ∷ false ∷ false ∷ false ∷ true ∷ false ∷ true ∷ []) ∷ (true ∷ true ∷ false ∷ false ∷ false ∷ false ∷ false ∷ false ∷ true ∷ true ∷ []) ∷ []

abbrev pub long_bytes : List ℕ
long_bytes = 0 ∷ 9 ∷ 0 ∷ 0 ∷ 0 ∷ 2 ∷ 129 ∷ 64 ∷ 192 ∷ 192 ∷ []

pub long_query : query 9 long ≡ long_bytes
unfolding writes
long_query = refl

pub long_read : (prefix_length long_bytes ≡ 10) × (prefix_count long_bytes ≡ 2) × (prefixes_of long_bytes ≡ long)
unfolding reads
long_read = (refl, refl, refl)

-- It is a query for strings of 10 bits, and not for shorter ones.
pub long_passes : (is_query 10 long_bytes ≡ true) × (is_query 9 long_bytes ≡ false)
unfolding reads
long_passes = (refl, refl)

-- No prefix, a spare bit set, prefixes not ascending, one of them twice, a byte too few and a byte too many are refused.
pub refused : (is_query 1 (0 ∷ 0 ∷ 0 ∷ 0 ∷ 0 ∷ 0 ∷ []) ≡ false)
    × (is_query 1 (0 ∷ 0 ∷ 0 ∷ 0 ∷ 0 ∷ 1 ∷ 192 ∷ []) ≡ false)
    × (is_query 1 (0 ∷ 0 ∷ 0 ∷ 0 ∷ 0 ∷ 2 ∷ 128 ∷ 0 ∷ []) ≡ false)
    × (is_query 1 (0 ∷ 0 ∷ 0 ∷ 0 ∷ 0 ∷ 2 ∷ 0 ∷ 0 ∷ []) ≡ false)
    × (is_query 1 (0 ∷ 0 ∷ 0 ∷ 0 ∷ 0 ∷ 2 ∷ 0 ∷ []) ≡ false)
    × (is_query 1 (0 ∷ 0 ∷ 0 ∷ 0 ∷ 0 ∷ 2 ∷ 0 ∷ 128 ∷ 0 ∷ []) ≡ false)
unfolding reads
refused = (refl, refl, refl, refl, refl, refl)

-- The limit is twice the most reports.
pub limit_is : limit ≡ 2 * 65535
limit_is = refl
