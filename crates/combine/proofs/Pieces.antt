-- The kept prefixes of a query, one after the other, with their totals from two shares.
use Prim.Native.Nat.{ℕ, ◌+◌, ◌-◌, ◌*◌, ◌/◌, ◌≤◌, ◌<◌}
use native.Mathlib.Omega.{arith}
use mathlib.Core.Path.{◌≡◌}
use mathlib.Core.Bool.{Bool, true, cond}
use mathlib.Core.List.{List, [], ◌++◌}
use lib.ListN.{length, get_or, take, drop}
use Rattle.bits.specs.Strings.{Bits}
use Rattle.bits.specs.Packing.{packed_length, spare_zero}
use Rattle.bits.proofs.Packed.{pack_unpack}
use Rattle.query.specs.Query.{packs, parts, prefix_length, prefix_count, packed_prefixes, spares_zero}
use Rattle.query.specs.Prefix.{part}
use Rattle.query.proofs.Parts.{part_bytes}
use Rattle.kept.proofs.Onward as pieces
use Rattle.shares.proofs.Numbers.{added_at, added_from, added_step}
use Rattle.combine.specs.Combine.{passing}

-- ---- those of m prefixes of len bits, w bytes each, from a place of the query on that pass, with their totals from a place of the shares on

module _ (passes : ℕ → Bool) (len : ℕ) (q s0 s1 : List ℕ) where
  abbrev pub kept_from : ℕ → ℕ → ℕ → List Bits
  kept_from m from place = pieces.kept_at passes len q m from (added_from s0 s1 m place)

  module _ (w : ℕ) (f : w ≡ packed_length len) (m from place : ℕ) (h : 0 < m) (room0 : place + 8 ≤ length s0) (room1 : place + 8 ≤ length s1) (b : Bool)
      (e : b ≡ passes (added_at s0 s1 place)) where
    abbrev rest : List Bits
    rest = kept_from (m - 1) (from + w) (place + 8)

    -- what is due to the first of them, and what is left
    pub onward_step : (last : Bool) → ((i : ℕ) → get_or q i 0 < 256) → from + w ≤ length q → spare_zero len (take w (drop from q)) ≡ true
        → packs (pieces.onward last (kept_from m from place)) ≡ cond b (pieces.onward_bytes last len (part w from q)) [] ++ packs (pieces.onward last rest)
    onward_step last byte room z =
        rw (added_step s0 s1 m place h room0 room1)
        (pieces.onward_step passes len q w f m from h _ _ b e last room (pack_unpack len (take w (drop from q)) (rw (← f) (part_bytes w from q byte room)) z))

-- ---- all prefixes of a query

module _ (q : List ℕ) (len w m : ℕ) (el : len ≡ prefix_length q) (ew : w ≡ packed_length len) (em : m ≡ prefix_count q) where
  pub query_room : 6 + prefix_count q * packed_length (prefix_length q) ≤ length q → 6 + m * w ≤ length q
  query_room h = rw (ew, em, el) h

  pub query_spares : spares_zero (prefix_length q) (packed_prefixes q) ≡ true → spares_zero len (parts w m (drop 6 q)) ≡ true
  query_spares h = rw (ew, em, el) h

  pub kept_whole : (passes : ℕ → Bool) (s0 s1 : List ℕ) → length s0 ≡ 8 * prefix_count q → length s1 ≡ 8 * prefix_count q
      → passing passes q s0 s1 ≡ kept_from passes len q s0 s1 m 6 0
  kept_whole passes s0 s1 l0 l1 =
      let m0 : length s0 / 8 ≡ prefix_count q = omega arith in
      let m1 : length s1 / 8 ≡ prefix_count q = omega arith in
      rw (m0, m1, em, el)
