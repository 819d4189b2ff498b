-- Numbers and lists computed: the order of nodes, and the causes of `write_roots` and `share_kept` in their order.
use Prim.Native.Nat.{ℕ}
use mathlib.Core.Path.{◌≡◌, refl}
use mathlib.Core.Bool.{false}
use mathlib.Core.List.{List, [], ◌∷◌}
use lib.ListN.{replicate}
use Rattle.bits.specs.Strings.{Bits}
use Rattle.numbers.specs.Numbers.{from_big, from_little}
use Rattle.bits.specs.Packing.{digits, bits_of, unpack, spare_zero}
use Rattle.places.specs.Places.{window}
use Rattle.point.specs.Node.{Node}
use Rattle.point.specs.PublicShare.{every, payloads_below, spare_bits_zero, read_correction}
use Rattle.query.specs.Query.{parts, spares_zero, is_ascending, is_query}
use Rattle.node_lists.specs.NodeList.{report_by_report, no_node}
use Rattle.node_lists.specs.Roots.{roots_number}
use Rattle.node_lists.specs.ShareKept.{lent}
use Rattle.node_lists.proofs.KeptOutcome.{kept_number}

-- report by report, prefixes in order
by_report : (f : ℕ → Bits → Node) (p q : Bits) → report_by_report 2 f (p ∷ q ∷ []) ≡ f 0 p ∷ f 0 q ∷ f 1 p ∷ f 1 q ∷ []
unfolding report_by_report
by_report f p q = refl

-- two seeds want two nodes
roots_numbers : (roots_number (replicate 32 0) 2 ≡ 0) × (roots_number (replicate 32 0) 1 ≡ 13) × (roots_number (replicate 33 0) 1 ≡ 4)
roots_numbers = (refl, refl, refl)

-- the queries for `0`, for `0` and `1`, and for `10` and `11`
abbrev zero_query : List ℕ
zero_query = 0 ∷ 0 ∷ 0 ∷ 0 ∷ 0 ∷ 1 ∷ 0 ∷ []

abbrev first : List ℕ
first = 0 ∷ 0 ∷ 0 ∷ 0 ∷ 0 ∷ 2 ∷ 0 ∷ 128 ∷ []

abbrev second : List ℕ
second = 0 ∷ 1 ∷ 0 ∷ 0 ∷ 0 ∷ 2 ∷ 128 ∷ 192 ∷ []

-- the number for one report of two bits, whose public share is zero bytes
abbrev number : List ℕ → List ℕ → ℕ → ℕ → ℕ
number last query count room = kept_number (lent 2 2 false (replicate 49 0) last query (replicate count no_node) (replicate room 0))

-- from the roots, and on from there
kept_numbers : (number [] first 2 16 ≡ 0) × (number first second 2 16 ≡ 0)
unfolding is_query parts spares_zero is_ascending spare_zero unpack bits_of digits window from_big from_little every payloads_below spare_bits_zero read_correction
kept_numbers = (refl, refl)

-- 9 before 13 before 14 before 11
kept_order : (number (1 ∷ []) second 1 0 ≡ 9) × (number first (1 ∷ []) 1 0 ≡ 9) × (number zero_query second 1 0 ≡ 13) × (number first zero_query 1 0 ≡ 13)
    × (number zero_query second 2 0 ≡ 14) × (number [] second 2 0 ≡ 14) × (number first first 2 0 ≡ 14) × (number first second 2 15 ≡ 11)
unfolding is_query parts spares_zero is_ascending spare_zero unpack bits_of digits window from_big from_little every payloads_below spare_bits_zero read_correction
kept_order = (refl, refl, refl, refl, refl, refl, refl, refl)
