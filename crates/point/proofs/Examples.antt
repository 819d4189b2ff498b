-- Computed facts that pin the definitions: the sheet's A, B, C, H and I, and a key of two levels under two block functions.
use mathlib.Core.Path.{◌≡◌, refl}
use mathlib.Core.Bool.{Bool, true, false, xor}
use mathlib.Core.List.{List, [], ◌∷◌, ◌++◌}
use Prim.Native.Nat.{ℕ, ◌+◌, ◌-◌, ◌*◌, ◌/◌, ◌^◌}
use lib.ListN.{replicate}
use Rattle.numbers.specs.Numbers.{little, from_little}
use Rattle.places.specs.Places.{window}
use Rattle.bits.specs.Strings.{Bits}
use Rattle.group.specs.Modular.{p}
use Rattle.expander.specs.Expander.{classroom_block, xor_bytes}
use Rattle.expander.specs.declared.Expander.TheVariants.{Classroom}
use Rattle.point.specs.Scheme.{Scheme}
use Rattle.point.specs.Node.{control_bit, cleared, child, final, payload_of}
use Rattle.point.specs.Correction.{corrected, corrected_child}
use Rattle.point.specs.Keys.{seed_correction, left_correction, right_correction, kept_child, payload_correction, correction, key_node, key_correction}
use Rattle.point.specs.Evaluation.{descend, corrected_payload, share_below, node, share}
use Rattle.point.specs.PublicShare.{joined, lowest_first, level_bit, control_byte, level_bytes, public_share, read_correction, every, payloads_below, spare_bits_zero}
use Rattle.point.specs.Totals.{Report, sum_of, report_correction, report_share, server_total, reports_total, report_public_share}
use Rattle.point.specs.Instance.{field_scheme, scheme}

-- Naming `computes` on an `unfolding` line opens every definition that the examples run through.
computes : Unit {0}
unfolding xor xor_bytes little from_little window classroom_block control_bit cleared child final payload_of corrected corrected_child seed_correction left_correction right_correction kept_child payload_correction correction key_node key_correction descend corrected_payload share_below node share joined lowest_first level_bit control_byte level_bytes public_share read_correction every payloads_below spare_bits_zero sum_of report_correction report_share server_total reports_total report_public_share field_scheme
computes = tt

-- ---- the sheet of document 01, under expander 2

classroom : Scheme ℕ
classroom = scheme Classroom

nought : List ℕ
nought = replicate 16 0

unit : List ℕ
unit = 1 ∷ replicate 15 0

report_a : Report ℕ
report_a = record { string = true ∷ []; seed0 = nought; seed1 = unit; weight = 1 }

A : report_public_share classroom 1 report_a ≡ 1 ∷ (2 ∷ replicate 7 0 ++ 3 ∷ replicate 7 0 ++ 1 ∷ replicate 7 0)
unfolding computes classroom nought unit report_a
A = refl

-- the shares of server 0 and of server 1 at each prefix
shares : Scheme ℕ → Report ℕ → List Bits → List ℕ
shares S r [] = []
shares S r (q ∷ qs) = report_share S false q r ∷ report_share S true q r ∷ shares S r qs

B : shares classroom report_a ((true ∷ []) ∷ []) ≡ 6 ∷ (p - 5) ∷ []
unfolding computes classroom nought unit report_a shares
B = refl

C : shares classroom report_a ((false ∷ []) ∷ []) ≡ 5 ∷ (p - 5) ∷ []
unfolding computes classroom nought unit report_a shares
C = refl

report_h : Report ℕ
report_h = record { string = true ∷ []; seed0 = nought; seed1 = nought; weight = 1 }

H : (reports_total classroom (true ∷ []) (report_h ∷ []) ∷ reports_total classroom (false ∷ []) (report_h ∷ []) ∷ []) ≡ 1 ∷ 0 ∷ []
unfolding computes classroom nought report_h
H = refl

-- whether A with another payload correction passes cause 6
passes : ℕ → Bool
passes x = payloads_below p 1 (1 ∷ (replicate 16 0 ++ little 8 x))

I : (passes (p - 1) ∷ passes p ∷ []) ≡ true ∷ false ∷ []
unfolding computes passes
I = refl

-- whether a public share of two levels with this control byte passes cause 7
spare : ℕ → Bool
spare x = spare_bits_zero 2 (x ∷ replicate 48 0)

spare_bits : (spare 15 ∷ spare 16 ∷ []) ≡ true ∷ false ∷ []
unfolding computes spare
spare_bits = refl

-- ---- a key of two levels

-- a block function in general position
toy_block : List ℕ → ℕ → List ℕ
toy_block s j = little 16 ((from_little s + 257 * j + 1) ^ 3 / 2 ^ 20)

toy : Scheme ℕ
toy = field_scheme toy_block

report2 : Report ℕ
report2 = record {
  string = false ∷ true ∷ [];
  seed0 = 3 ∷ 14 ∷ 15 ∷ 92 ∷ 65 ∷ 35 ∷ 89 ∷ 79 ∷ 32 ∷ 38 ∷ 46 ∷ 26 ∷ 43 ∷ 38 ∷ 32 ∷ 79 ∷ [];
  seed1 = 2 ∷ 71 ∷ 82 ∷ 81 ∷ 82 ∷ 84 ∷ 59 ∷ 4 ∷ 52 ∷ 35 ∷ 36 ∷ 2 ∷ 87 ∷ 47 ∷ 13 ∷ 52 ∷ [];
  weight = 1;
}

classroom_share : report_public_share classroom 2 report2
    ≡ (10
    ∷ 0 ∷ 73 ∷ 93 ∷ 13 ∷ 19 ∷ 119 ∷ 98 ∷ 75 ∷ 29 ∷ 94 ∷ 75 ∷ 37 ∷ 197 ∷ 202 ∷ 49 ∷ 166
    ∷ 1 ∷ 0 ∷ 0 ∷ 0 ∷ 0 ∷ 0 ∷ 0 ∷ 0
    ∷ 14 ∷ 0 ∷ 0 ∷ 0 ∷ 0 ∷ 0 ∷ 0 ∷ 0 ∷ 6 ∷ 0 ∷ 0 ∷ 0 ∷ 0 ∷ 0 ∷ 0 ∷ 0
    ∷ 1 ∷ 0 ∷ 0 ∷ 0 ∷ 0 ∷ 0 ∷ 0 ∷ 0 ∷ [])
unfolding computes classroom report2
classroom_share = refl

toy_share : report_public_share toy 2 report2
    ≡ (3
    ∷ 14 ∷ 162 ∷ 247 ∷ 171 ∷ 71 ∷ 142 ∷ 90 ∷ 86 ∷ 6 ∷ 179 ∷ 253 ∷ 34 ∷ 249 ∷ 225 ∷ 214 ∷ 35
    ∷ 31 ∷ 178 ∷ 188 ∷ 4 ∷ 208 ∷ 126 ∷ 233 ∷ 80
    ∷ 182 ∷ 172 ∷ 235 ∷ 39 ∷ 120 ∷ 212 ∷ 228 ∷ 47 ∷ 109 ∷ 215 ∷ 118 ∷ 147 ∷ 189 ∷ 184 ∷ 67 ∷ 76
    ∷ 9 ∷ 224 ∷ 248 ∷ 11 ∷ 39 ∷ 105 ∷ 183 ∷ 90 ∷ [])
unfolding computes toy toy_block report2
toy_share = refl

toy_shares : shares toy report2 ((false ∷ false ∷ []) ∷ (false ∷ true ∷ []) ∷ (true ∷ true ∷ []) ∷ [])
    ≡ 10292371267886374429 ∷ 8154372801528209892 ∷ 9425212311546474321 ∷ 9021531757868110001 ∷ 14191365022970699618 ∷ 4255379046443884703 ∷ []
unfolding computes toy toy_block report2 shares
toy_shares = refl
