-- Computed facts that pin the definitions: the first query, cut strings, searches that end, the number of reports in the record, and space.
use Prim.Native.Nat.{zero, suc}
use native.Mathlib.Omega.{arith}
use mathlib.Core.Path.{◌≡◌, refl, ap}
use mathlib.Core.Bool.{true, false}
use mathlib.Core.List.{List, [], ◌∷◌, ◌++◌}
use lib.ListN.{length, replicate}
use lib.Dec.{leb}
use Rattle.bits.specs.Strings.{Bits, count}
use Rattle.numbers.specs.Numbers.{big}
use Rattle.query.specs.Query.{children}
use Rattle.tree.specs.SearchRule.{start, heading, Ended}
use Rattle.tree.specs.Cut.{cut, cuts, Rearranged}
use Rattle.tree.specs.Space.{level_length, space_from, fewest_holders, record_space, list_space}

abbrev pub s00 : Bits
s00 = false ∷ false ∷ []

abbrev pub s01 : Bits
s01 = false ∷ true ∷ []

abbrev pub s11 : Bits
s11 = true ∷ true ∷ []

-- the strings of the examples
abbrev pub strings_d : List Bits
strings_d = s01 ∷ s01 ∷ s11 ∷ []

abbrev pub strings_f : List Bits
strings_f = s01 ∷ s00 ∷ s11 ∷ []

-- ---- examples of document 01

-- The first query is `0`, `1`.
pub first_query_lem : children start ≡ (false ∷ []) ∷ (true ∷ []) ∷ []
first_query_lem = refl

-- The cut strings of F are no rearrangement of D's.
pub f_other_cuts : Rearranged (cuts 2 strings_d) (cuts 2 strings_f) → ⊥
unfolding cut
f_other_cuts r = omega (arith, r s01)

-- F's search did not end before length 2.
pub f_not_ended : Ended (leb 2) (count strings_f) 2 → ⊥
f_not_ended (zero, h, e) = omega (arith, ap length e)
f_not_ended (suc zero, h, e) = omega (arith, ap length e)
f_not_ended (suc (suc k), h, e) = omega arith

-- A search without reports ends before length 2.
pub g_ended : Ended (leb 1) (count []) 2
g_ended = (1, omega arith, refl)

-- ---- the number of reports before the first query

-- of no reports, eight zero bytes; of D's three; and of 256, whose bytes are not all alike
pub heading_of_none : heading 0 ≡ replicate 8 0
unfolding big
heading_of_none = refl

pub heading_of_three : heading 3 ≡ replicate 7 0 ++ 3 ∷ []
unfolding big
heading_of_three = refl

pub heading_of_256 : heading 256 ≡ replicate 6 0 ++ 1 ∷ 0 ∷ []
unfolding big
heading_of_256 = refl

-- ---- space

-- The exam program's longest record and list: 32 bits, 32 reports, threshold 1.
pub exam_space : (record_space 32 1 32 ≡ 19382) × (list_space 32 1 32 ≡ 128)
unfolding record_space space_from level_length list_space
exam_space = (refl, refl)

-- D's record takes all of its space.
pub d_space : record_space 2 2 3 ≡ 56
unfolding record_space space_from level_length
d_space = refl

-- One holder is enough for a weighted threshold up to 32,767, two for one more, 65,539 for the greatest.
pub one_holder : fewest_holders true 32767 ≡ 1
one_holder = refl

pub two_holders : fewest_holders true 32768 ≡ 2
two_holders = refl

pub most_holders : fewest_holders true 2147483647 ≡ 65539
most_holders = refl
