-- The exam program's space is enough for every search that it makes.
use Prim.Native.Nat.{ℕ, ◌/◌, ◌≤◌}
use native.Mathlib.Omega.{arith}
use native.Mathlib.Nat.{div-le_self, mul-le-mul}
use Rattle.bits.specs.Packing.{packed_length}
use Rattle.tree.specs.Space.{record_space, list_space}
use Rattle.tree.proofs.Lengths.{record_space_grows}
use Rattle.tree.proofs.Examples.{exam_space}

-- at most 32 strings of at most 32 bits, whatever the threshold from 1 on
module _ (n t C : ℕ) (short : n ≤ 32) (some : 1 ≤ t) (few : C ≤ 32) where
  fewer : C / t ≤ 32
  fewer = omega (arith, div-le_self C t)

  -- The record takes at most 19,382 bytes.
  pub exam_record : record_space n t C ≤ 19382
  exam_record =
      let kept : C / t ≤ 32 / 1 = omega (arith, fewer) in
      omega (arith, record_space_grows n 32 t C 1 32 short kept, exam_space.0)

  -- The list takes at most 128.
  pub exam_list : list_space n t C ≤ 128
  unfolding list_space
  exam_list =
      let wide : packed_length n ≤ 4 = omega arith in
      mul-le-mul fewer wide
