-- The named space where the arguments are within their bounds.
use Prim.Native.Nat.{ℕ, ◌≤◌}
use native.Mathlib.Omega.{arith}
use mathlib.Core.Path.{◌≡◌}
use mathlib.Core.Bool.{Bool, true, false, ◌||◌}
use borrow.Author.Tests.{le-ltb, ltb-false}
use lib.Dec.{ltb}
use Rattle.calls.specs.Bounds.{threshold_most, outside}
use Rattle.calls.proofs.Decisions.{neither, neither_test, bounds, in_bounds}
use Rattle.tree.specs.Space.{fewest_holders, record_space, list_space}
use Rattle.space.specs.SearchSpace.{outside_bounds, named_record_space, named_list_space}

-- no threshold is higher than that of a weighted search
most_threshold_lem : (weighted : Bool) → threshold_most weighted ≤ 2147483647
most_threshold_lem false = omega arith
most_threshold_lem true = omega arith

pub within : (n : ℕ) (weighted : Bool) (t reports : ℕ) → outside_bounds n weighted t reports ≡ false
    → (1 ≤ n) × (n ≤ 256) × (1 ≤ t) × (t ≤ 2147483647) × (reports ≤ 65535)
within n weighted t reports h =
    let a = neither (outside 256 n) (outside (threshold_most weighted) t || ltb 65535 reports) h in
    let b = neither (outside (threshold_most weighted) t) (ltb 65535 reports) a.1 in
    let threshold = bounds (threshold_most weighted) t b.0 in
    ((bounds 256 n a.0).0, (bounds 256 n a.0).1, threshold.0, omega (arith, threshold.1, most_threshold_lem weighted), ltb-false 65535 reports b.1)

module _ (n : ℕ) (weighted : Bool) (t reports : ℕ) (from : 1 ≤ n) (to : n ≤ 256) (least : 1 ≤ t) (most : t ≤ threshold_most weighted) (few : reports ≤ 65535) where
  inside : outside_bounds n weighted t reports ≡ false
  inside = neither_test (in_bounds 256 n from to) (neither_test (in_bounds (threshold_most weighted) t least most) (le-ltb 65535 reports few))

  -- Within bounds the named space is that of an honest record, and of an honest list.
  pub named_record : named_record_space n weighted t reports ≡ record_space n (fewest_holders weighted t) reports
  named_record = rw inside

  pub named_list : named_list_space n weighted t reports ≡ list_space n (fewest_holders weighted t) reports
  named_list = rw inside
