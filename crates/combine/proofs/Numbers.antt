-- How many totals of two shares pass a test, one total after the other: how a loop over them goes on.
use Prim.Native.Nat.{ℕ, ◌+◌, ◌-◌, ◌≤◌, ◌<◌}
use native.Mathlib.Omega.{arith}
use mathlib.Core.Path.{◌≡◌, ◌∙◌}
use mathlib.Core.Bool.{Bool, true, false}
use mathlib.Core.List.{List}
use lib.ListN.{length}
use Rattle.places.specs.Lists.{digit, how_many}
use Rattle.shares.proofs.Numbers.{added_at, added_from, added_step, added_none}

module _ (s0 s1 : List ℕ) (passes : ℕ → Bool) where
  -- b tells whether the first of them passes
  module _ (m place : ℕ) (h : 0 < m) (room0 : place + 8 ≤ length s0) (room1 : place + 8 ≤ length s1) (b : Bool) (e : b ≡ passes (added_at s0 s1 place)) where
    number_step : how_many passes (added_from s0 s1 m place) ≡ digit b + how_many passes (added_from s0 s1 (m - 1) (place + 8))
    number_step = rw (added_step s0 s1 m place h room0 room1, e)

    pub number_yes : b ≡ true → how_many passes (added_from s0 s1 m place) ≡ 1 + how_many passes (added_from s0 s1 (m - 1) (place + 8))
    number_yes h = number_step ∙ rw h

    pub number_no : b ≡ false → how_many passes (added_from s0 s1 m place) ≡ how_many passes (added_from s0 s1 (m - 1) (place + 8))
    number_no h = number_step ∙ rw h (omega arith)

  pub number_none : (m place : ℕ) → m ≤ 0 → how_many passes (added_from s0 s1 m place) ≡ 0
  number_none m place h = rw (added_none s0 s1 m place h)
