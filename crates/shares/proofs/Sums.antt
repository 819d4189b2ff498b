-- The sums of two shares as they are written, one after the other.
use Prim.Native.Nat.{ℕ, ◌+◌, ◌-◌, ◌*◌, ◌/◌, ◌≤◌, ◌<◌}
use native.Mathlib.Omega.{arith}
use mathlib.Core.Path.{◌≡◌, sym, ap, ◌∙◌}
use mathlib.Core.List.{List}
use lib.ListN.{length}
use Rattle.numbers.specs.Numbers.{little, in_bytes}
use Rattle.numbers.proofs.Endian.{little_length, in_bytes_length}
use Rattle.places.specs.Places.{put_at, overlay}
use Rattle.places.proofs.Places.{Grown, grown_start, grown_more, grown_end, put_at_overlay}
use Rattle.group.specs.Modular.{field}
use Rattle.shares.specs.ShareNumbers.{numbers, added}
use Rattle.shares.specs.Add.{add_bytes}
use Rattle.shares.proofs.Numbers.{added_length, numbers_length, added_at, added_from, added_step, added_none}

-- out is d with the sums before a place written, and m of them are left
abbrev pub Passed : List ℕ → List ℕ → List ℕ → List ℕ → ℕ → ℕ → Type 0
Passed s0 s1 d out m place = Grown d 0 out place (in_bytes (added_from s0 s1 m place)) (add_bytes s0 s1)

-- Two shares of one length, and space for them.
module _ (s0 s1 : List ℕ) (same : length s0 ≡ length s1) where
  -- 8 bytes for each number
  pub sums_length : length (add_bytes s0 s1) ≡ 8 * (length s0 / 8)
  sums_length =
      let l : length (numbers s0) ≡ length (numbers s1) = numbers_length s0 ∙ rw same (sym (numbers_length s1)) in
      in_bytes_length (added field (numbers s0) (numbers s1)) ∙ ap (λ (m : ℕ). 8 * m) (added_length field (numbers s0) (numbers s1) l ∙ numbers_length s0)

  module _ (d : List ℕ) (room : length s0 ≤ length d) where
    pub sums_start : Passed s0 s1 d d (length s0 / 8) 0
    sums_start = let e : length s1 / 8 ≡ length s0 / 8 = rw same in rw e (grown_start d 0 _)

    pub sums_more : (out : List ℕ) (m place : ℕ) → 0 < m → place + 8 * m ≤ length s0 → Passed s0 s1 d out m place → (x : ℕ) → x ≡ added_at s0 s1 place
        → (out' : List ℕ) → out' ≡ put_at out place (little 8 x) → Passed s0 s1 d out' (m - 1) (place + 8)
    sums_more out m place h inside g x e out' f =
        grown_more d 0 out place (little 8 (added_at s0 s1 place)) _ (add_bytes s0 s1)
        (rw (added_step s0 s1 m place h (omega arith) (omega arith)) at g) (omega (arith, sums_length)) out' (place + 8)
        (f ∙ ap (λ (y : ℕ). put_at out place (little 8 y)) e)
        (omega (arith, little_length 8 (added_at s0 s1 place)))

    pub sums_end : (out : List ℕ) (m place : ℕ) → m ≤ 0 → Passed s0 s1 d out m place → out ≡ overlay (add_bytes s0 s1) d
    sums_end out m place h g =
        grown_end d 0 out place (add_bytes s0 s1) (rw (added_none s0 s1 m place h) at g)
        ∙ put_at_overlay d (add_bytes s0 s1) (omega (arith, sums_length))
