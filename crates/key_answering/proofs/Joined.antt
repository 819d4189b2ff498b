-- Lines f 0, f 1, .., one after the other, written by a loop.
use Prim.Native.Nat.{ℕ, zero, suc, ◌+◌, ◌*◌, ◌≤◌, ◌<◌}
use native.Mathlib.Nat.{suc-mul}
use native.Mathlib.Omega.{arith}
use native.Mathlib.Numerals.{add-one}
use native.Mathlib.Decide.{dec_lt}
use mathlib.Core.Path.{◌≡◌, sym, ap, ◌∙◌}
use mathlib.Core.List.{List}
use lib.ListN.{length, length-append}
use Rattle.places.proofs.Places.{put_at_nil, put_at_length, put_at_more}
use Rattle.point.specs.PublicShare.{joined}
use Rattle.fields.proofs.FieldChain.{Wrote}

module _ (f : ℕ → List ℕ) where
  -- The first k lines and the next are among the first n.
  lines_within : (n k : ℕ) → k < n → length (joined k f) + length (f k) ≤ length (joined n f)
  unfolding joined
  lines_within zero k h = absurd (omega arith)
  lines_within (suc n) k h =
      elim (dec_lt k n) [
        | yes l ↦ omega (arith, lines_within n k l, length-append (joined n f) (f n))
        | no l ↦ let e : k ≡ n = omega arith in rw e (omega (arith, length-append (joined n f) (f n)))
      ]

  -- So many lines, each of at most w characters.
  pub lines_at_most : (w n : ℕ) → ((k : ℕ) → k < n → length (f k) ≤ w) → length (joined n f) ≤ n * w
  unfolding joined
  lines_at_most w zero h = omega arith
  lines_at_most w (suc n) h =
      omega (arith, length-append (joined n f) (f n), lines_at_most w n (λ k l. h k (omega arith)), h n (omega arith), suc-mul n w)

  module _ (d : List ℕ) (at n : ℕ) (room : at + length (joined n f) ≤ length d) where
    pub none_written : Wrote d at (joined 0 f) d at
    unfolding joined
    none_written = (omega arith, sym (put_at_nil d at))

    module _ (k : ℕ) (h : k < n) (o : List ℕ) (p : ℕ) (w : Wrote d at (joined k f) o p) where
      -- The next line has room.
      pub next_room : p + length (f k) ≤ length o
      next_room = omega (arith, lines_within n k h, w.0, ap length w.1, put_at_length d at (joined k f))

      pub next_written : (o' : List ℕ) (p' : ℕ) → Wrote o p (f k) o' p' → Wrote d at (joined (k + 1) f) o' p'
      unfolding joined
      next_written o' p' v =
          rw (add-one k) (
            omega (arith, v.0, w.0, length-append (joined k f) (f k)),
            v.1 ∙ rw (w.0, w.1) (put_at_more d at (joined k f) (f k) (omega (arith, lines_within n k h))),
          )
