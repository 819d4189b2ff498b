-- Two packed prefixes whose first k bits agree: how the code finds that.
use mathlib.Core.Path.{◌≡◌, refl, sym, ◌∙◌}
use mathlib.Core.Bool.{Bool, true, false, beq}
use mathlib.Core.List.{List, [], ◌∷◌}
use Prim.Native.Nat.{ℕ, zero, suc, ◌+◌, ◌-◌, ◌<◌}
use native.Mathlib.Decide.{dec_lt}
use native.Mathlib.Omega.{arith}
use Rattle.std.specs.Prelude.{Option, MatchOption}
use Rattle.std.specs.Iterator.{AlwaysYields}
use Rattle.std.specs.Iterator.Adapters.{rev_source, rev_steps}
use Rattle.std.specs.List.{list_all}
use Rattle.std.specs.declared.ops.Range.{Range}
use Rattle.std.specs.declared.iter.Rev.{Rev}
use Rattle.std.proofs.lemmas.Iterator.{YieldsList}
use Rattle.places.proofs.Lists.{and_left, and_right}
use Rattle.point.proofs.Local.{Below}

-- the places below k, the greatest first
abbrev pub downwards : ℕ → List ℕ
downwards zero = []
downwards (suc k) = k ∷ downwards k

-- one place taken from the end of a range
abbrev pub taken_back : Range ℕ → Option ℕ → Range ℕ → Type 0
taken_back s r t = (t.start ≡ s.start) × MatchOption r ((s.end - s.start ≡ 0) × (t.end ≡ s.end)) (λ x. (0 < s.end - s.start) × (x ≡ t.end) × (s.end ≡ t.end + 1))

range_down : (k : ℕ) (s : Rev (Range ℕ)) → (rev_source s).start ≡ 0 → (rev_source s).end ≡ k → AlwaysYields (rev_steps taken_back) (λ x. x) s (downwards k)
range_down zero s e f = λ x j p. omega (arith, p.1.0)
range_down (suc k) s e f = (
  (λ j p. omega (arith, p.1.0)),
  λ x j p. (omega (arith, p.1.1, p.1.2), range_down k j (p.0 ∙ e) (omega (arith, p.1.2))),
)

pub down_yields : {s : Rev (Range ℕ)} (k : ℕ) → (rev_source s).start ≡ 0 → (rev_source s).end ≡ k → YieldsList (rev_steps taken_back) (λ x. x) s (downwards k)
down_yields {s} k e f = record { runs = range_down k s e f }

bits_same : (a b : Bool) → beq a b ≡ true → a ≡ b
bits_same true true h = refl
bits_same false false h = refl
bits_same true false h = sym h
bits_same false true h = h

-- bits that agree at all places
pub all_same : (q q' : ℕ → Bool) (k : ℕ) → list_all (λ i. beq (q i) (q' i)) (downwards k) ≡ true → Below k q q'
all_same q q' zero h i l = absurd (omega arith)
all_same q q' (suc k) h i l =
    elim (dec_lt i k) [
      | yes r ↦ all_same q q' k (and_right (beq (q k) (q' k)) _ h) i r
      | no r ↦ let e : i ≡ k = omega arith in rw e (bits_same (q k) (q' k) (and_left (beq (q k) (q' k)) _ h))
    ]
