-- What a node and a share depend on: the levels above them alone, and one step from the prefix one bit shorter.
use mathlib.Core.Path.{◌≡◌, refl, ap₂}
use mathlib.Core.Bool.{Bool, false}
use mathlib.Core.List.{List, [], ◌∷◌}
use Prim.Native.Nat.{ℕ, zero, suc, ◌<◌}
use native.Mathlib.Numerals.{add-one}
use native.Mathlib.Omega.{arith}
use lib.ListN.{length, length-append, get_or-append}
use lib.Seq.{get_or-append_seam}
use Rattle.bits.specs.Strings.{Bits, ◌▹◌}
use Rattle.point.specs.Scheme.{Scheme}
use Rattle.point.specs.Correction.{Correction}
use Rattle.point.specs.Evaluation.{bit_of, descend, node, share, node_at}

-- f and g agree below k
abbrev pub Below : {X : Type 0} → ℕ → (ℕ → X) → (ℕ → X) → Type 0
Below k f g = (i : ℕ) → i < k → f i ≡ g i

-- ---- only the levels above matter

module _ {A : Type 0} (S : Scheme A) (s : List ℕ) (b : Bool) {c c' : ℕ → Correction A} {q q' : ℕ → Bool} where
  pub node_local : (k : ℕ) → Below k c c' → Below k q q' → node S c s b q k ≡ node S c' s b q' k
  unfolding node
  node_local zero hc hq = refl
  node_local (suc k) hc hq = cc (node_local k (λ i h. hc i (omega arith)) (λ i h. hq i (omega arith)), hc k (omega arith), hq k (omega arith))

  pub share_local : (k : ℕ) → Below k c c' → Below k q q' → share S c s b q k ≡ share S c' s b q' k
  unfolding share
  share_local zero hc hq = refl
  share_local (suc k) hc hq = cc (node_local k (λ i h. hc i (omega arith)) (λ i h. hq i (omega arith)), hc k (omega arith), hq k (omega arith))

-- ---- one step from the prefix one bit shorter

module _ {A : Type 0} (S : Scheme A) (c : ℕ → Correction A) (s : List ℕ) (b : Bool) (q : Bits) (x : Bool) where
  node_before : node S c s b (bit_of (q ▹ x)) (length q) ≡ node_at S c s b q
  node_before = node_local S s b (length q) (λ i h. refl) (get_or-append q (x ∷ []) false)

  pub node_step : node_at S c s b (q ▹ x) ≡ descend S (c (length q)) x (node_at S c s b q)
  unfolding node
  node_step = rw (length-append q (x ∷ []), add-one) (ap₂ (descend S (c (length q))) (get_or-append_seam q x [] false) node_before)
