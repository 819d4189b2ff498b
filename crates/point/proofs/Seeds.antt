-- Seeds stay seeds: a cleared block, and a corrected child, are 16 bytes.
use mathlib.Core.Bool.{Bool, true, false}
use mathlib.Core.List.{List, [], ◌∷◌}
use Prim.Native.Nat.{ℕ, zero, suc}
use native.Mathlib.Omega.{arith}
use Rattle.places.specs.Places.{Bytes}
use Rattle.expander.proofs.Sums.{xor_bytes_bytes}
use Rattle.point.specs.Scheme.{Scheme, Lawful}
use Rattle.point.specs.Node.{Node, cleared, child, final}
use Rattle.point.specs.Correction.{corrected}

cleared_bytes : {n : ℕ} {s : List ℕ} → Bytes n s → Bytes n (cleared s)
unfolding cleared
cleared_bytes {s = []} h = h
cleared_bytes {s = x ∷ s} h = record { size = h.size; byte = elim [ zero ↦ omega (arith, h.byte 0) | suc i ↦ h.byte (suc i) ] }

pub corrected_bytes : (b : Bool) (s : List ℕ) (t : Bool) (m : Node) → Bytes 16 m.seed → Bytes 16 s → Bytes 16 (corrected b s t m).seed
unfolding corrected
corrected_bytes true s t m h k = xor_bytes_bytes h k
corrected_bytes false s t m h k = h

module _ {A : Type 0} (S : Scheme A) {In : A → Type 0} (L : Lawful A S In) where
  pub child_bytes : {s : List ℕ} (x : Bool) → Bytes 16 s → Bytes 16 (child S s x).seed
  unfolding child
  child_bytes x h = cleared_bytes (L.sized _ h _)

  pub final_bytes : (m : Node) → Bytes 16 m.seed → Bytes 16 (final S m).seed
  unfolding final
  final_bytes m h = L.sized _ h 2
