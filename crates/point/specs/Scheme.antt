-- What the point function stands on: any block function, any commutative group, any way to draw a payload.
use Rattle.std.specs.Prelude.{ℕ, List}
use Rattle.places.specs.Places.{Bytes}
use Rattle.group.specs.Group.{Group, CommutativeGroup}

-- A scheme: `block s j` is block j of the seed s, `group` is the group of shares, and `payload` draws a payload from all
-- blocks of a corrected seed.
pub record Scheme (A : Type 0) : Type 0 where
  pub block : List ℕ → ℕ → List ℕ
  pub group : Group A
  pub payload : (ℕ → List ℕ) → A

-- What is asked of a scheme: the group's laws, blocks of 16 bytes for seeds of 16 bytes, payloads in the group.
pub record Lawful (A : Type 0) (S : Scheme A) (In : A → Type 0) : Type 0 where
  pub laws : CommutativeGroup A S.group In
  pub sized : (s : List ℕ) → Bytes 16 s → (j : ℕ) → Bytes 16 (S.block s j)
  pub in_payload : (f : ℕ → List ℕ) → In (S.payload f)
