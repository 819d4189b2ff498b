-- Commutative groups whose elements are written as values of a type A.
use Rattle.std.specs.Prelude.{◌≡◌}

-- The operations.
pub record Group (A : Type 0) : Type 0 where
  pub add : A → A → A
  pub neg : A → A
  pub zero : A

-- The laws. `In x` says that x is the written form of an element.
pub record CommutativeGroup (A : Type 0) (G : Group A) (In : A → Type 0) : Type 0 where
  pub comm : (x y : A) → G.add x y ≡ G.add y x
  pub assoc : (x y z : A) → G.add (G.add x y) z ≡ G.add x (G.add y z)
  pub unit : (x : A) → In x → G.add x G.zero ≡ x
  pub inverse : (x : A) → G.add x (G.neg x) ≡ G.zero
  pub in_add : (x y : A) → In (G.add x y)
  pub in_neg : (x : A) → In (G.neg x)
  pub in_zero : In G.zero
