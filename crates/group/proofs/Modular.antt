-- Numbers modulo any m above 0 are a commutative group, and so are those modulo p.
use mathlib.Core.Path.{◌≡◌, sym, ap, ◌∙◌}
use Prim.Native.Nat.{ℕ, ◌+◌, ◌-◌, ◌%◌, ◌<◌}
use native.Mathlib.Nat.{add_comm, add_assoc, add-zero, mod-lt, mod-eq_of_lt, mod-add-mod, add-mod-mod, mod_self}
use native.Mathlib.Omega.{arith}
use Rattle.group.specs.Group.{CommutativeGroup}
use Rattle.group.specs.Modular.{modular, modulus, field}

module _ (m : ℕ) (pos : 0 < m) where
  mod_inverse : (x : ℕ) → (x + (m - x % m) % m) % m ≡ 0
  mod_inverse x =
      add-mod-mod x (m - x % m) m ∙ sym (mod-add-mod x m (m - x % m))
      ∙ ap (λ (y : ℕ). y % m) (omega (arith, mod-lt x pos)) ∙ mod_self m

  pub modular_laws : CommutativeGroup ℕ (modular m) (λ x. x < m)
  modular_laws = record {
    comm = λ x y. ap (λ (z : ℕ). z % m) (add_comm x y);
    assoc = λ x y z. mod-add-mod (x + y) m z ∙ ap (λ (z : ℕ). z % m) (add_assoc x y z) ∙ sym (add-mod-mod x (y + z) m);
    unit = λ x h. ap (λ (z : ℕ). z % m) (add-zero x) ∙ mod-eq_of_lt h;
    inverse = mod_inverse;
    in_add = λ x y. mod-lt _ pos;
    in_neg = λ x. mod-lt _ pos;
    in_zero = pos;
  }

pub field_laws : CommutativeGroup ℕ field (λ x. x < modulus)
field_laws = modular_laws modulus (omega arith)
