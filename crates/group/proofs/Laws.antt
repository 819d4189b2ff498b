-- What follows from the laws of a commutative group.
use mathlib.Core.Path.{◌≡◌, sym, ap, ◌∙◌}
use mathlib.Core.Bool.{Bool, true, false, cond, not}
use Rattle.group.specs.Group.{Group, CommutativeGroup}

module _ {A : Type 0} (G : Group A) {In : A → Type 0} (L : CommutativeGroup A G In) where
  open G use {add, neg, zero}
  open L use {comm, assoc, unit, inverse, in_add}

  pub left_comm : (x y z : A) → add x (add y z) ≡ add y (add x z)
  left_comm x y z = sym (assoc x y z) ∙ ap (λ w. add w z) (comm x y) ∙ assoc y x z

  pub interchange : (x y z w : A) → add (add x y) (add z w) ≡ add (add x z) (add y w)
  interchange x y z w = assoc x y (add z w) ∙ ap (add x) (left_comm y z w) ∙ sym (assoc x z (add y w))

  -- w is the difference of x and y
  pub sub_intro : (w x y : A) → In w → In x → add w y ≡ x → add x (neg y) ≡ w
  sub_intro w x y hw hx e = rw (← e) (assoc w y (neg y) ∙ ap (add w) (inverse y) ∙ unit w hw)

  -- w − u + v, added to u, gives w and v
  pub shift : (w u v : A) → In v → add u (add (add w (neg u)) v) ≡ add w v
  shift w u v hv =
      left_comm u (add w (neg u)) v ∙ assoc w (neg u) (add u v)
      ∙ ap (add w) (left_comm (neg u) u v ∙ sym (assoc u (neg u) v) ∙ ap (λ z. add z v) (inverse u) ∙ comm zero v ∙ unit v hv)

  -- of two values u and v, the one whose bit is set has w − u + v added, negated if that is v: their difference is w
  pub masked : (w u v : A) → In w → In u → In v → (t : Bool) →
      let d = add (add w (neg u)) v in let c = cond t (neg d) d in add (cond (not t) (add u c) u) (neg (cond t (add v c) v)) ≡ w
  masked w u v hw hu hv true =
      sub_intro w u _ hw hu (sym (assoc w v _) ∙ sub_intro u (add w v) _ hu (in_add w v) (shift w u v hv))
  masked w u v hw hu hv false = sub_intro w _ v hw (in_add u _) (sym (shift w u v hv))
