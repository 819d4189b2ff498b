-- Small facts about nodes, in the form that the code has.
use mathlib.Core.Path.{◌≡◌, refl, ap, ap₂, ◌∙◌}
use mathlib.Core.Bool.{Bool, true, false, not, xor, beq}
use mathlib.Core.List.{List, [], ◌∷◌}
use Prim.Native.Nat.{ℕ, ◌-◌, ◌%◌}
use native.Mathlib.Omega.{arith}
use lib.ListN.{get_or, set}
use lib.Dec.{eqb}
use mir.Val.{bool_byte}
use Rattle.expander.specs.Expander.{block_of, xor_bytes}
use Rattle.expander.specs.declared.Expander.{Expander}
use Rattle.point.specs.Node.{Node, control_bit, cleared, child}
use Rattle.point.specs.Correction.{corrected}
use Rattle.point.specs.Instance.{field_scheme, scheme}
use Rattle.places.specs.Lists.{digit}

pub cleared_set : (b : List ℕ) → set b 0 (get_or b 0 0 - get_or b 0 0 % 2) ≡ cleared b
unfolding cleared
cleared_set [] = refl
cleared_set (x ∷ b) = ap {B = List ℕ} (λ (y : ℕ). y ∷ b) (omega arith)

pub control : (b : List ℕ) → eqb (get_or b 0 0 % 2) 1 ≡ control_bit b
unfolding control_bit
control b = refl

-- XOR of two bits, as the code's test that they differ
pub differ_xor : (a b : Bool) → not (beq a b) ≡ xor a b
unfolding xor
differ_xor true true = refl
differ_xor true false = refl
differ_xor false true = refl
differ_xor false false = refl

-- a bit as a number
pub as_digit : (b : Bool) → bool_byte b ≡ digit b
as_digit true = refl
as_digit false = refl

-- a node from its two parts
pub same_node : {s s' : List ℕ} {b b' : Bool} → s ≡ s' → b ≡ b' → ◌≡◌ {A = Node} (record { seed = s; bit = b }) (record { seed = s'; bit = b' })
same_node e f = ap₂ {C = Node} (λ (s : List ℕ) (b : Bool). record { seed = s; bit = b }) e f

-- the child on side x, from the block that the code took apart
pub child_split : (e : Expander) (seed : List ℕ) (x : Bool) {s block : List ℕ} {b : Bool} → block ≡ block_of e seed (digit x)
    → s ≡ cleared block → b ≡ control_bit block → ◌≡◌ {A = Node} (record { seed = s; bit = b }) (child (scheme e) seed x)
unfolding child field_scheme
child_split e seed x h f g = same_node (f ∙ ap cleared h) (g ∙ ap control_bit h)

-- a node that is corrected, and one that is not
pub left_alone : (on : Bool) (s : List ℕ) (t : Bool) (m : Node) → not on ≡ true → m ≡ corrected on s t m
unfolding corrected
left_alone false s t m h = refl
left_alone true s t m h = let z : ◌≡◌ {A = ℕ} 0 1 = cc in absurd (omega arith)

pub put_right : (on : Bool) (s : List ℕ) (t : Bool) (m : Node) {u : List ℕ} → not on ≡ false → u ≡ xor_bytes m.seed s
    → ◌≡◌ {A = Node} (record { seed = u; bit = not (beq m.bit t) }) (corrected on s t m)
unfolding corrected
put_right true s t m h e = same_node e (differ_xor m.bit t)
put_right false s t m h e = let z : ◌≡◌ {A = ℕ} 0 1 = cc in absurd (omega arith)
