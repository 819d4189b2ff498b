-- The key maker: the correction words of a string's levels, document 01, 'Keys and nodes'.
use Rattle.std.specs.Prelude.{ℕ, zero, suc, Bool, true, false, cond, not, List}
use Rattle.std.specs.Bool.{xor}
use Rattle.expander.specs.Expander.{xor_bytes}
use Rattle.point.specs.Scheme.{Scheme}
use Rattle.point.specs.Node.{Node, child, final, payload_of}
use Rattle.point.specs.Correction.{Correction, corrected}

module _ {A : Type 0} (S : Scheme A) where
  -- One level: the string's bit is a, and the two servers stand at n0 and n1 on the string's path.
  module _ (a : Bool) (n0 n1 : Node) where
    -- XOR of the two lose seeds; lose is the child not taken
    unfoldable pub seed_correction : List ℕ
    seed_correction = xor_bytes (child S n0.seed (not a)).seed (child S n1.seed (not a)).seed

    -- XOR of both left bits, α and 1
    unfoldable pub left_correction : Bool
    left_correction = xor (xor (xor (child S n0.seed false).bit (child S n1.seed false).bit) a) true

    -- XOR of both right bits and α
    unfoldable pub right_correction : Bool
    right_correction = xor (xor (child S n0.seed true).bit (child S n1.seed true).bit) a

    -- the kept child of a server's node, corrected if the server's control bit is 1
    unfoldable pub kept_child : Node → Node
    kept_child n = corrected n.bit seed_correction (cond a right_correction left_correction) (child S n.seed a)

    -- w − W0 + W1, negated if the new t1 is 1
    unfoldable pub payload_correction : A → A
    payload_correction w =
        let d = S.group.add (S.group.add w (S.group.neg (payload_of S (kept_child n0)))) (payload_of S (kept_child n1)) in
        cond (kept_child n1).bit (S.group.neg d) d

    -- the correction word of the level, for the weight w
    unfoldable pub correction : A → Correction A
    correction w = record { seed = seed_correction; left = left_correction; right = right_correction; payload = payload_correction w }

  -- the key maker's node for server b after k bits of the string α, from the root seeds s0 and s1
  unfoldable pub key_node : (ℕ → Bool) → List ℕ → List ℕ → ℕ → Bool → Node
  key_node α s0 s1 zero b = record { seed = cond b s1 s0; bit = b }
  key_node α s0 s1 (suc k) b = final S (kept_child (α k) (key_node α s0 s1 k false) (key_node α s0 s1 k true) (key_node α s0 s1 k b))

  -- the key maker's correction word for level k
  unfoldable pub key_correction : A → (ℕ → Bool) → List ℕ → List ℕ → ℕ → Correction A
  key_correction w α s0 s1 k = correction (α k) (key_node α s0 s1 k false) (key_node α s0 s1 k true) w
