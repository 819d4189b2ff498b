-- Key correctness: at every non-empty prefix the two servers' shares add to the weight on the string's path, and to zero off it.
use mathlib.Core.Path.{◌≡◌, refl, sym, ◌∙◌}
use mathlib.Core.Bool.{Bool, true, false, cond, not, xor, beq, ◌&&◌}
use mathlib.Core.List.{List}
use Prim.Native.Nat.{ℕ, zero, suc}
use lib.ListN.{length}
use Rattle.places.specs.Places.{Bytes}
use Rattle.group.proofs.Laws.{masked}
use Rattle.expander.specs.Expander.{xor_bytes}
use Rattle.expander.proofs.Sums.{xor_bytes_cancel, xor_bytes_cancel', xor_bytes_bytes}
use Rattle.point.specs.Scheme.{Scheme, Lawful}
use Rattle.point.specs.Node.{Node, child, final, payload_of}
use Rattle.point.specs.Correction.{Correction, corrected, corrected_child}
use Rattle.point.specs.Keys.{seed_correction, left_correction, right_correction, kept_child, payload_correction, correction, key_node, key_correction}
use Rattle.point.specs.Evaluation.{descend, corrected_payload, share_below, node, share}
use Rattle.point.proofs.Seeds.{corrected_bytes, child_bytes, final_bytes}

-- whether q and α agree on their first k bits
unfoldable pub agree : (ℕ → Bool) → (ℕ → Bool) → ℕ → Bool
agree q α zero = true
agree q α (suc k) = agree q α k && beq (q k) (α k)

-- ---- control bits

-- the bit correction of side x, where l and r are the sums of both servers' left and right bits
side_bit : (a x l r : Bool) → cond x (xor r a) (xor (xor l a) true) ≡ xor (cond x r l) (beq x a)
unfolding xor
side_bit true true l r = refl
side_bit false true l r = refl
side_bit true false true r = refl
side_bit true false false r = refl
side_bit false false true r = refl
side_bit false false false r = refl

-- the sum of two bits, put into one of them, gives the other
lose_bit : (t0 t1 : Bool) → xor t0 (xor (xor t0 t1) false) ≡ t1
unfolding xor
lose_bit true true = refl
lose_bit true false = refl
lose_bit false true = refl
lose_bit false false = refl

lose_bit' : (t0 t1 : Bool) → xor t1 (xor (xor t0 t1) false) ≡ t0
unfolding xor
lose_bit' true true = refl
lose_bit' true false = refl
lose_bit' false true = refl
lose_bit' false false = refl

-- with one more, the opposite of the other
keep_bit : (t0 t1 : Bool) → xor t0 (xor (xor t0 t1) true) ≡ not t1
unfolding xor
keep_bit true true = refl
keep_bit true false = refl
keep_bit false true = refl
keep_bit false false = refl

keep_bit' : (t0 t1 : Bool) → t0 ≡ not (xor t1 (xor (xor t0 t1) true))
unfolding xor
keep_bit' true true = refl
keep_bit' true false = refl
keep_bit' false true = refl
keep_bit' false false = refl

-- Two children, of which one is corrected: the one of server 1 if t, else the one of server 0.
module _ (m0 m1 : Node) where
  corrected_lose : (t : Bool) → length m0.seed ≡ length m1.seed →
      let s = xor_bytes m0.seed m1.seed in let d = xor (xor m0.bit m1.bit) false in
      corrected (not t) s d m0 ≡ corrected t s d m1
  unfolding corrected
  corrected_lose true h = λ i. record { seed = sym (xor_bytes_cancel' m0.seed m1.seed h) i; bit = sym (lose_bit' m0.bit m1.bit) i }
  corrected_lose false h = λ i. record { seed = xor_bytes_cancel m0.seed m1.seed h i; bit = lose_bit m0.bit m1.bit i }

  corrected_keep : (t : Bool) (s : List ℕ) →
      let d = xor (xor m0.bit m1.bit) true in (corrected (not t) s d m0).bit ≡ not (corrected t s d m1).bit
  unfolding corrected
  corrected_keep true s = keep_bit' m0.bit m1.bit
  corrected_keep false s = keep_bit m0.bit m1.bit

-- ---- where the two servers stand

-- at the key maker's nodes `key`, as long as they keep to the path; off it at one and the same node
data Stand (key : Bool → Node) : Bool → Node → Node → Type 0 where
  on : Stand key true (key false) (key true)
  off : {n : Node} → Stand key false n n

stand_map : (f : Node → Node) {key : Bool → Node} {b : Bool} {n0 n1 : Node} → Stand key b n0 n1 → Stand (λ d. f (key d)) b (f n0) (f n1)
stand_map f on = on
stand_map f off = off

-- the key maker's nodes at every level: one control bit is set, and the seeds are 16 bytes
record Ready (key : Bool → Node) : Type 0 where
  opposite : (key false).bit ≡ not (key true).bit
  sized : (b : Bool) → Bytes 16 (key b).seed

either_in : {A : Type 0} (In : A → Type 0) (t : Bool) (u v : A) → In u → In v → In (cond t u v)
either_in In true u v h k = h
either_in In false u v h k = k

module _ {A : Type 0} (S : Scheme A) {In : A → Type 0} (L : Lawful A S In) where
  final_ready : {key : Bool → Node} → Ready key → Ready (λ b. final S (key b))
  unfolding final
  final_ready {key} r = record { opposite = r.opposite; sized = λ b. final_bytes S L (key b) (r.sized b) }

  -- One level of the key maker: on the side taken its nodes stay ready, and on the other both servers come to one node.
  module _ (key : Bool → Node) (r : Ready key) where
    abbrev kept_at : Bool → Bool → Node
    kept_at a b = kept_child S a (key false) (key true) (key b)

    same_size : (x : Bool) → length (child S (key false).seed x).seed ≡ length (child S (key true).seed x).seed
    same_size x = (child_bytes S L x (r.sized false)).size ∙ sym (child_bytes S L x (r.sized true)).size

    seed_bytes : (a : Bool) → Bytes 16 (seed_correction S a (key false) (key true))
    unfolding seed_correction
    seed_bytes a = xor_bytes_bytes (child_bytes S L (not a) (r.sized false)) (child_bytes S L (not a) (r.sized true))

    keep_opposite : (a : Bool) → (kept_at a false).bit ≡ not (kept_at a true).bit
    unfolding kept_child left_correction right_correction
    keep_opposite true = rw (r.opposite, side_bit) (corrected_keep _ _ _ _)
    keep_opposite false = rw (r.opposite, side_bit) (corrected_keep _ _ _ _)

    keep : (a : Bool) → Ready (kept_at a)
    unfolding kept_child
    keep a = record {
      opposite = keep_opposite a;
      sized = λ b. corrected_bytes (key b).bit _ _ _ (child_bytes S L a (r.sized b)) (seed_bytes a);
    }

    module _ (w : A) where
      abbrev word : Bool → Correction A
      word a = correction S a (key false) (key true) w

      lose : (a : Bool) → corrected_child S (word a) (not a) (key false) ≡ corrected_child S (word a) (not a) (key true)
      unfolding corrected_child correction seed_correction left_correction right_correction
      lose true = rw (r.opposite, side_bit) (corrected_lose _ _ _ (same_size false))
      lose false = rw (r.opposite, side_bit) (corrected_lose _ _ _ (same_size true))

      -- one bit x further down, where the string has the bit a
      down : (x a : Bool) {b : Bool} {n0 n1 : Node} → Stand key b n0 n1 →
          Stand (kept_at a) (b && beq x a) (corrected_child S (word a) x n0) (corrected_child S (word a) x n1)
      unfolding corrected_child correction kept_child
      down x a off = off
      down true true on = on
      down false false on = on
      down true false on = rw (lose false) off
      down false true on = rw (lose true) off

    -- The two values at corrected nodes: on the path they differ by the weight, off it they do not.
    module _ (w : A) (hw : In w) (a : Bool) where
      difference : Node → Node → A
      difference m0 m1 =
          let v = payload_correction S a (key false) (key true) w in
          S.group.add (corrected_payload S v m0) (S.group.neg (corrected_payload S v m1))

      apart : {b : Bool} {m0 m1 : Node} → Stand (kept_at a) b m0 m1 → difference m0 m1 ≡ cond b w S.group.zero
      unfolding difference corrected_payload payload_correction payload_of
      apart on = rw (keep_opposite a) (masked S.group L.laws w _ _ hw (L.in_payload _) (L.in_payload _) (kept_at a true).bit)
      apart off = L.laws.inverse _

  -- payload corrections and shares are in the group
  payload_in : (a : Bool) (n0 n1 : Node) (w : A) → In (payload_correction S a n0 n1 w)
  unfolding payload_correction
  payload_in a n0 n1 w = either_in In (kept_child S a n0 n1 n1).bit _ _ (L.laws.in_neg _) (L.laws.in_add _ _)

  -- The weight, the string and the root seeds of a key.
  module _ (w : A) (α : ℕ → Bool) (s0 s1 : List ℕ) (h0 : Bytes 16 s0) (h1 : Bytes 16 s1) where
    ready : (k : ℕ) → Ready (key_node S α s0 s1 k)
    unfolding key_node
    ready zero = record { opposite = refl; sized = elim [ true ↦ h1 | false ↦ h0 ] }
    ready (suc k) = final_ready (keep (key_node S α s0 s1 k) (ready k) (α k))

    abbrev words : ℕ → Correction A
    words = key_correction S w α s0 s1

    stand : (q : ℕ → Bool) (k : ℕ) → Stand (key_node S α s0 s1 k) (agree q α k) (node S words s0 false q k) (node S words s1 true q k)
    unfolding key_node descend node agree key_correction
    stand q zero = on
    stand q (suc k) = stand_map (final S) (down _ (ready k) w (q k) (α k) (stand q k))

    -- key correctness
    pub key_correct : In w → (q : ℕ → Bool) (k : ℕ) →
        S.group.add (share S words s0 false q (suc k)) (share S words s1 true q (suc k)) ≡ cond (agree q α (suc k)) w S.group.zero
    unfolding share share_below key_correction correction agree difference
    key_correct hw q k = apart _ (ready k) w hw (α k) (down _ (ready k) w (q k) (α k) (stand q k))

    -- what the key maker writes is well formed
    pub key_seed : (k : ℕ) → Bytes 16 (words k).seed
    unfolding key_correction correction
    key_seed k = seed_bytes _ (ready k) (α k)

    pub key_payload : (k : ℕ) → In (words k).payload
    unfolding key_correction correction
    key_payload k = payload_in _ _ _ w
