-- A step of a server's walk, in the form that the code has.
use mathlib.Core.Path.{◌≡◌, refl, ap, ◌∙◌}
use mathlib.Core.Bool.{Bool, cond}
use mathlib.Core.List.{List}
use Prim.Native.Nat.{ℕ, suc, ◌-◌, ◌<◌}
use native.Mathlib.Omega.{arith}
use Rattle.expander.specs.Expander.{block_of}
use Rattle.expander.specs.declared.Expander.{Expander}
use Rattle.group.specs.Modular.{field}
use Rattle.point.specs.Node.{Node, final, payload_of}
use Rattle.point.specs.Correction.{Correction, corrected_child}
use Rattle.point.specs.Evaluation.{descend, corrected_payload, share_below, node, share}
use Rattle.point.specs.Instance.{field_scheme, scheme}
use Rattle.nodes.proofs.Nodes.{same_node}

-- a correction word from its four parts
pub same_correction : {s s' : List ℕ} {l l' r r' : Bool} {v v' : ℕ} → s ≡ s' → l ≡ l' → r ≡ r' → v ≡ v'
    → ◌≡◌ {A = Correction ℕ} (record { seed = s; left = l; right = r; payload = v }) (record { seed = s'; left = l'; right = r'; payload = v' })
same_correction e f g h = λ i. record { seed = e i; left = f i; right = g i; payload = h i }

module _ (e : Expander) where
  -- the node below, from its corrected child and block 2 of that
  pub descend_block : (c : Correction ℕ) (x : Bool) (n m : Node) {s : List ℕ} → m ≡ corrected_child (scheme e) c x n → s ≡ block_of e m.seed 2
      → ◌≡◌ {A = Node} (record { seed = s; bit = m.bit }) (descend (scheme e) c x n)
  unfolding descend final field_scheme
  descend_block c x n m f g = same_node g refl ∙ ap (final (scheme e)) f

  -- the payload, corrected and not
  module _ (v : ℕ) (m : Node) {w : ℕ} (h : w ≡ payload_of (scheme e) m) where
    pub payload_corrected : {r : ℕ} → r ≡ cond m.bit (field.add w v) w → r ≡ corrected_payload (scheme e) v m
    unfolding corrected_payload field_scheme
    payload_corrected f = f ∙ ap (λ (y : ℕ). cond m.bit (field.add y v) y) h

  -- the share below, from the corrected payload
  module _ (c : Correction ℕ) (x : Bool) (n m : Node) {v : ℕ} (g : m ≡ corrected_child (scheme e) c x n) (h : v ≡ corrected_payload (scheme e) c.payload m) where
    corrected_value : v ≡ corrected_payload (scheme e) c.payload (corrected_child (scheme e) c x n)
    corrected_value = h ∙ ap (corrected_payload (scheme e) c.payload) g

    pub below : (b : Bool) {r : ℕ} → r ≡ cond b (field.neg v) v → r ≡ share_below (scheme e) b c x n
    unfolding share_below field_scheme
    below b f = f ∙ ap (λ (y : ℕ). cond b (field.neg y) y) corrected_value

  -- the share below, from the drawn payload of the corrected child
  pub below_share : (c : Correction ℕ) (x : Bool) (n m : Node) {w v r : ℕ} (b : Bool) → m ≡ corrected_child (scheme e) c x n → w ≡ payload_of (scheme e) m
      → v ≡ cond m.bit (field.add w c.payload) w → r ≡ cond b (field.neg v) v → r ≡ share_below (scheme e) b c x n
  unfolding share_below corrected_payload field_scheme
  below_share c x n m {w} {v} b g h k l =
      let value : v ≡ corrected_payload (scheme e) c.payload (corrected_child (scheme e) c x n) =
      k ∙ ap (λ (y : ℕ). cond m.bit (field.add y c.payload) y) h ∙ ap (corrected_payload (scheme e) c.payload) g in
      l ∙ ap (λ (y : ℕ). cond b (field.neg y) y) value

-- one level of the walk, as the code counts: from k − 1 to k
module _ (e : Expander) (c : ℕ → Correction ℕ) (s : List ℕ) (b : Bool) (q : ℕ → Bool) (k : ℕ) where
  pub node_root : k ≡ 0 → ◌≡◌ {A = Node} (record { seed = s; bit = b }) (node (scheme e) c s b q k)
  unfolding node
  node_root h = rw h

  pub share_root : k ≡ 0 → 0 ≡ share (scheme e) c s b q k
  unfolding share field_scheme
  share_root h = rw h

  -- the level k − 1 with its correction word w, its bit x and the node m above it
  module _ {w : Correction ℕ} {x : Bool} {m : Node} (h : 0 < k) (f : w ≡ c (k - 1)) (g : x ≡ q (k - 1)) (a : m ≡ node (scheme e) c s b q (k - 1)) where
    last : suc (k - 1) ≡ k
    last = omega arith

    pub node_level : {r : Node} → r ≡ descend (scheme e) w x m → r ≡ node (scheme e) c s b q k
    unfolding node
    node_level l = l ∙ rw (f, g, a) (ap (node (scheme e) c s b q) last)

    pub share_level : {r : ℕ} → r ≡ share_below (scheme e) b w x m → r ≡ share (scheme e) c s b q k
    unfolding share
    share_level l = l ∙ rw (f, g, a) (ap (share (scheme e) c s b q) last)
