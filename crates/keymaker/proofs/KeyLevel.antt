-- One level of the key maker, put together from the parts that the code takes.
use mathlib.Core.Path.{◌≡◌, ap, ap₂, ◌∙◌}
use mathlib.Core.Bool.{Bool, true, false, cond, not, xor, beq}
use mathlib.Core.List.{List}
use Prim.Native.Nat.{ℕ}
use Rattle.expander.specs.Expander.{xor_bytes}
use Rattle.expander.specs.declared.Expander.{Expander}
use Rattle.group.specs.Modular.{field}
use Rattle.point.specs.Scheme.{Scheme}
use Rattle.point.specs.Node.{Node, child, payload_of}
use Rattle.point.specs.Correction.{Correction, corrected}
use Rattle.point.specs.Keys.{seed_correction, left_correction, right_correction, kept_child, payload_correction, correction}
use Rattle.point.specs.Instance.{field_scheme, scheme}
use Rattle.nodes.proofs.Nodes.{differ_xor}

-- w − W0 + W1
abbrev pub difference : ℕ → ℕ → ℕ → ℕ
difference w w0 w1 = field.add (field.add w (field.neg w0)) w1

-- a correction word from its parts
same_correction : {s s' : List ℕ} {l l' r r' : Bool} {v v' : ℕ} → s ≡ s' → l ≡ l' → r ≡ r' → v ≡ v' →
    ◌≡◌ {A = Correction ℕ} (record { seed = s; left = l; right = r; payload = v }) (record { seed = s'; left = l'; right = r'; payload = v' })
same_correction e f g h = λ i. record { seed = e i; left = f i; right = g i; payload = h i }

module _ (S : Scheme ℕ) (a : Bool) where
  -- the lose seed
  lose : (s : List ℕ) (l r : Node) → l ≡ child S s false → r ≡ child S s true → cond a l.seed r.seed ≡ (child S s (not a)).seed
  lose s l r f g = go a
    where
      go : (a : Bool) → cond a l.seed r.seed ≡ (child S s (not a)).seed
      go true = ap (λ (m : Node). m.seed) f
      go false = ap (λ (m : Node). m.seed) g

  -- the kept child
  kept : (s : List ℕ) (l r : Node) → l ≡ child S s false → r ≡ child S s true → cond a r l ≡ child S s a
  kept s l r f g = go a
    where
      go : (a : Bool) → cond a r l ≡ child S s a
      go true = g
      go false = f

  -- Two nodes and their children.
  module _ (n0 n1 l0 r0 l1 r1 : Node)
      (f0 : l0 ≡ child S n0.seed false) (g0 : r0 ≡ child S n0.seed true) (f1 : l1 ≡ child S n1.seed false) (g1 : r1 ≡ child S n1.seed true) where
    pub seed_made : xor_bytes (cond a l0.seed r0.seed) (cond a l1.seed r1.seed) ≡ seed_correction S a n0 n1
    unfolding seed_correction
    seed_made = ap₂ xor_bytes (lose n0.seed l0 r0 f0 g0) (lose n1.seed l1 r1 f1 g1)

    pub left_made : not (beq (not (beq (not (beq l0.bit l1.bit)) a)) true) ≡ left_correction S a n0 n1
    unfolding left_correction
    left_made =
        differ_xor _ true
        ∙ ap (λ (x : Bool). xor x true) (differ_xor _ a ∙ ap (λ (x : Bool). xor x a) (differ_xor l0.bit l1.bit ∙ ap₂ xor (ap (λ (m : Node). m.bit) f0) (ap (λ (m : Node). m.bit) f1)))

    pub right_made : not (beq (not (beq r0.bit r1.bit)) a) ≡ right_correction S a n0 n1
    unfolding right_correction
    right_made =
        differ_xor _ a ∙ ap (λ (x : Bool). xor x a) (differ_xor r0.bit r1.bit ∙ ap₂ xor (ap (λ (m : Node). m.bit) g0) (ap (λ (m : Node). m.bit) g1))

    pub kept_made : (n l r : Node) (s : List ℕ) (x y : Bool) → s ≡ seed_correction S a n0 n1 → x ≡ left_correction S a n0 n1 → y ≡ right_correction S a n0 n1
        → l ≡ child S n.seed false → r ≡ child S n.seed true → corrected n.bit s (cond a y x) (cond a r l) ≡ kept_child S a n0 n1 n
    unfolding kept_child
    kept_made n l r s x y h hl hr f g = cc (h, hl, hr, kept n.seed l r f g)

-- the correction word of a level, from the kept children
pub word_made : (e : Expander) (w : ℕ) (a : Bool) (n0 n1 : Node) {s : List ℕ} {l r b : Bool} {w0 w1 v : ℕ}
    → s ≡ seed_correction (scheme e) a n0 n1 → l ≡ left_correction (scheme e) a n0 n1 → r ≡ right_correction (scheme e) a n0 n1
    → w0 ≡ payload_of (scheme e) (kept_child (scheme e) a n0 n1 n0) → w1 ≡ payload_of (scheme e) (kept_child (scheme e) a n0 n1 n1)
    → b ≡ (kept_child (scheme e) a n0 n1 n1).bit → v ≡ cond b (field.neg (difference w w0 w1)) (difference w w0 w1)
    → ◌≡◌ {A = Correction ℕ} (record { seed = s; left = l; right = r; payload = v }) (correction (scheme e) a n0 n1 w)
unfolding correction payload_correction field_scheme
word_made e w a n0 n1 hs hl hr h0 h1 hb hv = same_correction hs hl hr (hv ∙ cc (h0, h1, hb))
