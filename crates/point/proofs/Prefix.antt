-- Key correctness at prefixes: two bit strings agree on the length of one exactly when it is a prefix of the other.
use mathlib.Core.Path.{◌≡◌, refl, sym, ap, ◌∙◌}
use mathlib.Core.Bool.{Bool, true, false, cond, beq, ◌&&◌, and_assoc, and-true}
use mathlib.Core.List.{List, [], ◌∷◌}
use Prim.Native.Nat.{ℕ, zero, suc, ◌≤◌, ◌<◌}
use native.Mathlib.Nat.{le_of_suc-le-suc, not-suc-le-zero}
use native.Mathlib.Omega.{arith}
use lib.ListN.{length}
use Rattle.places.specs.Places.{Bytes}
use Rattle.bits.specs.Strings.{Bits, is_prefix}
use Rattle.point.specs.Scheme.{Scheme, Lawful}
use Rattle.point.specs.Keys.{key_correction}
use Rattle.point.specs.Evaluation.{bit_of, share_at}
use Rattle.point.proofs.Correct.{agree, key_correct}

agree_front : (q α : ℕ → Bool) (k : ℕ) → agree q α (suc k) ≡ (beq (q 0) (α 0) && agree (λ i. q (suc i)) (λ i. α (suc i)) k)
unfolding agree
agree_front q α zero = sym (and-true _)
agree_front q α (suc k) = ap (λ b. b && beq (q (suc k)) (α (suc k))) (agree_front q α k) ∙ and_assoc (beq (q 0) (α 0)) _ _

pub agree_prefix : (q α : Bits) → length q ≤ length α → agree (bit_of q) (bit_of α) (length q) ≡ is_prefix q α
unfolding agree
agree_prefix [] α h = refl
agree_prefix (x ∷ q) [] h = absurd (not-suc-le-zero h)
agree_prefix (x ∷ q) (a ∷ α) h =
    agree_front (bit_of (x ∷ q)) (bit_of (a ∷ α)) (length q) ∙ ap (◌&&◌ (beq x a)) (agree_prefix q α (le_of_suc-le-suc h))

-- The two shares of a key add to its weight at every non-empty prefix of its string, and to zero at every other string as long at most.
pub prefix_correct : {A : Type 0} (S : Scheme A) {In : A → Type 0} → Lawful A S In → (w : A) → In w → (s0 s1 : List ℕ) → Bytes 16 s0 → Bytes 16 s1 →
    (α q : Bits) → 0 < length q → length q ≤ length α → let c = key_correction S w (bit_of α) s0 s1 in
    S.group.add (share_at S c s0 false q) (share_at S c s1 true q) ≡ cond (is_prefix q α) w S.group.zero
prefix_correct S L w hw s0 s1 h0 h1 α [] some fits = absurd (omega arith)
prefix_correct S L w hw s0 s1 h0 h1 α (x ∷ q) some fits =
    key_correct S L w (bit_of α) s0 s1 h0 h1 hw (bit_of (x ∷ q)) (length q) ∙ ap (λ b. cond b w S.group.zero) (agree_prefix (x ∷ q) α fits)
