-- What the key maker has after k levels: both servers' nodes, and their levels written.
use mathlib.Core.Path.{◌≡◌, refl, sym, ◌∙◌}
use mathlib.Core.Bool.{Bool, true, false}
use mathlib.Core.List.{List}
use Prim.Native.Nat.{ℕ, ◌+◌, ◌*◌, ◌/◌, ◌%◌, ◌^◌, ◌<◌, ◌≤◌}
use native.Mathlib.Numerals.{add-one}
use native.Mathlib.Omega.{arith}
use lib.ListN.{length, get_or, set}
use lib.Seq.{get_or-take}
use lib.IntN.{ℤ}
use Rattle.places.specs.Lists.{digit}
use Rattle.places.specs.Places.{Bytes, put_at, overlay}
use Rattle.bits.specs.Packing.{bits_of, unpack}
use Rattle.group.specs.Modular.{modulus}
use Rattle.signed.specs.SignedReading.{embed}
use Rattle.expander.specs.declared.Expander.{Expander}
use Rattle.point.specs.Node.{Node, final}
use Rattle.point.specs.Correction.{Correction}
use Rattle.point.specs.Keys.{kept_child, correction, key_node, key_correction}
use Rattle.point.specs.Evaluation.{bit_of}
use Rattle.point.specs.PublicShare.{level_bytes, level_start, public_share, public_share_length}
use Rattle.point.specs.Instance.{scheme}
use Rattle.point.proofs.Correct.{key_seed}
use Rattle.point.proofs.Instance.{scheme_lawful}
use Rattle.keymaker.specs.Key.{key_bytes}
use Rattle.keymaker.proofs.KeyWriting.{Partly, partly_start, partly_more, partly_end}

-- For the weight w as a group number.
module _ (e : Expander) (n w : ℕ) (string s0 s1 : List ℕ) where
  -- the string's bits
  abbrev bits : ℕ → Bool
  bits = bit_of (unpack n string)

  -- its correction words
  abbrev words : ℕ → Correction ℕ
  words = key_correction (scheme e) w bits s0 s1

  -- the public share, where w is the weight z and the seeds are equal
  pub key_same : {t0 t1 : List ℕ} (z : ℤ) → w ≡ embed modulus z → s0 ≡ t0 → s1 ≡ t1 → public_share n words ≡ key_bytes n z string t0 t1 e
  unfolding key_bytes
  key_same z h h0 h1 = rw (h, h0, h1)

  pub record Standing (d : List ℕ) (k : ℕ) (m0 m1 : Node) (out : List ℕ) : Type 0 where
    pub below : k ≤ n
    pub node0 : m0 ≡ key_node (scheme e) bits s0 s1 k false
    pub node1 : m1 ≡ key_node (scheme e) bits s0 s1 k true
    pub written : Partly n words d k out

  pub standing_start : (d : List ℕ) → Standing d 0 (record { seed = s0; bit = false }) (record { seed = s1; bit = true }) d
  unfolding key_node
  standing_start d = record { below = omega arith; node0 = refl; node1 = refl; written = partly_start n words d }

  -- bit k of the string is bit k of its bytes
  bit_same : (k : ℕ) → k < n → get_or (bits_of string) k false ≡ bits k
  unfolding unpack
  bit_same k h = sym (get_or-take n (bits_of string) k false h)

  module _ (h0 : Bytes 16 s0) (h1 : Bytes 16 s1) where
    word_seeds : (k : ℕ) → k < n → Bytes 16 (words k).seed
    word_seeds k l = key_seed (scheme e) (scheme_lawful e) w bits s0 s1 h0 h1 k

    module _ (d : List ℕ) (room : public_share_length n ≤ length d) where
      pub standing_more : (k : ℕ) → k < n → (m0 m1 : Node) (out : List ℕ) → Standing d k m0 m1 out
          → (a : Bool) → a ≡ get_or (bits_of string) k false → (c : Correction ℕ) → c ≡ correction (scheme e) a m0 m1 w → (out₁ out₂ : List ℕ)
          → out₁ ≡ set out (k / 4) (get_or out (k / 4) 0 % 2 ^ (2 * (k % 4)) + (digit c.left + 2 * digit c.right) * 2 ^ (2 * (k % 4)))
          → out₂ ≡ put_at out₁ (level_start n k) (level_bytes c)
          → (m0' m1' : Node) → m0' ≡ final (scheme e) (kept_child (scheme e) a m0 m1 m0) → m1' ≡ final (scheme e) (kept_child (scheme e) a m0 m1 m1)
          → Standing d (k + 1) m0' m1' out₂
      unfolding key_node key_correction
      standing_more k l m0 m1 out s a ea c ec out₁ out₂ f g m0' m1' g0 g1 =
          let b : a ≡ bits k = ea ∙ bit_same k l in
          rw (add-one k)
          (record {
            below = omega arith;
            node0 = cc (g0, b, s.node0, s.node1);
            node1 = cc (g1, b, s.node0, s.node1);
            written = partly_more n words d word_seeds room k l out s.written c (cc (ec, b, s.node0, s.node1)) out₁ out₂ f g;
          })

      pub standing_end : (k : ℕ) (m0 m1 : Node) (out : List ℕ) → Standing d k m0 m1 out → n ≤ k → out ≡ overlay (public_share n words) d
      standing_end k m0 m1 out s h =
          let q : k ≡ n = omega arith in
          partly_end n words d word_seeds room out (rw q at s.written)
