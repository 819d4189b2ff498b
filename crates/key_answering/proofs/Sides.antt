-- The prefix with the first k bits of a packed string and one bit more, packed, and the servers' shares at it.
use Prim.Native.Nat.{ℕ, ◌+◌, ◌≤◌, ◌<◌}
use native.Mathlib.Omega.{arith}
use mathlib.Core.Path.{◌≡◌, refl, sym, ap, ◌∙◌}
use mathlib.Core.Bool.{Bool, true, false}
use mathlib.Core.List.{List}
use lib.ListN.{length, get_or, take, drop, replicate}
use lib.Seq.{take_at, take-take, get_or-take, length-take-le}
use Rattle.places.specs.Places.{put_at, overlay}
use Rattle.places.proofs.Places.{put_at_overlay}
use Rattle.bits.specs.Strings.{Bits, ◌▹◌}
use Rattle.bits.specs.Packing.{packed_length, pack, bits_of, unpack}
use Rattle.bits.proofs.Packed.{pack_length, bit_pack, unpack_length, unpack_pack}
use Rattle.bits.proofs.Append.{append_length}
use Rattle.expander.specs.declared.Expander.{Expander}
use Rattle.point.specs.Scheme.{Scheme}
use Rattle.point.specs.Correction.{Correction}
use Rattle.point.specs.Evaluation.{bit_of, share, share_at}
use Rattle.point.specs.Instance.{scheme}
use Rattle.point.specs.PublicShare.{read_correction}
use Rattle.point.proofs.Local.{share_local}
use Rattle.key_answering.specs.KeyPage.{shares_line, shares_line_at}

-- Bit k of the string is that of its bytes.
pub own_bit : (n k : ℕ) (string : List ℕ) → k < n → get_or (bits_of string) k false ≡ bit_of (unpack n string) k
unfolding unpack
own_bit n k string h = sym (get_or-take n (bits_of string) k false h)

module _ (n k : ℕ) (string : List ℕ) (bit : Bool) (h : k < n) (to : n ≤ 32) (sized : length string ≡ packed_length n) where
  -- the prefix
  abbrev q : Bits
  q = take k (unpack n string) ▹ bit

  side_same : unpack k string ▹ bit ≡ q
  unfolding unpack
  side_same = ap (λ (p : Bits). p ▹ bit) (sym (take-take k n (bits_of string) (omega arith)))

  side_bits : length q ≡ k + 1
  side_bits = append_length (take k (unpack n string)) bit ∙ ap (λ (m : ℕ). m + 1) (length-take-le k (unpack n string) (omega (arith, unpack_length n string sized)))

  pub side_size : length (pack q) ≡ packed_length (k + 1)
  side_size = pack_length q ∙ ap packed_length side_bits

  -- The first bytes of the area that it is written into are it.
  module _ (w : ℕ) (child : List ℕ) (size : w ≡ packed_length (k + 1)) (wrote : child ≡ put_at (replicate 4 0) 0 (pack (unpack k string ▹ bit))) where
    pub side_packed : take w child ≡ pack q
    unfolding overlay
    side_packed =
        let short : length (pack q) ≤ 4 = omega (arith, side_size) in
        ap (take w) (wrote ∙ ap (λ (p : Bits). put_at (replicate 4 0) 0 (pack p)) side_same ∙ put_at_overlay (replicate 4 0) (pack q) short)
        ∙ take_at (pack q) (drop (length (pack q)) (replicate 4 0)) w (side_size ∙ sym size)

    read_back : unpack (k + 1) (take w child) ≡ q
    read_back = ap (unpack (k + 1)) side_packed ∙ ap (λ (m : ℕ). unpack m (pack q)) (sym side_bits) ∙ unpack_pack q

    share_read : {A : Type 0} (S : Scheme A) (c : ℕ → Correction A) (s : List ℕ) (b : Bool)
        → share S c s b (bit_of (bits_of (take w child))) (k + 1) ≡ share_at S c s b q
    share_read S c s b =
        rw (side_packed, side_bits) (share_local S s b (k + 1) (λ i l. refl) (λ i l. bit_pack q i))

    -- The line of what was read is the line of the prefix.
    pub side_line : (e : Expander) (seed0 seed1 bytes word : List ℕ) (x y : ℕ)
        → x ≡ share (scheme e) (read_correction n bytes) seed0 false (bit_of (bits_of (take w child))) (k + 1)
        → y ≡ share (scheme e) (read_correction n bytes) seed1 true (bit_of (bits_of (take w child))) (k + 1)
        → shares_line word (unpack (k + 1) (take w child)) x y ≡ shares_line_at e n (unpack n string) seed0 seed1 bytes word q
    side_line e seed0 seed1 bytes word x y zero one =
        rw (read_back, zero ∙ share_read (scheme e) (read_correction n bytes) seed0 false, one ∙ share_read (scheme e) (read_correction n bytes) seed1 true)
