-- The line that was read, its public share, and their page.
use Prim.Native.Nat.{ℕ, ◌≤◌}
use native.Mathlib.Omega.{arith}
use mathlib.Core.Path.{◌≡◌, sym, ap, ◌∙◌}
use mathlib.Core.List.{List}
use Rattle.std.specs.Prelude.{Some}
use lib.ListN.{length, take, drop}
use lib.Seq.{take_at}
use lib.IntN.{pos}
use Rattle.places.specs.Places.{overlay}
use Rattle.bits.specs.Packing.{packed_length, pack_in, pack, unpack}
use Rattle.bits.proofs.Packed.{pack_length, unpack_pack}
use Rattle.calls.specs.Outcome.{Outcome}
use Rattle.expander.specs.Expander.{choice_of}
use Rattle.expander.specs.declared.Expander.{Expander}
use Rattle.point.specs.PublicShare.{public_share_length}
use Rattle.keymaker.specs.Key.{key_bytes, key_exit}
use Rattle.keymaker.proofs.KeyMade.{key_made, made_length}
use Rattle.exam_text.specs.Sheet.{Line}
use Rattle.exam_text.proofs.Values.{packed_four}
use Rattle.exam_text.proofs.Placed.{Sound}
use Rattle.key_answering.specs.KeyPage.{page, page_space}
use Rattle.key_answering.specs.KeyAnswer.{line_page}
use Rattle.key_answering.proofs.Lengths.{page_most}

module _ (n number : ℕ) (e : Expander) (from : 1 ≤ n) (to : n ≤ 32) (named : choice_of number ≡ Some e) (l : Line) (sound : Sound n l) where
  -- The string that was read, packed.
  module _ (w : ℕ) (string : List ℕ) (size : w ≡ packed_length n) (bits : string ≡ pack_in 4 l.string) where
    pub packed_read : take w string ≡ pack l.string
    packed_read = rw (size, bits) (packed_four n l.string sound.bits to)

    pub packed_length_lem : length (take w string) ≡ packed_length n
    packed_length_lem = ap length packed_read ∙ pack_length l.string ∙ ap packed_length sound.bits

    unpacked : unpack n (take w string) ≡ l.string
    unpacked = ap (unpack n) packed_read ∙ ap (λ (m : ℕ). unpack m (pack l.string)) (sym sound.bits) ∙ unpack_pack l.string

    -- The public share that was made, in an area of 776 bytes.
    module _ (seed0 seed1 area new : List ℕ) (first : seed0 ≡ l.seed0) (second : seed1 ≡ l.seed1) (room : length area ≡ 776)
        (made : new ≡ (key_exit n number (pos 1) (take w string) seed0 seed1 area).area) (m : ℕ) (long : m ≡ public_share_length n) where
      share_read : take m new ≡ key_bytes n (pos 1) (pack l.string) l.seed0 l.seed1 e
      unfolding overlay
      share_read =
          let fits : public_share_length n ≤ length area = omega arith in
          let bytes = key_bytes n (pos 1) (pack l.string) l.seed0 l.seed1 e in
          let is : new ≡ overlay bytes area =
          made
          ∙ rw (packed_read, first, second)
          (ap (λ (o : Outcome). overlay o.written area) (key_made n number e named (pos 1) l.string l.seed0 l.seed1 sound.bits sound.sized0 sound.sized1 from (omega arith) (length area) fits)) in
          ap (take m) is
          ∙ take_at bytes (drop (length bytes) area) m (made_length n number e named (pos 1) l.string l.seed0 l.seed1 sound.bits sound.sized0 sound.sized1 ∙ sym long)

      pub share_length : length (take m new) ≡ public_share_length n
      share_length = ap length share_read ∙ made_length n number e named (pos 1) l.string l.seed0 l.seed1 sound.bits sound.sized0 sound.sized1

      -- Its page is that of the line.
      pub page_read_lem : page e n (unpack n (take w string)) seed0 seed1 (take m new) ≡ line_page n l e
      unfolding line_page
      page_read_lem = rw (unpacked, first, second, share_read)

  pub line_most : length (line_page n l e) ≤ page_space
  unfolding line_page
  line_most = page_most e n l.string l.seed0 l.seed1 (key_bytes n (pos 1) (pack l.string) l.seed0 l.seed1 e) sound.bits to
