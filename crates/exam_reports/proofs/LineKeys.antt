-- The lines of a sheet at their places of the text: what is read there, and their keys.
use Prim.Native.Nat.{ℕ, ◌≤◌, ◌<◌}
use native.Mathlib.Omega.{arith}
use mathlib.Core.Path.{◌≡◌, refl, ap, ◌∙◌}
use mathlib.Core.Bool.{true}
use mathlib.Core.List.{List}
use lib.ListN.{length, take, drop}
use lib.IntN.{pos}
use Rattle.bits.specs.Packing.{packed_length, pack_in}
use Rattle.calls.specs.Outcome.{Outcome}
use Rattle.expander.specs.Expander.{is_expander}
use Rattle.point.specs.PublicShare.{public_share_length}
use Rattle.keymaker.specs.Key.{key_outcome}
use Rattle.search.proofs.Outcome.{named_expander}
use Rattle.honest.proofs.Keys.{made_report, key_accepted, key_passes}
use Rattle.exam_text.specs.Sheet.{Line}
use Rattle.exam_reports.specs.SheetReports.{public_share_for}
use Rattle.exam_text.specs.Reader.{are_lines, line_at}
use Rattle.exam_text.proofs.Values.{packed_four}
use Rattle.exam_text.proofs.Placed.{Sound, stands_sound, line_place, line_stands}

-- ---- a line

-- For a sound line the key maker writes a whole public share.
pub key_size : (n expander : ℕ) → 1 ≤ n → n ≤ 32 → is_expander expander ≡ true → (l : Line) → Sound n l → length (public_share_for n expander l) ≡ public_share_length n
key_size n expander from to known l sound =
    let named = named_expander expander known in
    let made = made_report (pos 1) sound.bits sound.sized0 sound.sized1 in
    ap (λ (o : Outcome). length o.written) (key_accepted named.0 n _ made (pos 1) refl expander named.1 from (omega arith) (public_share_length n) (omega arith))
    ∙ (key_passes named.0 n _ made).0

-- What the key maker writes for what was read is the key of the line.
pub key_read : (n expander w : ℕ) (l : Line) (string seed0 seed1 : List ℕ) → n ≤ 32 → Sound n l → w ≡ packed_length n → string ≡ pack_in 4 l.string → seed0 ≡ l.seed0
    → seed1 ≡ l.seed1 → (key_outcome n expander (pos 1) (take w string) seed0 seed1 (public_share_length n)).written ≡ public_share_for n expander l
key_read n expander w l string seed0 seed1 to sound size bits first second = rw (size, bits, packed_four n l.string sound.bits to, first, second)

-- ---- the lines from a place on

-- line i
abbrev pub nth_line : List ℕ → ℕ → ℕ → ℕ → Line
nth_line text at n i = line_at n (line_place at n i) text

module _ (text : List ℕ) (at n C i : ℕ) (h : i < C) (to : n ≤ 32) (laid : are_lines n C (drop at text) ≡ true) where
  pub sound_at : Sound n (nth_line text at n i)
  sound_at = stands_sound n (line_place at n i) text (line_stands text at n C i h to laid)
