-- How long the reports of a sheet are.
use Prim.Native.Nat.{ℕ, ◌*◌, ◌≤◌, ◌<◌}
use native.Mathlib.Omega.{arith}
use mathlib.Core.Path.{◌≡◌, sym, ap, ◌∙◌}
use mathlib.Core.Bool.{true}
use mathlib.Core.List.{[]}
use lib.ListN.{length, get_or, length-map, get_or-map}
use Rattle.bits.specs.Strings.{Bits}
use Rattle.places.specs.Places.{Bytes}
use Rattle.expander.specs.Expander.{is_expander}
use Rattle.point.specs.PublicShare.{public_share_length}
use Rattle.honest.proofs.Pieces.{all_at}
use Rattle.exam_text.specs.Sheet.{Line, Sheet, strings, expander_number, Within}
use Rattle.exam_text.specs.Reader.{no_line}
use Rattle.exam_text.proofs.Placed.{Sound}
use Rattle.exam_reports.specs.SheetReports.{public_share_for, seeds0_of, seeds1_of, public_shares_of}
use Rattle.exam_reports.proofs.EachLine.{each_length}
use Rattle.exam_reports.proofs.LineKeys.{key_size}

module _ (s : Sheet) (w : Within s) where
  -- line i is sound
  pub line_sound : (i : ℕ) → i < length s.lines → Sound s.n (get_or s.lines i no_line)
  line_sound i h =
      let seeds = all_at (λ l. Bytes 16 l.seed0 × Bytes 16 l.seed1) s.lines no_line i w.seeds h in
      let bits = all_at (λ (x : Bits). length x ≡ s.n) (strings s) [] i w.n_bits (omega (arith, length-map s.lines (λ l. l.string))) in
      record { bits = ap length (sym (get_or-map (λ (l : Line). l.string) s.lines i no_line)) ∙ bits; sized0 = seeds.0; sized1 = seeds.1 }

  pub seeds0_size : length (seeds0_of s) ≡ 16 * length s.lines
  seeds0_size = each_length 16 (λ l. l.seed0) s.lines no_line (λ i h. (line_sound i h).sized0.size)

  pub seeds1_size : length (seeds1_of s) ≡ 16 * length s.lines
  seeds1_size = each_length 16 (λ l. l.seed1) s.lines no_line (λ i h. (line_sound i h).sized1.size)

  pub shares_size : 1 ≤ s.n → is_expander (expander_number s.expander) ≡ true → length (public_shares_of s) ≡ public_share_length s.n * length s.lines
  shares_size from known =
      each_length (public_share_length s.n) (public_share_for s.n (expander_number s.expander)) s.lines no_line
      (λ i h. key_size s.n (expander_number s.expander) from w.n_most known (get_or s.lines i no_line) (line_sound i h))
