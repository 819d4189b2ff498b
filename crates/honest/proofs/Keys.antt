-- The key maker's outcome for an honest report.
use Rattle.std.specs.Prelude.{Some}
use mathlib.Core.Path.{◌≡◌, sym, ap, ap₂, ◌∙◌}
use mathlib.Core.Bool.{true}
use mathlib.Core.List.{List}
use Prim.Native.Nat.{ℕ, ◌≤◌}
use native.Mathlib.Omega.{arith}
use lib.ListN.{length}
use lib.IntN.{ℤ}
use Rattle.bits.specs.Strings.{Bits}
use Rattle.places.specs.Places.{Bytes}
use Rattle.bits.specs.Packing.{pack, unpack}
use Rattle.bits.proofs.Packed.{unpack_pack}
use Rattle.calls.specs.Outcome.{accepted}
use Rattle.expander.specs.Expander.{choice_of}
use Rattle.expander.specs.declared.Expander.{Expander}
use Rattle.group.specs.Modular.{p, modulus}
use Rattle.signed.specs.SignedReading.{embed}
use Rattle.signed.proofs.Embedding.{embed_below}
use Rattle.point.specs.Keys.{key_correction}
use Rattle.point.specs.Evaluation.{bit_of}
use Rattle.point.specs.PublicShare.{public_share, public_share_length, payloads_below, spare_bits_zero}
use Rattle.point.specs.Totals.{Report, report_correction, report_public_share}
use Rattle.point.specs.Instance.{scheme}
use Rattle.point.proofs.Honest.{report_bytes, report_passes}
use Rattle.point.proofs.Instance.{scheme_lawful, p_fits}
use Rattle.keymaker.specs.Key.{key_bytes, key_outcome}
use Rattle.keymaker.proofs.KeyMade.{key_made}
use Rattle.honest.proofs.Made.{MadeReport}

-- Any string of n bits, any two seeds of 16 bytes and any weight make a report.
pub made_report : {n : ℕ} {string : Bits} {seed0 seed1 : List ℕ} (w : ℤ) → length string ≡ n → Bytes 16 seed0 → Bytes 16 seed1
    → MadeReport n (record { string = string; seed0 = seed0; seed1 = seed1; weight = embed modulus w })
made_report w bits sized0 sized1 = record { bits = bits; in_group = embed_below modulus (omega arith) w; sized0 = sized0; sized1 = sized1 }

module _ (e : Expander) (n : ℕ) (r : Report ℕ) (made : MadeReport n r) where
  -- the string read back from its packing
  string_read : unpack n (pack r.string) ≡ r.string
  string_read = ap (λ (m : ℕ). unpack m (pack r.string)) (sym made.bits) ∙ unpack_pack r.string

  key_bytes_lem : (w : ℤ) → r.weight ≡ embed modulus w → key_bytes n w (pack r.string) r.seed0 r.seed1 e ≡ report_public_share (scheme e) n r
  unfolding key_bytes report_public_share report_correction
  key_bytes_lem w weighs = ap₂ (λ (x : ℕ) (s : Bits). public_share n (key_correction (scheme e) x (bit_of s) r.seed0 r.seed1)) (sym weighs) string_read

  -- For a string of 1 to 256 bits, seeds of 16 bytes, the report's weight and room enough, the key maker succeeds and writes the report's public share.
  pub key_accepted : (w : ℤ) → r.weight ≡ embed modulus w → (number : ℕ) → choice_of number ≡ Some e → 1 ≤ n → n ≤ 256
      → (room : ℕ) → public_share_length n ≤ room → key_outcome n number w (pack r.string) r.seed0 r.seed1 room ≡ accepted (report_public_share (scheme e) n r)
  key_accepted w weighs number named from to room fits =
      key_made n number e named w r.string r.seed0 r.seed1 made.bits made.sized0 made.sized1 from to room fits
      ∙ ap accepted (key_bytes_lem w weighs)

  -- What it writes has the length of a public share, its payload corrections are below p, and its spare bits are zero.
  pub key_passes : let share = report_public_share (scheme e) n r in
      (length share ≡ public_share_length n) × (payloads_below p n share ≡ true) × (spare_bits_zero n share ≡ true)
  key_passes =
      let passes = report_passes (scheme e) (scheme_lawful e) p_fits n r made in
      ((report_bytes (scheme e) (scheme_lawful e) p_fits n r made).size, passes.0, passes.1)
