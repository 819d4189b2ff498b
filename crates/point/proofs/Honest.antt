-- An honest report's public share passes the tests, and a server that reads it computes the share that the theory speaks of.
use mathlib.Core.Path.{◌≡◌, refl}
use mathlib.Core.Bool.{Bool, true}
use Prim.Native.Nat.{ℕ, ◌^◌, ◌<◌, ◌≤◌}
use native.Mathlib.Omega.{arith}
use lib.ListN.{length}
use Rattle.places.specs.Places.{Bytes}
use Rattle.bits.specs.Strings.{Bits}
use Rattle.point.specs.Scheme.{Scheme, Lawful}
use Rattle.point.specs.Evaluation.{bit_of, share_at}
use Rattle.point.specs.PublicShare.{public_share_length, read_correction, payloads_below, spare_bits_zero, Wellformed}
use Rattle.point.specs.Totals.{Report, Made, root_seed, report_correction, report_share, report_public_share}
use Rattle.point.proofs.Correct.{key_seed, key_payload}
use Rattle.point.proofs.Local.{share_local}
use Rattle.point.proofs.PublicShare.{read_correction_lem, public_bytes_lem, public_payloads, public_spare}

-- Any modulus that fits 64 bits, and a report of n bits.
module _ (S : Scheme ℕ) {m : ℕ} (L : Lawful ℕ S (λ x. x < m)) (fits : m ≤ 2 ^ 64) (n : ℕ) (r : Report ℕ) (h : Made (λ x. x < m) n r) where
  pub report_wellformed : Wellformed m n (report_correction S r)
  unfolding report_correction
  report_wellformed = record {
    seeds = λ k l. key_seed S L r.weight (bit_of r.string) r.seed0 r.seed1 h.sized0 h.sized1 k;
    payloads = λ k l. key_payload S L r.weight (bit_of r.string) r.seed0 r.seed1 h.sized0 h.sized1 k;
  }

  pub report_bytes : Bytes (public_share_length n) (report_public_share S n r)
  unfolding report_public_share
  report_bytes = public_bytes_lem n (report_correction S r) report_wellformed.seeds

  pub report_passes : (payloads_below m n (report_public_share S n r) ≡ true) × (spare_bits_zero n (report_public_share S n r) ≡ true)
  unfolding report_public_share
  report_passes = (public_payloads m fits n (report_correction S r) report_wellformed, public_spare n (report_correction S r) report_wellformed.seeds)

  pub report_read : (b : Bool) (q : Bits) → length q ≤ n →
      share_at S (read_correction n (report_public_share S n r)) (root_seed b r) b q ≡ report_share S b q r
  unfolding report_public_share report_share
  report_read b q l =
      share_local S (root_seed b r) b (length q)
      (λ i k. read_correction_lem n (report_correction S r) report_wellformed.seeds i (omega arith) (omega (arith, report_wellformed.payloads i (omega arith))))
      (λ i k. refl)
