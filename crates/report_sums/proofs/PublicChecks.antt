-- Causes 6 and 7 of the public shares of so many reports: their conditions and their tests agree.
use Prim.Native.Nat.{ℕ, ◌*◌, ◌/◌, ◌<◌}
use mathlib.Core.Path.{◌≡◌}
use mathlib.Core.Bool.{false}
use mathlib.Core.List.{List}
use borrow.Author.Tests.{le-ltb, ltb-false}
use lib.ListN.{get_or}
use lib.Dec.{T, ltb}
use Rattle.calls.proofs.Decisions.{failed, failed_test}
use Rattle.group.specs.Modular.{p}
use Rattle.point.specs.PublicShare.{public_share_length, read_correction, payloads_below, spare_bits_zero}
use Rattle.point.proofs.Joined.{every_false, every_fails}
use Rattle.point.proofs.PublicShare.{spare_set}
use Rattle.places.proofs.Places.{piece_byte}
use Rattle.report_sums.specs.Reports.{public_share_at}
use Rattle.report_sums.specs.Checks.{PayloadTooLarge, payload_too_large, SpareBitsSet, spare_bits_set}

module _ (n reports : ℕ) (shares : List ℕ) where
  pub too_large_lem : T (payload_too_large n reports shares) → PayloadTooLarge n reports shares
  unfolding payloads_below
  too_large_lem t =
      let r = every_fails reports (λ i. payloads_below p n (public_share_at n shares i)) (failed _ t) in
      let l = every_fails n (λ k. ltb (read_correction n (public_share_at n shares r.0) k).payload p) r.2 in
      (r.0, r.1, l.0, l.1, ltb-false _ p l.2)

  pub too_large_test : PayloadTooLarge n reports shares → T (payload_too_large n reports shares)
  unfolding payloads_below
  too_large_test h =
      let l : payloads_below p n (public_share_at n shares h.0) ≡ false = every_false n _ h.2 h.3 (le-ltb _ p h.4) in
      failed_test (every_false reports (λ i. payloads_below p n (public_share_at n shares i)) h.0 h.1 l)

  pub bits_set : ((j : ℕ) → get_or shares j 0 < 256) → T (spare_bits_set n reports shares) → SpareBitsSet n reports shares
  bits_set byte t =
      let r = every_fails reports (λ i. spare_bits_zero n (public_share_at n shares i)) (failed _ t) in
      let s = (spare_set n (public_share_at n shares r.0) (piece_byte (public_share_length n) (public_share_length n * r.0) shares byte (n / 4))).0 r.2 in
      (r.0, r.1, s.0, s.1, s.2, s.3)

  pub bits_set_test : ((j : ℕ) → get_or shares j 0 < 256) → SpareBitsSet n reports shares → T (spare_bits_set n reports shares)
  bits_set_test byte h =
      let s = (spare_set n (public_share_at n shares h.0) (piece_byte (public_share_length n) (public_share_length n * h.0) shares byte (n / 4))).1 (h.2, h.3, h.4, h.5) in
      failed_test (every_false reports (λ i. spare_bits_zero n (public_share_at n shares i)) h.0 h.1 s)
