-- A server's sum at a prefix depends on the prefix's bits alone, whatever bytes it is packed in and whatever bytes are lent.
use mathlib.Core.Path.{◌≡◌, refl, sym, ap₂}
use mathlib.Core.Bool.{Bool, false, cond}
use mathlib.Core.List.{List}
use Prim.Native.Nat.{ℕ, zero, suc}
use native.Mathlib.Omega.{arith}
use lib.Seq.{get_or-take}
use Rattle.bits.specs.Packing.{bits_of, unpack}
use Rattle.expander.specs.declared.Expander.{Expander}
use Rattle.group.specs.Modular.{field}
use Rattle.point.specs.Evaluation.{bit_of}
use Rattle.point.specs.PublicShare.{read_correction}
use Rattle.point.specs.Instance.{scheme}
use Rattle.point.proofs.Local.{Below, share_local}
use Rattle.report_sums.specs.Reports.{report_count, seed_at, public_share_at, sum_where, lent_share, server_sum}

-- sums of the same numbers are the same
pub sum_same : (test : ℕ → Bool) (m : ℕ) {f g : ℕ → ℕ} → Below m f g → sum_where field test m f ≡ sum_where field test m g
unfolding sum_where
sum_same test zero h = refl
sum_same test (suc m) h = ap₂ (λ (s x : ℕ). cond (test m) (field.add s x) s) (sum_same test m (λ i l. h i (omega arith))) (h m (omega arith))

module _ (e : Expander) (n : ℕ) (b : Bool) (seeds shares : List ℕ) (test : ℕ → Bool) where
  -- only the first k bits matter
  pub server_sum_local : (k : ℕ) {q q' : ℕ → Bool} → Below k q q' → server_sum e n b seeds shares test q k ≡ server_sum e n b seeds shares test q' k
  unfolding server_sum lent_share
  server_sum_local k h =
      sum_same test (report_count n seeds shares)
      (λ i l. share_local (scheme e) (seed_at seeds i) b {c = read_correction n (public_share_at n shares i)} k (λ j r. refl) h)

  -- at the first k bits of any bytes
  pub server_sum_unpack : (k : ℕ) (s : List ℕ) → server_sum e n b seeds shares test (bit_of (bits_of s)) k ≡ server_sum e n b seeds shares test (bit_of (unpack k s)) k
  unfolding unpack
  server_sum_unpack k s = server_sum_local k (λ i h. sym (get_or-take k (bits_of s) i false h))
