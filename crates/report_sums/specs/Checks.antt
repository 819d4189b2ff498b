-- What causes 4, 6 and 7 say of the reports that a server is lent.
use Rattle.std.specs.Prelude.{ℕ, ◌*◌, ◌/◌, ◌%◌, ◌≤◌, ◌<◌, ◌≡◌, Bool, true, not, ◌||◌, List, ◌≢◌, ◌⊎◌, length, get_or, eqb}
use Rattle.group.specs.Modular.{modulus}
use Rattle.point.specs.PublicShare.{control_bytes, public_share_length, binary_digit, read_correction, every, payloads_below, spare_bits_zero}
use Rattle.report_sums.specs.Reports.{public_share_at}

-- Of what a server is lent: the seeds or the public shares have the wrong length, or disagree in count.
abbrev pub WrongLengths : ℕ → List ℕ → List ℕ → Type 0
WrongLengths n seeds shares =
    (length seeds % 16 ≢ 0) ⊎ (length shares % public_share_length n ≢ 0) ⊎ (length seeds / 16 ≢ length shares / public_share_length n)

abbrev pub wrong_lengths : ℕ → List ℕ → List ℕ → Bool
wrong_lengths n seeds shares =
    not (eqb (length seeds % 16) 0)
    || (not (eqb (length shares % public_share_length n) 0) || not (eqb (length seeds / 16) (length shares / public_share_length n)))

-- of so many reports: a payload correction of some level of some report is p or more
abbrev pub PayloadTooLarge : ℕ → ℕ → List ℕ → Type 0
PayloadTooLarge n reports shares =
    (i : ℕ) × (i < reports) × (k : ℕ) × (k < n) × (modulus ≤ (read_correction n (public_share_at n shares i) k).payload)

abbrev pub payload_too_large : ℕ → ℕ → List ℕ → Bool
payload_too_large n reports shares = not (every reports (λ i. payloads_below modulus n (public_share_at n shares i)))

-- in some report's public share a bit of the control bytes past those of n levels is set
abbrev pub SpareBitsSet : ℕ → ℕ → List ℕ → Type 0
SpareBitsSet n reports shares =
    (i : ℕ) × (i < reports)
    × (j : ℕ) × (2 * n ≤ j) × (j < 8 * control_bytes n) × (binary_digit (get_or (public_share_at n shares i) (j / 8) 0) (j % 8) ≡ true)

abbrev pub spare_bits_set : ℕ → ℕ → List ℕ → Bool
spare_bits_set n reports shares = not (every reports (λ i. spare_bits_zero n (public_share_at n shares i)))
