-- The reports that a server is lent, which of them count, and its sum over these at one prefix.
use Rattle.std.specs.Prelude.{ℕ, zero, suc, ◌*◌, ◌/◌, min, Bool, true, cond, List, length, get_or, take, drop, eqb}
use Rattle.group.specs.Group.{Group}
use Rattle.group.specs.Modular.{field}
use Rattle.expander.specs.declared.Expander.{Expander}
use Rattle.point.specs.Evaluation.{share}
use Rattle.point.specs.PublicShare.{public_share_length, read_correction}
use Rattle.point.specs.Instance.{scheme}

-- how many reports are lent: as many as have their seed and their public share in full; none where n = 0, as a public share then has no bytes and
-- a number divided by 0 is 0
abbrev pub report_count : ℕ → List ℕ → List ℕ → ℕ
report_count n seeds shares = min (length seeds / 16) (length shares / public_share_length n)

-- the root seed of report i
abbrev pub seed_at : List ℕ → ℕ → List ℕ
seed_at seeds i = take 16 (drop (16 * i) seeds)

-- the public share of report i
abbrev pub public_share_at : ℕ → List ℕ → ℕ → List ℕ
public_share_at n shares i = take (public_share_length n) (drop (public_share_length n * i) shares)

-- report i counts where its mark is zero or there is none
abbrev pub counts : List ℕ → ℕ → Bool
counts marks i = eqb (get_or marks i 0) 0

-- every report counts
abbrev pub all_count : ℕ → Bool
all_count i = true

-- the sum in the group G of f i over the places i below m that pass the test
unfoldable pub sum_where : {A : Type 0} → Group A → (ℕ → Bool) → ℕ → (ℕ → A) → A
sum_where G test zero f = G.zero
sum_where G test (suc m) f = cond (test m) (G.add (sum_where G test m f) (f m)) (sum_where G test m f)

module _ (e : Expander) (n : ℕ) (b : Bool) (seeds shares : List ℕ) where
  -- server b's share of report i at the first k bits of q
  unfoldable pub lent_share : (ℕ → Bool) → ℕ → ℕ → ℕ
  lent_share q k i = share (scheme e) (read_correction n (public_share_at n shares i)) (seed_at seeds i) b q k

  -- server b's sum over the lent reports that pass the test, at the first k bits of q
  unfoldable pub server_sum : (ℕ → Bool) → (ℕ → Bool) → ℕ → ℕ
  server_sum test q k = sum_where field test (report_count n seeds shares) (lent_share q k)
