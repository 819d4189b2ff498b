-- A server's sum over what it is lent for honest reports.
use mathlib.Core.Path.{◌≡◌, refl, ap, ap₂, ◌∙◌}
use mathlib.Core.Bool.{Bool, true, false}
use mathlib.Core.List.{List, [], ◌∷◌}
use Prim.Native.Nat.{ℕ, zero, suc, ◌+◌, ◌*◌, ◌/◌, ◌%◌, ◌≤◌, ◌<◌, min}
use native.Mathlib.Nat.{mul-div_right, min-eq_left}
use native.Mathlib.Omega.{arith}
use lib.ListN.{length, get_or}
use Rattle.places.specs.Lists.{All}
use Rattle.bits.specs.Strings.{Bits}
use Rattle.group.specs.Modular.{p, field}
use Rattle.group.proofs.Modular.{field_laws}
use Rattle.expander.specs.declared.Expander.{Expander}
use Rattle.point.specs.Evaluation.{bit_of, share}
use Rattle.point.specs.PublicShare.{public_share_length, read_correction}
use Rattle.point.specs.Totals.{Report, root_seed, sum_of, report_share, server_total, reports_total, report_public_share}
use Rattle.point.specs.Instance.{field_scheme, scheme}
use Rattle.point.proofs.Honest.{report_read}
use Rattle.point.proofs.Instance.{scheme_lawful, p_fits}
use Rattle.places.proofs.Lists.{all_map}
use Rattle.report_sums.specs.Reports.{report_count, seed_at, public_share_at, all_count, sum_where, lent_share, server_sum}
use Rattle.honest.proofs.Made.{MadeReport, lent_seeds, lent_shares, sum_at}
use Rattle.honest.proofs.Pieces.{all_at, pieces_length, piece_at}
use Rattle.honest.proofs.Keys.{key_passes}

-- ---- a sum from the left is a sum from the right

sum_shift : (m : ℕ) (f : ℕ → ℕ) → sum_where field all_count (suc m) f ≡ field.add (f 0) (sum_where field all_count m (λ i. f (suc i)))
unfolding sum_where
sum_shift zero f = field_laws.comm 0 (f 0)
sum_shift (suc m) f = ap (λ (s : ℕ). field.add s (f (suc m))) (sum_shift m f) ∙ field_laws.assoc (f 0) (sum_where field all_count m (λ i. f (suc i))) (f (suc m))

pub sum_over : {X : Type 0} (f : ℕ → ℕ) (g : X → ℕ) (xs : List X) (d : X) → ((i : ℕ) → i < length xs → f i ≡ g (get_or xs i d))
    → sum_where field all_count (length xs) f ≡ sum_of field.add field.zero g xs
unfolding sum_of sum_where
sum_over f g [] d h = refl
sum_over f g (x ∷ xs) d h =
    sum_shift (length xs) f
    ∙ ap₂ field.add (h 0 (omega arith)) (sum_over (λ i. f (suc i)) g xs d (λ i l. h (suc i) (omega arith)))

-- ---- what is lent

module _ (e : Expander) (n : ℕ) (from : 1 ≤ n) (rs : List (Report ℕ)) (made : All (MadeReport n) rs) where
  shares_sized : All (λ r. length (report_public_share (scheme e) n r) ≡ public_share_length n) rs
  shares_sized = all_map (MadeReport n) (λ r. length (report_public_share (scheme e) n r) ≡ public_share_length n) (λ r h. (key_passes e n r h).0) rs made

  pub shares_length : length (lent_shares e n rs) ≡ public_share_length n * length rs
  shares_length = pieces_length (public_share_length n) (report_public_share (scheme e) n) rs shares_sized

  pub shares_number : length (lent_shares e n rs) / public_share_length n ≡ length rs
  shares_number = ap (λ (l : ℕ). l / public_share_length n) shares_length ∙ mul-div_right (length rs) (omega arith)

  -- public share i that a server is lent is report i's own
  pub lent_public : (d : Report ℕ) (i : ℕ) → i < length rs → public_share_at n (lent_shares e n rs) i ≡ report_public_share (scheme e) n (get_or rs i d)
  lent_public d i h = piece_at (public_share_length n) (report_public_share (scheme e) n) rs d i shares_sized h

  module _ (b : Bool) where
    seeds_sized : All (λ r. length (root_seed b r) ≡ 16) rs
    seeds_sized = all_map (MadeReport n) (λ r. length (root_seed b r) ≡ 16) (λ r h. go b r h) rs made
      where
        go : (b : Bool) (r : Report ℕ) → MadeReport n r → length (root_seed b r) ≡ 16
        go false r h = h.sized0.size
        go true r h = h.sized1.size

    -- seed i that server b is lent is report i's own
    pub lent_seed : (d : Report ℕ) (i : ℕ) → i < length rs → seed_at (lent_seeds b rs) i ≡ root_seed b (get_or rs i d)
    lent_seed d i h = piece_at 16 (root_seed b) rs d i seeds_sized h

    pub seeds_length : length (lent_seeds b rs) ≡ 16 * length rs
    seeds_length = pieces_length 16 (root_seed b) rs seeds_sized

    pub seeds_number : length (lent_seeds b rs) / 16 ≡ length rs
    seeds_number = omega (arith, seeds_length)

    -- as many reports are lent as there are
    pub lent_count : report_count n (lent_seeds b rs) (lent_shares e n rs) ≡ length rs
    lent_count = ap₂ min seeds_number shares_number ∙ min-eq_left (omega arith)

    module _ (q : Bits) (fits : length q ≤ n) where
      -- its share of report i is the one that the theory speaks of
      lent_share_lem : (d : Report ℕ) (i : ℕ) → i < length rs
          → lent_share e n b (lent_seeds b rs) (lent_shares e n rs) (bit_of q) (length q) i ≡ report_share (scheme e) b q (get_or rs i d)
      unfolding lent_share
      lent_share_lem d i h =
          ap₂ (λ (c : List ℕ) (s : List ℕ). share (scheme e) (read_correction n c) s b (bit_of q) (length q)) (lent_public d i h) (lent_seed d i h)
          ∙ report_read (scheme e) (scheme_lawful e) p_fits n (get_or rs i d) (all_at (MadeReport n) rs d i made h) b q fits

      -- Server b's sum over what it is lent is its total over the reports.
      pub sum_total : sum_at e n rs b q ≡ server_total (scheme e) b q rs
      unfolding server_sum server_total field_scheme
      sum_total =
          let d : Report ℕ = record { string = []; seed0 = []; seed1 = []; weight = 0 } in
          ap (λ (m : ℕ). sum_where field all_count m (lent_share e n b (lent_seeds b rs) (lent_shares e n rs) (bit_of q) (length q))) lent_count
          ∙ sum_over (lent_share e n b (lent_seeds b rs) (lent_shares e n rs) (bit_of q) (length q)) (report_share (scheme e) b q) rs d (lent_share_lem d)

  -- Both servers' sums over what they are lent add modulo p to the total over the reports.
  pub sums_total : (q : Bits) → length q ≤ n → (sum_at e n rs false q + sum_at e n rs true q) % p ≡ reports_total (scheme e) q rs
  unfolding reports_total field_scheme
  sums_total q fits = ap₂ (λ (x y : ℕ). (x + y) % p) (sum_total false q fits) (sum_total true q fits)
