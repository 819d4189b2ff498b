-- The reports that a server is lent: how many, where each lies, and the sum over them, in the form that the code has.
use mathlib.Core.Path.{◌≡◌, refl, sym, ap, ap₂, ◌∙◌}
use mathlib.Core.Bool.{Bool, cond}
use mathlib.Core.List.{List}
use Prim.Native.Nat.{ℕ, suc, ◌+◌, ◌-◌, ◌*◌, ◌/◌, ◌≤◌, ◌<◌}
use native.Mathlib.Nat.{div-add-mod, min-le_left, min-le_right, mul-le-mul_left, mul-suc}
use native.Mathlib.Numerals.{add-one}
use native.Mathlib.Omega.{arith}
use lib.ListN.{length, take, drop}
use Rattle.places.specs.Places.{window}
use Rattle.places.proofs.Places.{window_inside}
use Rattle.expander.specs.declared.Expander.{Expander}
use Rattle.group.specs.Modular.{field}
use Rattle.point.specs.Evaluation.{share}
use Rattle.point.specs.PublicShare.{public_share_length, read_correction}
use Rattle.point.specs.Instance.{scheme}
use Rattle.report_sums.specs.Reports.{report_count, seed_at, public_share_at, sum_where, lent_share}

-- ---- where

-- piece i of l, where m holds more than i whole ones, ends within m
pub pieces_inside : (l i m : ℕ) → i < m / l → l * i + l ≤ m
pieces_inside l i m h =
    let most : l * suc i ≤ l * (m / l) = mul-le-mul_left l h in
    omega (arith, mul-suc l i, div-add-mod m l)

module _ (n : ℕ) (seeds shares : List ℕ) (i : ℕ) (h : i < report_count n seeds shares) where
  seed_inside : 16 * i + 16 ≤ length seeds
  seed_inside = pieces_inside 16 i (length seeds) (omega (arith, min-le_left (length seeds / 16) (length shares / public_share_length n)))

  pub share_inside : {l : ℕ} → l ≡ public_share_length n → l * i + l ≤ length shares
  share_inside {l} e =
      let less : i < length shares / l =
      rw e (omega (arith, min-le_right (length seeds / 16) (length shares / public_share_length n))) in
      pieces_inside l i (length shares) less

  -- the share of report i, from the seed and the part of the slice that the code takes
  pub lent_part : (e : Expander) (b : Bool) (q : ℕ → Bool) (k : ℕ) {l r : ℕ} {s : List ℕ} → l ≡ public_share_length n → s ≡ window 16 (16 * i) seeds
      → r ≡ share (scheme e) (read_correction n (take (l * i + l - l * i) (drop (l * i) shares))) s b q k → r ≡ lent_share e n b seeds shares q k i
  unfolding lent_share
  lent_part e b q k {l} f g a =
      let whole : l * i + l - l * i ≡ l = omega arith in
      let part : take (l * i + l - l * i) (drop (l * i) shares) ≡ public_share_at n shares i =
      ap (λ (m : ℕ). take m (drop (l * i) shares)) whole ∙ ap (λ (m : ℕ). take m (drop (m * i) shares)) f in
      let seed : _ ≡ seed_at seeds i = g ∙ window_inside 16 (16 * i) seeds seed_inside in
      a ∙ ap₂ (λ (c : List ℕ) (s : List ℕ). share (scheme e) (read_correction n c) s b q k) part seed

-- ---- their sum

module _ (test : ℕ → Bool) (f : ℕ → ℕ) where
  pub sum_none : 0 ≡ sum_where field test 0 f
  unfolding sum_where
  sum_none = refl

  pub sum_more : (m : ℕ) {s r : ℕ} → s ≡ sum_where field test m f → r ≡ cond (test m) (field.add s (f m)) s → r ≡ sum_where field test (m + 1) f
  unfolding sum_where
  sum_more m a b = b ∙ ap (λ (s : ℕ). cond (test m) (field.add s (f m)) s) a ∙ ap (λ (j : ℕ). sum_where field test j f) (sym (add-one m))
