-- A search for strings of n bits depends on the totals of prefixes of 1 to n bits alone, and on which of them are kept.
use Prim.Native.Nat.{ℕ, zero, suc, ◌+◌, ◌≤◌, ◌<◌}
use native.Mathlib.Omega.{arith}
use mathlib.Core.Path.{◌≡◌, refl, ap, ap₂, ◌∙◌}
use mathlib.Core.Bool.{Bool, ◌&&◌}
use mathlib.Core.List.{List, [], ◌∷◌, ◌++◌}
use lib.ListN.{length}
use lib.Dec.{leb}
use Rattle.places.specs.Lists.{All, select}
use Rattle.bits.specs.Strings.{Bits}
use Rattle.numbers.specs.Numbers.{little}
use Rattle.query.specs.Query.{OfLength, query, limit, children}
use Rattle.tree.specs.SearchRule.{start, totals, level, kept_from, fits_from, record_from, heading, is_kept, search_record, search_list, search_fits}
use Rattle.places.proofs.Lists.{all_map}
use Rattle.query.proofs.Children.{children_longer, kept_longer}

-- two tests that agree at the prefixes of one query
select_same : (K L : Bits → Bool) (qs : List Bits) → All (λ q. K q ≡ L q) qs → select K qs ≡ select L qs
select_same K L [] a = refl
select_same K L (q ∷ qs) a = rw (a.0, select_same K L qs a.1)

-- ---- totals that agree at the prefixes of one query

module _ (T U : Bits → ℕ) where
  abbrev pub SameAt : Bits → Type 0
  SameAt q = T q ≡ U q

  pub kept_same : (enough : ℕ → Bool) (qs : List Bits) → All SameAt qs → select (is_kept enough T) qs ≡ select (is_kept enough U) qs
  kept_same enough qs a = select_same (is_kept enough T) (is_kept enough U) qs (all_map SameAt _ (λ q e. ap enough e) qs a)

  pub totals_same : (qs : List Bits) → All SameAt qs → totals T qs ≡ totals U qs
  totals_same [] a = refl
  totals_same (q ∷ qs) a = ap₂ (λ x s. little 8 x ++ s) a.0 (totals_same qs a.1)

  pub level_same : (k : ℕ) (qs : List Bits) → All SameAt qs → level T k qs ≡ level U k qs
  level_same k [] a = refl
  level_same k (q ∷ qs) a = ap (λ r. query k (q ∷ qs) ++ r) (totals_same (q ∷ qs) a)

-- ---- totals, and what keeps them, that agree at all prefixes of 1 to n bits

module _ (enough also : ℕ → Bool) (T U : Bits → ℕ) (n : ℕ) (same : (q : Bits) → 0 < length q → length q ≤ n → T q ≡ U q)
    (tests : (q : Bits) → 0 < length q → length q ≤ n → enough (T q) ≡ also (U q)) where
  abbrev K : Bits → Bool
  K q = enough (T q)

  abbrev L : Bits → Bool
  L q = also (U q)

  asked : (P : Bits → Type 0) → ((q : Bits) → 0 < length q → length q ≤ n → P q) → (k : ℕ) (ps : List Bits) → OfLength k ps → k < n → All P (children ps)
  asked P f k ps a l = all_map (λ q. length q ≡ suc k) P (λ q e. f q (omega (arith, e)) (omega (arith, e))) (children ps) (children_longer k ps a)

  next_same : (k : ℕ) (ps : List Bits) → OfLength k ps → k < n → select K (children ps) ≡ select L (children ps)
  next_same k ps a l = select_same K L (children ps) (asked (λ q. K q ≡ L q) tests k ps a l)

  kept_from_same : (m k : ℕ) (ps : List Bits) → OfLength k ps → k + m ≤ n → kept_from K m ps ≡ kept_from L m ps
  kept_from_same zero k ps a l = refl
  kept_from_same (suc m) k ps a l =
      kept_from_same m (suc k) (select K (children ps)) (kept_longer K k ps a) (omega arith)
      ∙ ap (kept_from L m) (next_same k ps a (omega arith))

  fits_from_same : (m k : ℕ) (ps : List Bits) → OfLength k ps → k + m ≤ n → fits_from K m ps ≡ fits_from L m ps
  fits_from_same zero k ps a l = refl
  fits_from_same (suc m) k ps a l =
      ap (λ (b : Bool). leb (length (children ps)) limit && b)
      (fits_from_same m (suc k) (select K (children ps)) (kept_longer K k ps a) (omega arith)
      ∙ ap (fits_from L m) (next_same k ps a (omega arith)))

  record_from_same : (m k : ℕ) (ps : List Bits) → OfLength k ps → k + m ≤ n → record_from K T m k ps ≡ record_from L U m k ps
  record_from_same zero k ps a l = refl
  record_from_same (suc m) k ps a l =
      ap₂ ◌++◌ (level_same T U k (children ps) (asked (SameAt T U) same k ps a (omega arith)))
      (record_from_same m (suc k) (select K (children ps)) (kept_longer K k ps a) (omega arith)
      ∙ ap (record_from L U m (suc k)) (next_same k ps a (omega arith)))

  -- The prefixes kept of each length are the same.
  pub list_agrees : (k : ℕ) → k ≤ n → search_list enough T k ≡ search_list also U k
  unfolding search_list
  list_agrees k l = kept_from_same k 0 start (refl, tt) (omega arith)

  -- So is whether every query is within the limit.
  pub fits_agree : search_fits enough T n ≡ search_fits also U n
  unfolding search_fits
  fits_agree = fits_from_same n 0 start (refl, tt) (omega arith)

  -- So is the record.
  pub record_agrees : (C : ℕ) → search_record enough T C n ≡ search_record also U C n
  unfolding search_record
  record_agrees C = ap (λ (r : List ℕ). heading C ++ r) (record_from_same n 0 start (refl, tt) (omega arith))
