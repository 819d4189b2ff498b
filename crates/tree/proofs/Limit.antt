-- When every query of a search is within the limit.
use Prim.Native.Nat.{ℕ, zero, suc, ◌≤◌, ◌<◌}
use native.Mathlib.Omega.{arith}
use mathlib.Core.Path.{◌≡◌, refl}
use mathlib.Core.Bool.{Bool, true, false, ◌&&◌, true≢false}
use mathlib.Core.List.{List}
use mathlib.Core.Logic.{◌↔◌}
use borrow.Author.Tests.{leb-true, leb-false}
use lib.ListN.{length}
use lib.Dec.{leb}
use Rattle.places.specs.Lists.{select}
use Rattle.bits.specs.Strings.{Bits}
use Rattle.query.specs.Query.{limit, children}
use Rattle.tree.specs.SearchRule.{start, kept_from, fits_from, is_kept, search_list, search_fits}
use Rattle.places.proofs.Lists.{and_left, and_right}

module _ (keeps : Bits → Bool) where
  -- k levels below ps, within m levels, a query passes the limit
  abbrev Beyond : ℕ → List Bits → Type 0
  Beyond m ps = (k : ℕ) × (k < m) × (limit < length (children (kept_from keeps k ps)))

  fits_at : (m k : ℕ) (ps : List Bits) → k < m → fits_from keeps m ps ≡ true → length (children (kept_from keeps k ps)) ≤ limit
  fits_at zero k ps h e = absurd (omega arith)
  fits_at (suc m) zero ps h e = leb-true _ limit (and_left (leb (length (children ps)) limit) _ e)
  fits_at (suc m) (suc k) ps h e = fits_at m k (select keeps (children ps)) (omega arith) (and_right (leb (length (children ps)) limit) _ e)

  beyond_from : (m : ℕ) (ps : List Bits) → fits_from keeps m ps ≡ false → Beyond m ps
  beyond_from zero ps e = absurd (true≢false e)
  beyond_from (suc m) ps e = go (leb (length (children ps)) limit) refl e (beyond_from m (select keeps (children ps)))
    where
      go : (b : Bool) → leb (length (children ps)) limit ≡ b → (b && fits_from keeps m (select keeps (children ps))) ≡ false
          → (fits_from keeps m (select keeps (children ps)) ≡ false → Beyond m (select keeps (children ps))) → Beyond (suc m) ps
      go false f e next = (0, omega arith, leb-false (length (children ps)) limit f)
      go true f e next = let d = next e in (suc d.0, omega (arith, d.1), d.2)

module _ (enough : ℕ → Bool) (T : Bits → ℕ) (n : ℕ) where
  -- Where no query passes the limit, each query is within it.
  pub fits_within : search_fits enough T n ≡ true → (k : ℕ) → k < n → length (children (search_list enough T k)) ≤ limit
  unfolding search_fits search_list
  fits_within e k h = fits_at (is_kept enough T) n k start h e

  -- The test fails exactly when some query passes the limit.
  pub fits_not : (search_fits enough T n ≡ false) ↔ ((k : ℕ) × (k < n) × (limit < length (children (search_list enough T k))))
  unfolding search_fits search_list
  fits_not = (
    beyond_from (is_kept enough T) n start,
    λ d. go (search_fits enough T n) refl d,
  )
    where
      go : (b : Bool) → search_fits enough T n ≡ b → (k : ℕ) × (k < n) × (limit < length (children (search_list enough T k))) → b ≡ false
      go false e d = refl
      go true e d = absurd (omega (arith, d.2, fits_within e d.0 d.1))
