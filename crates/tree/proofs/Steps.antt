-- The search as a loop: what one level adds, and what is left once nothing is kept.
use Prim.Native.Nat.{ℕ, zero, suc, ◌+◌, ◌-◌, ◌≤◌, ◌<◌}
use native.Mathlib.Omega.{arith}
use native.Mathlib.Nat.{add-zero}
use mathlib.Core.Path.{◌≡◌, refl, sym, ap, ◌∙◌}
use mathlib.Core.Bool.{Bool, true}
use mathlib.Core.List.{List, [], ◌++◌, append_assoc, append-nil}
use Rattle.places.specs.Lists.{select}
use Rattle.bits.specs.Strings.{Bits}
use Rattle.query.specs.Query.{children}
use Rattle.tree.specs.SearchRule.{start, level, kept_from, fits_from, record_from, heading, is_kept, search_record}

one_more : (n k : ℕ) → k < n → n - k ≡ suc (n - suc k)
one_more n k h = omega arith

module _ (keeps : Bits → Bool) where
  -- one step of a loop that has k of n levels behind it, and the prefixes ps kept
  module _ (n k : ℕ) (ps : List Bits) (h : k < n) where
    pub record_step : (T : Bits → ℕ)
        → record_from keeps T (n - k) k ps ≡ level T k (children ps) ++ record_from keeps T (n - suc k) (suc k) (select keeps (children ps))
    record_step T = rw (one_more n k h)

  -- below nothing, nothing is kept and nothing recorded
  pub kept_nothing : (m : ℕ) → kept_from keeps m [] ≡ []
  kept_nothing zero = refl
  kept_nothing (suc m) = kept_nothing m

  pub fits_nothing : (m : ℕ) → fits_from keeps m [] ≡ true
  fits_nothing zero = refl
  fits_nothing (suc m) = fits_nothing m

  pub record_nothing : (T : Bits → ℕ) (m k : ℕ) → record_from keeps T m k [] ≡ []
  record_nothing T zero k = refl
  record_nothing T (suc m) k = record_nothing T m (suc k)

  -- one level more is one step more at the end
  pub kept_last : (m : ℕ) (ps : List Bits) → kept_from keeps (suc m) ps ≡ select keeps (children (kept_from keeps m ps))
  kept_last zero ps = refl
  kept_last (suc m) ps = kept_last m (select keeps (children ps))

  pub record_last : (T : Bits → ℕ) (m k : ℕ) (ps : List Bits)
      → record_from keeps T (suc m) k ps ≡ record_from keeps T m k ps ++ level T (k + m) (children (kept_from keeps m ps))
  record_last T zero k ps = rw (add-zero, append-nil)
  record_last T (suc m) k ps =
      let qs = select keeps (children ps) in
      let e : suc k + m ≡ k + suc m = omega arith in
      let before = record_from keeps T m (suc k) qs in
      ap (λ (r : List ℕ). level T k (children ps) ++ r)
      (record_last T m (suc k) qs ∙ ap (λ (j : ℕ). before ++ level T j (children (kept_from keeps m qs))) e)
      ∙ sym (append_assoc (level T k (children ps)) before _)

-- A record begins with the first query and its two totals.
pub record_begins : (enough : ℕ → Bool) (T : Bits → ℕ) (C n : ℕ) → 1 ≤ n
    → search_record enough T C n ≡ heading C ++ (level T 0 (children start) ++ record_from (is_kept enough T) T (n - 1) 1 (select (is_kept enough T) (children start)))
unfolding search_record
record_begins enough T C n h =
    let e : n - 0 ≡ n = omega arith in
    ap (λ r. heading C ++ r) (rw e at (record_step (is_kept enough T) n 0 start h T))
