-- Honest totals: children's totals add to their parent's, and queries are short.
use Prim.Native.Nat.{ℕ, zero, suc, ◌+◌, ◌*◌, ◌/◌, ◌≤◌, ◌<◌}
use native.Mathlib.Omega.{arith}
use native.Mathlib.Nat.{zero-add, add-zero, add-suc, suc-add, suc-ne-zero, le_trans, le-div_iff_mul-le, div-le_self}
use mathlib.Core.Path.{◌≡◌, refl, sym, ◌∙◌}
use mathlib.Core.Bool.{Bool, true, false, cond}
use mathlib.Core.List.{List, [], ◌∷◌, ◌++◌}
use borrow.Author.Tests.{leb-true, le-leb}
use lib.ListN.{length}
use lib.Dec.{leb}
use Rattle.places.specs.Lists.{digit, All, select}
use Rattle.bits.specs.Strings.{Bits, ◌▹◌, is_prefix, count}
use Rattle.query.specs.Query.{OfLength, limit, children}
use Rattle.tree.specs.SearchRule.{start, kept_from, fits_from, search_list, search_fits}
use Rattle.tree.specs.Cut.{honest_list, honest_fits}
use Rattle.places.proofs.Lists.{digit_le, number_le, all_map}
use Rattle.query.proofs.Children.{children_length}
use Rattle.tree.proofs.Kept.{Open, open_last, Survives, survives_kept}

-- ---- children and parents

prefix_splits : (q s : Bits) → length q < length s → digit (is_prefix q s) ≡ digit (is_prefix (q ▹ false) s) + digit (is_prefix (q ▹ true) s)
prefix_splits q [] l = absurd (omega arith)
prefix_splits [] (false ∷ s) l = refl
prefix_splits [] (true ∷ s) l = refl
prefix_splits (false ∷ q) (false ∷ s) l = prefix_splits q s (omega arith)
prefix_splits (false ∷ q) (true ∷ s) l = refl
prefix_splits (true ∷ q) (false ∷ s) l = refl
prefix_splits (true ∷ q) (true ∷ s) l = prefix_splits q s (omega arith)

-- The totals of two children add to their parent's.
pub count_children : (n : ℕ) (xs : List Bits) → OfLength n xs → (q : Bits) → length q < n → count xs q ≡ count xs (q ▹ false) + count xs (q ▹ true)
count_children n [] a q l = refl
count_children n (x ∷ xs) a q l = omega (arith, prefix_splits q x (omega (arith, a.0)), count_children n xs a.1 q l)

pub count_all : (xs : List Bits) → count xs [] ≡ length xs
count_all [] = refl
count_all (x ∷ xs) = omega (arith, count_all xs)

-- The first two totals add to the number of strings.
pub first_totals : (n : ℕ) (xs : List Bits) → OfLength n xs → 1 ≤ n → count xs (false ∷ []) + count xs (true ∷ []) ≡ length xs
first_totals n xs a h = sym (count_children n xs a [] h) ∙ count_all xs

-- no string has a longer prefix without the shorter
prefix_falls : (p q s : Bits) → digit (is_prefix (p ++ q) s) ≤ digit (is_prefix p s)
prefix_falls [] q s = digit_le (is_prefix q s)
prefix_falls (b ∷ p) q [] = omega arith
prefix_falls (false ∷ p) q (false ∷ s) = prefix_falls p q s
prefix_falls (false ∷ p) q (true ∷ s) = omega arith
prefix_falls (true ∷ p) q (false ∷ s) = omega arith
prefix_falls (true ∷ p) q (true ∷ s) = prefix_falls p q s

count_falls : (xs : List Bits) (p q : Bits) → count xs (p ++ q) ≤ count xs p
count_falls [] p q = omega arith
count_falls (x ∷ xs) p q = omega (arith, prefix_falls p q x, count_falls xs p q)

open_falls : (t : ℕ) (T : Bits → ℕ) → ((p q : Bits) → T (p ++ q) ≤ T p) → (s : Bits) → t ≤ T s → Open (λ q. leb t (T q)) s
open_falls t T f [] h = tt
open_falls t T f (b ∷ s) h = (le-leb t (T (b ∷ [])) (le_trans h (f (b ∷ []) s)), open_falls t (λ q. T (b ∷ q)) (λ p q. f (b ∷ p) q) s h)

-- every prefix of a heavy string is kept
pub heavy_open : (t : ℕ) (xs : List Bits) (s : Bits) → t ≤ count xs s → Open (λ q. leb t (count xs q)) s
heavy_open t xs s h = open_falls t (count xs) (count_falls xs) s h

-- what is kept is heavy
pub survives_heavy : (k t : ℕ) (xs : List Bits) (s : Bits) → Survives (λ q. leb t (count xs q)) (suc k) s → t ≤ count xs s
survives_heavy k t xs [] v = absurd (suc-ne-zero _ (sym v.0))
survives_heavy k t xs (b ∷ s) v = leb-true t (count xs (b ∷ s)) (open_last (λ q. leb t (count xs q)) b s v.1)

-- a total is at most the number of strings
pub count_le : (xs : List Bits) (q : Bits) → count xs q ≤ length xs
count_le xs q = number_le (is_prefix q) xs

-- ---- the number of prefixes in a query

-- how many strings the prefixes stand for
pub sum : (Bits → ℕ) → List Bits → ℕ
sum T [] = 0
sum T (p ∷ ps) = T p + sum T ps

sum_select : (T : Bits → ℕ) (f : Bits → Bool) (ps : List Bits) → sum T (select f ps) ≤ sum T ps
unfolding sum
sum_select T f [] = omega arith
sum_select T f (p ∷ ps) = go (f p) (sum_select T f ps)
  where
    go : (c : Bool) → sum T (select f ps) ≤ sum T ps → sum T (cond c (p ∷ select f ps) (select f ps)) ≤ T p + sum T ps
    go true h = omega arith
    go false h = omega arith

sum_least : (t : ℕ) (T : Bits → ℕ) (ps : List Bits) → All (λ p. t ≤ T p) ps → length ps * t ≤ sum T ps
unfolding sum
sum_least t T [] a = omega arith
sum_least t T (p ∷ ps) a = omega (arith, a.0, sum_least t T ps a.1)

-- whether at least t of the strings have the prefix
abbrev pub heavy : ℕ → List Bits → Bits → Bool
heavy t xs q = leb t (count xs q)

-- at least h of the strings have each kept prefix of 1 to n bits
abbrev pub Held : (Bits → Bool) → ℕ → List Bits → ℕ → Type 0
Held keeps h xs n = (q : Bits) → 0 < length q → length q ≤ n → keeps q ≡ true → h ≤ count xs q

-- at least t have each heavy one
pub heavy_held : (t : ℕ) (xs : List Bits) (n : ℕ) → Held (heavy t xs) t xs n
heavy_held t xs n q some fits k = leb-true t (count xs q) k

module _ (keeps : Bits → Bool) (xs : List Bits) where
  -- ps are kept prefixes of k bits, and stand for no more strings than there are
  abbrev pub Stands : ℕ → List Bits → Type 0
  Stands k ps = All (Survives keeps k) ps × (sum (count xs) ps ≤ length xs)

  pub stands_start : Stands 0 start
  unfolding sum
  stands_start = (((refl, tt), tt), omega (arith, count_all xs))

-- Strings of n bits, and a test that keeps only prefixes that at least h of them have.
module _ (keeps : Bits → Bool) (h n : ℕ) (xs : List Bits) (all : OfLength n xs) (held : Held keeps h xs n) where
  survives_held : (k : ℕ) → suc k ≤ n → (p : Bits) → Survives keeps (suc k) p → h ≤ count xs p
  survives_held k l [] v = absurd (suc-ne-zero _ (sym v.0))
  survives_held k l (b ∷ p) v = held (b ∷ p) (omega arith) (omega (arith, v.0)) (open_last keeps b p v.1)

  -- at most C / h prefixes of one length are kept
  pub stands_few : 1 ≤ h → (k : ℕ) → suc k ≤ n → (ps : List Bits) → Stands keeps xs (suc k) ps → length ps ≤ length xs / h
  stands_few pos k l ps a =
      (le-div_iff_mul-le pos).1 (le_trans (sum_least h (count xs) ps (all_map (Survives keeps (suc k)) _ (survives_held k l) ps a.0)) a.1)

  sum_children : (k : ℕ) (ps : List Bits) → OfLength k ps → k < n → sum (count xs) (children ps) ≡ sum (count xs) ps
  unfolding sum
  sum_children k [] a l = refl
  sum_children k (p ∷ ps) a l = omega (arith, count_children n xs all p (omega (arith, a.0)), sum_children k ps a.1 l)

  pub stands_kept : (k : ℕ) (ps : List Bits) → Stands keeps xs k ps → k < n → Stands keeps xs (suc k) (select keeps (children ps))
  stands_kept k ps a l =
      let c = sum_children k ps (all_map (Survives keeps k) _ (λ p v. v.0) ps a.0) l in
      (survives_kept keeps k ps a.0, omega (arith, sum_select (count xs) keeps (children ps), c, a.1))

  stands_from : (m k : ℕ) (ps : List Bits) → Stands keeps xs k ps → k + m ≤ n → Stands keeps xs (k + m) (kept_from keeps m ps)
  stands_from zero k ps a l = rw add-zero a
  stands_from (suc m) k ps a l =
      rw (add-suc, ← suc-add k m) (stands_from m (suc k) (select keeps (children ps)) (stands_kept k ps a (omega arith)) (omega arith))

  module _ (pos : 1 ≤ h) where
    -- At most C / h prefixes of k + 1 bits are kept.
    pub kept_few : (k : ℕ) → suc k ≤ n → length (kept_from keeps (suc k) start) ≤ length xs / h
    kept_few k l =
        stands_few pos k l (kept_from keeps (suc k) start) (rw zero-add at (stands_from (suc k) 0 start (stands_start keeps xs) (omega arith)))

    fits_from_lem : length xs ≤ 65535 → (m k : ℕ) (ps : List Bits) → Stands keeps xs k ps → k + m ≤ n → length ps ≤ 65535 → fits_from keeps m ps ≡ true
    fits_from_lem c zero k ps a l few = refl
    fits_from_lem c (suc m) k ps a l few =
        let kept = select keeps (children ps) in
        let v = stands_kept k ps a (omega arith) in
        rw (le-leb (length (children ps)) limit (omega (arith, children_length ps)))
        (fits_from_lem c m (suc k) kept v (omega arith) (omega (arith, stands_few pos k (omega arith) kept v, div-le_self (length xs) h)))

    -- With at most 65,535 strings no query passes the limit.
    pub all_fit : length xs ≤ 65535 → fits_from keeps n start ≡ true
    all_fit c = fits_from_lem c n 0 start (stands_start keeps xs) (omega arith) (omega arith)

-- ---- the same where at least t have a kept prefix

module _ (n t : ℕ) (xs : List Bits) (all : OfLength n xs) (pos : 1 ≤ t) where
  -- At most C / t prefixes of k + 1 bits are kept.
  pub kept_length : (k : ℕ) → suc k ≤ n → length (honest_list (suc k) t xs) ≤ length xs / t
  unfolding search_list
  kept_length k l = kept_few (heavy t xs) t n xs all (heavy_held t xs n) pos k l

  -- A query after the first has at most 2 × (C / t) prefixes.
  pub query_most : (k : ℕ) → suc k ≤ n → length (children (honest_list (suc k) t xs)) ≤ 2 * (length xs / t)
  query_most k l = omega (arith, children_length (honest_list (suc k) t xs), kept_length k l)

  -- An honest search of at most 65,535 strings never passes the limit.
  pub honest_fits_lem : length xs ≤ 65535 → honest_fits n t xs ≡ true
  unfolding search_fits
  honest_fits_lem c = all_fit (heavy t xs) t n xs all (heavy_held t xs n) pos c
