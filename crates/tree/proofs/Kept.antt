-- Which prefixes a search keeps, for any totals.
use Prim.Native.Nat.{ℕ, zero, suc, ◌+◌, ◌-◌}
use native.Mathlib.Omega.{arith}
use native.Mathlib.Nat.{add-zero, zero-add, add-suc, suc-add, suc-ne-zero, suc_inj}
use mathlib.Core.Path.{◌≡◌, refl, sym, ap, ◌∙◌}
use mathlib.Core.Logic.{◌↔◌}
use mathlib.Core.Bool.{Bool, true}
use mathlib.Core.List.{List, [], ◌∷◌, ◌++◌, append_assoc, append-nil}
use mathlib.Core.List.Memᴰ.{head as here}
use lib.ListN.{length, length-append}
use Rattle.places.specs.Lists.{◌∈◌, All, select}
use Rattle.bits.specs.Strings.{Bits, ◌▹◌, Ascending}
use Rattle.query.specs.Query.{OfLength, children}
use Rattle.tree.specs.SearchRule.{start, kept_from, is_kept, search_list, Ended}
use Rattle.tree.specs.Cut.{prefixes}
use Rattle.places.proofs.Lists.{all_map, all_mem, all_select, mem_select, all_over_map}
use Rattle.tree.proofs.Steps.{kept_nothing}
use Rattle.query.proofs.Children.{mem_children, all_children, children_ascending, select_ascending}

-- ---- every non-empty prefix of a string is kept, one bit after the other

abbrev pub Open : (Bits → Bool) → Bits → Type 0
Open keeps [] = Unit {0}
Open keeps (b ∷ p) = (keeps (b ∷ []) ≡ true) × Open (λ q. keeps (b ∷ q)) p

pub open_prefixes : (keeps : Bits → Bool) (s : Bits) → Open keeps s ↔ All (λ q. keeps q ≡ true) (prefixes s)
open_prefixes keeps [] = (λ o. tt, λ o. tt)
open_prefixes keeps (b ∷ s) =
    let m = all_over_map (λ q. keeps q ≡ true) (λ q. b ∷ q) (prefixes s) in
    let h = open_prefixes (λ q. keeps (b ∷ q)) s in
    (λ o. (o.0, m.1 (h.0 o.1)), λ a. (a.0, h.1 (m.0 a.1)))

pub open_snoc : (keeps : Bits → Bool) (p : Bits) (b : Bool) → Open keeps p → keeps (p ▹ b) ≡ true → Open keeps (p ▹ b)
open_snoc keeps [] b o k = (k, tt)
open_snoc keeps (c ∷ p) b o k = (o.0, open_snoc (λ q. keeps (c ∷ q)) p b o.1 k)

pub open_last : (keeps : Bits → Bool) (b : Bool) (p : Bits) → Open keeps (b ∷ p) → keeps (b ∷ p) ≡ true
open_last keeps b [] o = o.0
open_last keeps b (c ∷ p) o = open_last (λ q. keeps (b ∷ q)) c p o.1

-- ---- level by level

module _ (keeps : Bits → Bool) where
  -- p has k bits, and every non-empty prefix of it is kept
  abbrev pub Survives : ℕ → Bits → Type 0
  Survives k p = (length p ≡ k) × Open keeps p

  pub survives_kept : (k : ℕ) (ps : List Bits) → All (Survives k) ps → All (Survives (suc k)) (select keeps (children ps))
  survives_kept k ps a =
      all_select (Survives (suc k)) keeps (children ps)
      (all_children (Survives k) (λ q. keeps q ≡ true → Survives (suc k) q)
      (λ p b s h. (omega (arith, length-append p (b ∷ []), s.0), open_snoc keeps p b s.1 h)) ps a)

  pub survives_from : (m k : ℕ) (ps : List Bits) → All (Survives k) ps → All (Survives (k + m)) (kept_from keeps m ps)
  survives_from zero k ps a = rw add-zero a
  survives_from (suc m) k ps a = rw (add-suc, ← suc-add k m) (survives_from m (suc k) (select keeps (children ps)) (survives_kept k ps a))

  mem_from : (m : ℕ) (ps : List Bits) (p : Bits) → p ∈ ps → (r : Bits) → length r ≡ m → Open (λ q. keeps (p ++ q)) r → p ++ r ∈ kept_from keeps m ps
  mem_from zero ps p i [] l o = rw append-nil i
  mem_from zero ps p i (c ∷ r) l o = absurd (suc-ne-zero _ l)
  mem_from (suc m) ps p i [] l o = absurd (suc-ne-zero _ (sym l))
  mem_from (suc m) ps p i (c ∷ r) l o =
      rw (← append_assoc p (c ∷ []) r)
      (mem_from m (select keeps (children ps)) (p ▹ c) (mem_select keeps (mem_children i c) o.0) r (suc_inj l) (simp append_assoc o.1))

  ascending_from : (m : ℕ) (ps : List Bits) → Ascending ps → Ascending (kept_from keeps m ps)
  ascending_from zero ps a = a
  ascending_from (suc m) ps a = ascending_from m (select keeps (children ps)) (select_ascending keeps (children ps) (children_ascending ps a))

  -- m levels down and then n more
  kept_add : (m n : ℕ) (ps : List Bits) → kept_from keeps (m + n) ps ≡ kept_from keeps n (kept_from keeps m ps)
  kept_add zero n ps = rw zero-add
  kept_add (suc m) n ps = rw suc-add (kept_add m n (select keeps (children ps)))

-- ---- the list

module _ (enough : ℕ → Bool) (T : Bits → ℕ) (n : ℕ) where
  pub list_survives : All (Survives (is_kept enough T) n) (search_list enough T n)
  unfolding search_list
  list_survives = rw zero-add at (survives_from (is_kept enough T) n 0 start ((refl, tt), tt))

  -- The strings of the list have n bits.
  pub list_length_lem : OfLength n (search_list enough T n)
  list_length_lem = all_map (Survives (is_kept enough T) n) _ (λ s v. v.0) (search_list enough T n) list_survives

  -- The list holds the strings of n bits all of whose non-empty prefixes are kept, and no other.
  pub list_exact : (s : Bits) → (s ∈ search_list enough T n) ↔ ((length s ≡ n) × All (λ q. enough (T q) ≡ true) (prefixes s))
  unfolding search_list
  list_exact s =
      let f = open_prefixes (is_kept enough T) s in (
        λ i. let v = all_mem (Survives (is_kept enough T) n) list_survives i in (v.0, f.0 v.1),
        λ c. mem_from (is_kept enough T) n start [] (here refl) s c.0 (f.1 c.1),
      )

  -- The list is strictly ascending.
  pub list_ascending : Ascending (search_list enough T n)
  unfolding search_list
  list_ascending = ascending_from (is_kept enough T) n start (tt, tt)

  -- A search that ends has an empty list.
  pub ended_empty : Ended enough T n → search_list enough T n ≡ []
  unfolding search_list
  ended_empty d =
      let e : n ≡ d.0 + (n - d.0) = omega (arith, d.1) in
      ap (λ m. kept_from (is_kept enough T) m start) e
      ∙ kept_add (is_kept enough T) d.0 (n - d.0) start
      ∙ rw d.2 (kept_nothing (is_kept enough T) (n - d.0))
