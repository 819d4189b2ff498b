-- A sum over places may be made in any order: one more place that passes adds its value.
use Prim.Native.Nat.{ℕ, zero, suc, ◌<◌}
use native.Mathlib.Omega.{arith}
use native.Mathlib.Decide.{dec_lt}
use mathlib.Core.Path.{◌≡◌, refl, sym, ap, ap₂, ◌∙◌}
use mathlib.Core.Bool.{Bool, true, false, cond, true≢false}
use Rattle.group.specs.Group.{Group, CommutativeGroup}
use Rattle.report_sums.specs.Reports.{sum_where}

module _ {A : Type 0} (G : Group A) where
  -- tests that agree below m give the same sum
  pub sum_agree : (f g : ℕ → Bool) (m : ℕ) (h : ℕ → A) → ((i : ℕ) → i < m → f i ≡ g i) → sum_where G f m h ≡ sum_where G g m h
  unfolding sum_where
  sum_agree f g zero h e = refl
  sum_agree f g (suc m) h e =
      ap₂ (λ (b : Bool) (s : A). cond b (G.add s (h m)) s) (e m (omega arith)) (sum_agree f g m h (λ i l. e i (omega arith)))

  -- the sum of the same values is the same
  pub sum_values : (f : ℕ → Bool) (m : ℕ) (h k : ℕ → A) → ((i : ℕ) → i < m → h i ≡ k i) → sum_where G f m h ≡ sum_where G f m k
  unfolding sum_where
  sum_values f zero h k e = refl
  sum_values f (suc m) h k e =
      ap₂ (λ (x s : A). cond (f m) (G.add s x) s) (e m (omega arith)) (sum_values f m h k (λ i l. e i (omega arith)))

  -- where no place passes the sum is zero
  pub sum_none : (f : ℕ → Bool) (m : ℕ) (h : ℕ → A) → ((i : ℕ) → i < m → f i ≡ false) → sum_where G f m h ≡ G.zero
  unfolding sum_where
  sum_none f zero h e = refl
  sum_none f (suc m) h e = rw (e m (omega arith)) (sum_none f m h (λ i l. e i (omega arith)))

  module _ {In : A → Type 0} (L : CommutativeGroup A G In) where
    open L use {comm, assoc, in_add, in_zero}

    -- a sum is the written form of an element
    pub sum_in : (f : ℕ → Bool) (m : ℕ) (h : ℕ → A) → In (sum_where G f m h)
    unfolding sum_where
    sum_in f zero h = in_zero
    sum_in f (suc m) h = go (f m) (sum_in f m h)
      where
        go : (b : Bool) → In (sum_where G f m h) → In (cond b (G.add (sum_where G f m h) (h m)) (sum_where G f m h))
        go true i = in_add _ _
        go false i = i

    exchange : (x y z : A) → G.add (G.add x y) z ≡ G.add (G.add x z) y
    exchange x y z = assoc x y z ∙ ap (G.add x) (comm y z) ∙ sym (assoc x z y)

    -- two tests that agree below m but at one place, which the second alone passes
    pub sum_one_more : (f g : ℕ → Bool) (i : ℕ) (h : ℕ → A) → f i ≡ false → g i ≡ true
        → (m : ℕ) → i < m → ((k : ℕ) → k < m → (k ≡ i → ⊥) → f k ≡ g k) → sum_where G g m h ≡ G.add (sum_where G f m h) (h i)
    unfolding sum_where
    sum_one_more f g i h no-f yes-g zero l e = absurd (omega arith)
    sum_one_more f g i h no-f yes-g (suc m) l e = elim (dec_lt i m) [
      | yes a ↦ go (f m) (g m) (e m (omega arith) (λ z. absurd (omega arith))) (sum_one_more f g i h no-f yes-g m a (λ k b. e k (omega arith)))
      | no a ↦
          let z : m ≡ i = omega arith in
          let fz : f m ≡ false = ap f z ∙ no-f in
          let gz : g m ≡ true = ap g z ∙ yes-g in
          rw (fz, gz) (ap₂ G.add (sum_agree g f m h (λ k b. sym (e k (omega arith) (λ y. absurd (omega arith))))) (ap h z))
    ]
      where
        go : (b c : Bool) → b ≡ c → sum_where G g m h ≡ G.add (sum_where G f m h) (h i)
            → cond c (G.add (sum_where G g m h) (h m)) (sum_where G g m h) ≡ G.add (cond b (G.add (sum_where G f m h) (h m)) (sum_where G f m h)) (h i)
        go true true q s = ap (λ (x : A). G.add x (h m)) s ∙ exchange (sum_where G f m h) (h i) (h m)
        go true false q s = absurd (true≢false q)
        go false true q s = absurd (true≢false (sym q))
        go false false q s = s
