-- Two searches side by side: their records are equal exactly when their totals agree wherever one of them asks.
use Prim.Native.Nat.{ℕ, zero, suc, ◌^◌, ◌<◌}
use native.Mathlib.Omega.{arith}
use mathlib.Core.Path.{◌≡◌, refl, sym, ap, ap₂, ◌∙◌}
use mathlib.Core.Bool.{Bool, true}
use mathlib.Core.List.{List, [], ◌∷◌, ◌++◌, append_assoc, append-nil, append_cancel_left}
use mathlib.Core.List.Memᴰ.{head as here}
use lib.ListN.{length, take, drop}
use lib.Seq.{take_at, drop_at}
use Rattle.places.specs.Lists.{◌∈◌, All, select}
use Rattle.bits.specs.Strings.{Bits, ◌▹◌}
use Rattle.numbers.specs.Numbers.{little}
use Rattle.numbers.proofs.Endian.{little_length, little_injective}
use Rattle.query.specs.Query.{query, children}
use Rattle.tree.specs.SearchRule.{start, totals, level, kept_from, record_from}
use Rattle.places.proofs.Lists.{all_mem, mem_select, all_select}
use Rattle.query.proofs.Children.{mem_children, all_children}
use Rattle.tree.proofs.Agree.{SameAt, kept_same, level_same}
use Rattle.tree.proofs.Kept.{Open, open_snoc}
use Rattle.tree.proofs.Cutting.{Agree}

-- lists that begin with as many elements each
split_at : (a b r s : List ℕ) (n : ℕ) → length a ≡ n → length b ≡ n → a ++ r ≡ b ++ s → (a ≡ b) × (r ≡ s)
split_at a b r s n h k e = (
  sym (take_at a r n h) ∙ ap (take n) e ∙ take_at b s n k,
  sym (drop_at a r n h) ∙ ap (drop n) e ∙ drop_at b s n k,
)

module _ (enough : ℕ → Bool) (T U : Bits → ℕ) where
  abbrev K : Bits → Bool
  K q = enough (T q)

  abbrev L : Bits → Bool
  L q = enough (U q)

  abbrev Same : Bits → Type 0
  Same = SameAt T U

  -- Where the totals agree one bit past what both keep, the records are equal.
  module _ (same : (p : Bits) (b : Bool) → Open K p × Open L p → T (p ▹ b) ≡ U (p ▹ b)) where
    abbrev Both : Bits → Type 0
    Both p = Open K p × Open L p

    record_same : (m k : ℕ) (ps : List Bits) → All Both ps → record_from K T m k ps ≡ record_from L U m k ps
    record_same zero k ps a = refl
    record_same (suc m) k ps a =
        let s = all_children Both Same same ps a in
        let o = all_children Both (λ q. K q ≡ true → Both q)
        (λ p b o h. (open_snoc K p b o.0 h, open_snoc L p b o.1 (ap enough (sym (same p b o)) ∙ h))) ps a in
        ap₂ ◌++◌ (level_same T U k (children ps) s)
        (record_same m (suc k) (select K (children ps)) (all_select Both K (children ps) o)
        ∙ ap (record_from L U m (suc k)) (kept_same T U enough (children ps) s))

    pub agree→record : (n : ℕ) → record_from K T n 0 start ≡ record_from L U n 0 start
    agree→record n = record_same n 0 start ((tt, tt), tt)

  -- Where the records are equal, the totals agree one bit past what is kept.
  module _ (small : (q : Bits) → T q < 256 ^ 8) (small' : (q : Bits) → U q < 256 ^ 8) where
    totals_split : (qs : List Bits) (r s : List ℕ) → totals T qs ++ r ≡ totals U qs ++ s → All Same qs × (r ≡ s)
    totals_split [] r s e = (tt, e)
    totals_split (q ∷ qs) r s e =
        let x = little 8 (T q) in
        let y = little 8 (U q) in
        let f = sym (append_assoc x (totals T qs) r) ∙ e ∙ append_assoc y (totals U qs) s in
        let h = split_at x y (totals T qs ++ r) (totals U qs ++ s) 8 (little_length 8 (T q)) (little_length 8 (U q)) f in
        let t = totals_split qs r s h.1 in
        ((little_injective 8 (T q) (U q) (small q) (small' q) h.0, t.0), t.1)

    level_split : (k : ℕ) (qs : List Bits) (r s : List ℕ) → level T k qs ++ r ≡ level U k qs ++ s → All Same qs × (r ≡ s)
    level_split k [] r s e = (tt, e)
    level_split k (q ∷ qs) r s e =
        let f = query k (q ∷ qs) in
        totals_split (q ∷ qs) r s (append_cancel_left f _ _ (sym (append_assoc f (totals T (q ∷ qs)) r) ∙ e ∙ append_assoc f (totals U (q ∷ qs)) s))

    record_split : (m k : ℕ) (ps : List Bits) → record_from K T m k ps ≡ record_from L U m k ps
        → (p : Bits) → p ∈ ps → (r : Bits) (b : Bool) → length r < m → Open (λ q. K (p ++ q)) r → T ((p ++ r) ▹ b) ≡ U ((p ++ r) ▹ b)
    record_split zero k ps e p i r b l o = absurd (omega arith)
    record_split (suc m) k ps e p i [] b l o = rw append-nil (all_mem Same (level_split k (children ps) _ _ e).0 (mem_children i b))
    record_split (suc m) k ps e p i (c ∷ r) b l o =
        let d = level_split k (children ps) _ _ e in
        rw (← append_assoc p (c ∷ []) r)
        (record_split m (suc k) (select K (children ps)) (d.1 ∙ ap (record_from L U m (suc k)) (sym (kept_same T U enough (children ps) d.0)))
        (p ▹ c) (mem_select K (mem_children i c) o.0) r b (omega arith) (simp append_assoc o.1))

    pub record→agree : (n : ℕ) → record_from K T n 0 start ≡ record_from L U n 0 start → Agree enough n T U
    record→agree n e = record_split n 0 start e [] (here refl)

    -- So the prefixes kept after as many levels are the same.
    pub record→kept : (m k : ℕ) (ps : List Bits) → record_from K T m k ps ≡ record_from L U m k ps → kept_from K m ps ≡ kept_from L m ps
    record→kept zero k ps e = refl
    record→kept (suc m) k ps e =
        let d = level_split k (children ps) _ _ e in
        let s = kept_same T U enough (children ps) d.0 in
        record→kept m (suc k) (select K (children ps)) (d.1 ∙ ap (record_from L U m (suc k)) (sym s)) ∙ ap (kept_from L m) s
