-- Which prefixes a search queries: those of 1 to n bits all of whose non-empty proper prefixes are heavy.
use Prim.Native.Nat.{ℕ, zero, suc, ◌≤◌, ◌<◌}
use native.Mathlib.Omega.{arith}
use mathlib.Core.Path.{◌≡◌, refl, sym, ap, subst, ◌∙◌}
use mathlib.Core.Logic.{◌↔◌, ◌⊎◌, inl, inr}
use mathlib.Core.Bool.{Bool, true, ◌&&◌, beq}
use mathlib.Core.List.Memᴰ
use mathlib.Core.List.{List, [], ◌∷◌}
use mathlib.Core.List.Memᴰ.{head as here}
use mathlib.Core.List.Memᴰ.{tail as there}
use borrow.Author.Tests.{leb-true, le-leb}
use lib.ListN.{length, length-append}
use Rattle.places.specs.Lists.{◌∈◌, All, select}
use Rattle.bits.specs.Strings.{Bits, ◌▹◌, is_prefix, count}
use Rattle.kept.specs.Kept.{reaches}
use Rattle.tree.specs.SearchRule.{start, kept_from, is_kept, search_list}
use Rattle.query.specs.Query.{children}
use Rattle.tree.specs.Cut.{Heavy, prefixes, cuts}
use Rattle.places.proofs.Lists.{and_right, all_mem}
use Rattle.tree.proofs.Prefixes.{prefixes_exact}
use Rattle.query.proofs.Children.{mem_children, all_children}
use Rattle.tree.proofs.Cutting.{cuts_trim, count_trim}
use Rattle.tree.proofs.Kept.{Survives, open_prefixes, list_survives, list_exact}
use Rattle.exam_answering.specs.AnswerText.{queried_from, queried}

-- ---- the prefixes of a string with one bit more

-- a shorter string is a prefix of it if it is one of the string
prefix_shorter : (r p : Bits) (b : Bool) → length r ≤ length p → is_prefix r (p ▹ b) ≡ is_prefix r p
prefix_shorter [] p b h = refl
prefix_shorter (c ∷ r) [] b h = absurd (omega arith)
prefix_shorter (c ∷ r) (d ∷ p) b h = ap (λ x. beq c d && x) (prefix_shorter r p b (omega arith))

prefix_length_lem : (r p : Bits) → is_prefix r p ≡ true → length r ≤ length p
prefix_length_lem [] p e = omega arith
prefix_length_lem (c ∷ r) [] e = absurd (let z : ◌≡◌ {A = ℕ} 0 1 = cc in omega arith)
prefix_length_lem (c ∷ r) (d ∷ p) e = omega (arith, prefix_length_lem r p (and_right (beq c d) (is_prefix r p) e))

-- a string that is not empty has a last bit
last_bit_lem : (q : Bits) → 1 ≤ length q → (p : Bits) × (b : Bool) × (q ≡ p ▹ b)
last_bit_lem [] h = absurd (omega arith)
last_bit_lem (c ∷ []) h = ([], c, refl)
last_bit_lem (c ∷ d ∷ q) h = let r = last_bit_lem (d ∷ q) (omega arith) in (c ∷ r.0, r.1, ap (λ z. c ∷ z) r.2)

all_from_mem : (P : Bits → Type 0) (qs : List Bits) → ((q : Bits) → q ∈ qs → P q) → All P qs
all_from_mem P [] h = tt
all_from_mem P (q ∷ qs) h = (h q (here refl), all_from_mem P qs (λ r m. h r (there m)))

-- ---- level by level

module _ (keeps : Bits → Bool) where
  -- q is a child of a prefix kept after k levels, k below m
  abbrev Asked : ℕ → List Bits → Bits → Type 0
  Asked m ps q = (k : ℕ) × (k < m) × (q ∈ children (kept_from keeps k ps))

  queried_asked : (m : ℕ) (ps : List Bits) (q : Bits) → q ∈ queried_from keeps m ps → Asked m ps q
  unfolding queried_from
  queried_asked zero ps q i = absurd (Memᴰ.not-nil i)
  queried_asked (suc m) ps q i = go (Memᴰ.append_cases (children ps) i) (queried_asked m (select keeps (children ps)) q)
    where
      go : (q ∈ children ps) ⊎ (q ∈ queried_from keeps m (select keeps (children ps)))
          → (q ∈ queried_from keeps m (select keeps (children ps)) → Asked m (select keeps (children ps)) q) → Asked (suc m) ps q
      go (inl a) ih = (0, omega arith, a)
      go (inr a) ih = let r = ih a in (suc r.0, omega (arith, r.1), r.2)

  asked_queried : (m : ℕ) (ps : List Bits) (q : Bits) (k : ℕ) → k < m → q ∈ children (kept_from keeps k ps) → q ∈ queried_from keeps m ps
  unfolding queried_from
  asked_queried zero ps q k l i = absurd (omega arith)
  asked_queried (suc m) ps q zero l i = Memᴰ.append_left (queried_from keeps m (select keeps (children ps))) i
  asked_queried (suc m) ps q (suc k) l i = Memᴰ.append_right (children ps) (asked_queried m (select keeps (children ps)) q k (omega arith) i)

-- ---- the search among strings

module _ (t : ℕ) (xs : List Bits) where
  -- every non-empty proper prefix of q is heavy
  abbrev pub HeavyAbove : Bits → Type 0
  HeavyAbove q = (r : Bits) → is_prefix r q ≡ true → 1 ≤ length r → length r < length q → Heavy t xs r

  abbrev keeps : Bits → Bool
  keeps = is_kept (reaches t) (count xs)

  child_above : (k : ℕ) (p : Bits) (b : Bool) → Survives keeps k p → (length (p ▹ b) ≡ suc k) × HeavyAbove (p ▹ b)
  child_above k p b v = (
    omega (arith, length-append p (b ∷ []), v.0),
    λ r e some less.
        let short : length r ≤ length p = omega (arith, length-append p (b ∷ [])) in
        let listed = (prefixes_exact r p).1 (sym (prefix_shorter r p b short) ∙ e, some) in
        leb-true t (count xs r) (all_mem (λ z. keeps z ≡ true) ((open_prefixes keeps p).0 v.1) listed),
  )

  kept_above : (p : Bits) (b : Bool) → HeavyAbove (p ▹ b) → p ∈ search_list (reaches t) (count xs) (length p)
  kept_above p b above =
      (list_exact (reaches t) (count xs) (length p) p).1 (
        refl,
        all_from_mem (λ z. keeps z ≡ true) (prefixes p) (λ r m.
            let begins = (prefixes_exact r p).0 m in
            let short = prefix_length_lem r p begins.0 in
            le-leb t (count xs r) (above r (prefix_shorter r p b short ∙ begins.0) begins.1 (omega (arith, length-append p (b ∷ []), short)))),
      )

  -- The queried prefixes are those of 1 to n bits all of whose non-empty proper prefixes are heavy.
  pub queried_exact : (n : ℕ) (q : Bits) → (q ∈ queried n t xs) ↔ ((1 ≤ length q) × (length q ≤ n) × HeavyAbove q)
  unfolding search_list
  queried_exact n q = (to, from)
    where
      to : q ∈ queried n t xs → (1 ≤ length q) × (length q ≤ n) × HeavyAbove q
      to i =
          let a = queried_asked keeps n start q i in
          let kept = search_list (reaches t) (count xs) a.0 in
          let all = all_children (Survives keeps a.0) (λ z. (length z ≡ suc a.0) × HeavyAbove z) (child_above a.0) kept (list_survives (reaches t) (count xs) a.0) in
          let v = all_mem (λ z. (length z ≡ suc a.0) × HeavyAbove z) all a.2 in
          (omega (arith, v.0), omega (arith, v.0, a.1), v.1)

      from : (1 ≤ length q) × (length q ≤ n) × HeavyAbove q → q ∈ queried n t xs
      from (some, most, above) =
          let r = last_bit_lem q some in
          let less : length r.0 < n = omega (arith, ap length r.2, length-append r.0 (r.1 ∷ [])) in
          let m = kept_above r.0 r.1 (subst HeavyAbove r.2 above) in
          asked_queried keeps n start q (length r.0) less
          (subst (λ z. z ∈ children (search_list (reaches t) (count xs) (length r.0))) (sym r.2) (mem_children m r.1))

  -- The total of a queried prefix is the number of cut strings that begin with it.
  pub queried_cut : (n : ℕ) (q : Bits) → q ∈ queried n t xs → count (cuts t xs) q ≡ count xs q
  queried_cut n q i =
      let a = (queried_exact n q).0 i in
      let r = last_bit_lem q a.0 in
      let kept = kept_above r.0 r.1 (subst HeavyAbove r.2 a.2) in
      let above = (open_prefixes keeps r.0).1 ((list_exact (reaches t) (count xs) (length r.0) r.0).0 kept).1 in
      rw (r.2, cuts_trim t xs) (count_trim keeps r.0 r.1 xs above)
