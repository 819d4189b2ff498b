-- Cut strings: which prefixes they have, and how often a string stands among them.
use Prim.Native.Nat.{ℕ, zero, suc, ◌<◌}
use native.Mathlib.Omega.{arith}
use native.Mathlib.Nat.{suc_inj, suc-ne-zero}
use mathlib.Core.Path.{◌≡◌, refl, sym, ap, ◌∙◌, fun_ext}
use mathlib.Core.Bool.{Bool, true, false, cond, not, ◌&&◌, and-false}
use mathlib.Core.List.{List, [], ◌∷◌, map}
use borrow.Author.Tests.{ltb-true, ltb-false, lt-leb, le-leb}
use lib.ListN.{length}
use lib.Dec.{leb, ltb}
use Rattle.bits.specs.Strings.{Bits, ◌▹◌, is_prefix, count}
use Rattle.query.specs.Query.{OfLength}
use Rattle.tree.specs.Cut.{prefixes, first, cut, cuts, is_same, times}
use Rattle.places.proofs.Lists.{all_map, number_cong, number_and, number_map}
use Rattle.tree.proofs.Kept.{Open}

-- ---- prefixes and cuts, one bit after the other

-- the first bit and, where that is kept, the rest trimmed in the same way
abbrev pub trim : (Bits → Bool) → Bits → Bits
trim K [] = []
trim K (b ∷ s) = b ∷ cond (K (b ∷ [])) (trim (λ q. K (b ∷ q)) s) []

first_map : (f : Bits → Bool) (g : Bits → Bits) (d : Bits) (xs : List Bits) → first f (g d) (map g xs) ≡ g (first (λ x. f (g x)) d xs)
first_map f g d [] = refl
first_map f g d (x ∷ xs) = go (f (g x)) (first_map f g d xs)
  where
    go : (c : Bool) → first f (g d) (map g xs) ≡ g (first (λ y. f (g y)) d xs) → cond c (g x) (first f (g d) (map g xs)) ≡ g (cond c x (first (λ y. f (g y)) d xs))
    go true e = refl
    go false e = e

first_trim : (K : Bits → Bool) (s : Bits) → first (λ q. not (K q)) s (prefixes s) ≡ trim K s
first_trim K [] = refl
first_trim K (b ∷ s) = go (K (b ∷ [])) (first_map (λ q. not (K q)) (λ q. b ∷ q) s (prefixes s) ∙ ap (λ q. b ∷ q) (first_trim (λ q. K (b ∷ q)) s))
  where
    go : (c : Bool) → first (λ q. not (K q)) (b ∷ s) (map (λ q. b ∷ q) (prefixes s)) ≡ b ∷ trim (λ q. K (b ∷ q)) s
        → cond (not c) (b ∷ []) (first (λ q. not (K q)) (b ∷ s) (map (λ q. b ∷ q) (prefixes s))) ≡ b ∷ cond c (trim (λ q. K (b ∷ q)) s) []
    go true e = e
    go false e = refl

ltb_leb : (x t : ℕ) → ltb x t ≡ not (leb t x)
ltb_leb x t = go (ltb x t) refl
  where
    go : (c : Bool) → ltb x t ≡ c → c ≡ not (leb t x)
    go true e = rw (lt-leb t x (ltb-true x t e))
    go false e = rw (le-leb t x (ltb-false x t e))

pub cuts_trim : (t : ℕ) (xs : List Bits) → cuts t xs ≡ map (trim (λ q. leb t (count xs q))) xs
unfolding cut
cuts_trim t xs = ap (λ f. map f xs) (fun_ext λ s. ap (λ f. first f s (prefixes s)) (fun_ext λ q. ltb_leb (count xs q) t) ∙ first_trim (λ q. leb t (count xs q)) s)

-- ---- what the cut strings keep of the strings

-- A string and its cut have the same prefixes one bit past the kept ones.
prefix_trim : (K : Bits → Bool) (p : Bits) (b : Bool) (s : Bits) → Open K p → is_prefix (p ▹ b) (trim K s) ≡ is_prefix (p ▹ b) s
prefix_trim K [] b [] o = refl
prefix_trim K (d ∷ p) b [] o = refl
prefix_trim K [] b (c ∷ s) o = refl
prefix_trim K (false ∷ p) b (false ∷ s) o = rw o.0 (prefix_trim (λ q. K (false ∷ q)) p b s o.1)
prefix_trim K (false ∷ p) b (true ∷ s) o = refl
prefix_trim K (true ∷ p) b (false ∷ s) o = refl
prefix_trim K (true ∷ p) b (true ∷ s) o = rw o.0 (prefix_trim (λ q. K (true ∷ q)) p b s o.1)

pub count_trim : (K : Bits → Bool) (p : Bits) (b : Bool) (xs : List Bits) → Open K p → count (map (trim K) xs) (p ▹ b) ≡ count xs (p ▹ b)
count_trim K p b [] o = refl
count_trim K p b (x ∷ xs) o = rw (prefix_trim K p b x o, count_trim K p b xs o)

-- ---- how often a string stands among the cut strings

-- whether strings of n bits are cut at q: all shorter prefixes are kept, and q is not, or has n bits
abbrev pub is_cut : ℕ → (Bits → Bool) → Bits → Bool
is_cut zero K [] = true
is_cut zero K (b ∷ q) = false
is_cut (suc n) K [] = false
is_cut (suc n) K (b ∷ q) = cond (K (b ∷ [])) (is_cut n (λ r. K (b ∷ r)) q) (is_same q [])

same_cond : (k v : Bool) (q u s : Bits) → is_same q u ≡ (v && is_prefix q s) → is_same q (cond k u []) ≡ (cond k v (is_same q []) && is_prefix q s)
same_cond true v q u s e = e
same_cond false v [] u s e = refl
same_cond false v (b ∷ q) u s e = refl

same_trim : (n : ℕ) (K : Bits → Bool) (q s : Bits) → length s ≡ n → is_same q (trim K s) ≡ (is_cut n K q && is_prefix q s)
same_trim zero K [] [] l = refl
same_trim zero K (b ∷ q) [] l = refl
same_trim zero K q (c ∷ s) l = absurd (suc-ne-zero _ l)
same_trim (suc n) K q [] l = absurd (suc-ne-zero _ (sym l))
same_trim (suc n) K [] (c ∷ s) l = refl
same_trim (suc n) K (false ∷ q) (true ∷ s) l = simp and-false
same_trim (suc n) K (true ∷ q) (false ∷ s) l = simp and-false
same_trim (suc n) K (false ∷ q) (false ∷ s) l = same_cond (K (false ∷ [])) _ q _ s (same_trim n (λ r. K (false ∷ r)) q s (suc_inj l))
same_trim (suc n) K (true ∷ q) (true ∷ s) l = same_cond (K (true ∷ [])) _ q _ s (same_trim n (λ r. K (true ∷ r)) q s (suc_inj l))

pub times_trim : (n : ℕ) (K : Bits → Bool) (q : Bits) (xs : List Bits) → OfLength n xs → times q (map (trim K) xs) ≡ cond (is_cut n K q) (count xs q) 0
times_trim n K q xs l =
    number_map (is_same q) (trim K) xs
    ∙ number_cong (λ x. is_same q (trim K x)) (λ x. is_cut n K q && is_prefix q x) xs (all_map (λ x. length x ≡ n) _ (same_trim n K q) xs l)
    ∙ number_and (is_cut n K q) (is_prefix q) xs

-- ---- two totals that agree one bit past the kept prefixes are cut in the same places, with the same totals there

abbrev pub Agree : (ℕ → Bool) → ℕ → (Bits → ℕ) → (Bits → ℕ) → Type 0
Agree enough n T U = (p : Bits) (b : Bool) → length p < n → Open (λ q. enough (T q)) p → T (p ▹ b) ≡ U (p ▹ b)

module _ (enough : ℕ → Bool) where
  abbrev pub CutTotal : ℕ → (Bits → ℕ) → Bits → ℕ
  CutTotal n T q = cond (is_cut n (λ r. enough (T r)) q) (T q) 0

  leaf : (T U : Bits → ℕ) (q : Bits) → T [] ≡ U [] → cond (is_same q []) (T q) 0 ≡ cond (is_same q []) (U q) 0
  leaf T U [] e = e
  leaf T U (b ∷ q) e = refl

  pub agree_cut : (n : ℕ) (T U : Bits → ℕ) (q : Bits) → (n ≡ zero → T [] ≡ U []) → Agree enough n T U → CutTotal n T q ≡ CutTotal n U q
  agree_cut zero T U [] z a = z refl
  agree_cut zero T U (b ∷ q) z a = refl
  agree_cut (suc n) T U [] z a = refl
  agree_cut (suc n) T U (b ∷ q) z a = go (enough (T (b ∷ []))) refl (agree_cut n (λ r. T (b ∷ r)) (λ r. U (b ∷ r)) q (λ _. e₁))
    where
      e₁ : T (b ∷ []) ≡ U (b ∷ [])
      e₁ = a [] b (omega arith) tt

      go : (k : Bool) → enough (T (b ∷ [])) ≡ k
          → (Agree enough n (λ r. T (b ∷ r)) (λ r. U (b ∷ r)) → CutTotal n (λ r. T (b ∷ r)) q ≡ CutTotal n (λ r. U (b ∷ r)) q)
          → CutTotal (suc n) T (b ∷ q) ≡ CutTotal (suc n) U (b ∷ q)
      go true e ih = rw (e, ap enough (sym e₁) ∙ e) (ih (λ p c l o. a (b ∷ p) c (omega arith) (e, o)))
      go false e ih = rw (e, ap enough (sym e₁) ∙ e) (leaf (λ r. T (b ∷ r)) (λ r. U (b ∷ r)) q e₁)
