-- The listed prefixes of a string are its non-empty prefixes, and a cut string is the shortest of them that is light.
use Prim.Native.Nat.{ℕ, ◌≤◌, ◌<◌}
use native.Mathlib.Omega.{arith}
use mathlib.Core.Path.{◌≡◌, refl, sym, ap, ◌∙◌}
use mathlib.Core.Logic.{◌↔◌}
use mathlib.Core.Bool.{Bool, true, false, cond, beq}
use mathlib.Core.List.{List, [], ◌∷◌, map}
use mathlib.Core.List.Memᴰ.{head as here}
use mathlib.Core.List.Memᴰ.{tail as there}
use borrow.Author.Tests.{lt-ltb, le-ltb, ltb-true}
use lib.ListN.{length}
use lib.Dec.{ltb}
use Rattle.places.specs.Lists.{◌∈◌, All}
use Rattle.bits.specs.Strings.{Bits, is_prefix, count}
use Rattle.tree.specs.Cut.{prefixes, first, cut}
use Rattle.places.proofs.Lists.{and_left, and_right, all_map, all_mem, all_over_map}

pub beq_eq : (b c : Bool) → beq b c ≡ true → b ≡ c
beq_eq false false e = refl
beq_eq false true e = cc
beq_eq true false e = cc
beq_eq true true e = refl

pub beq_refl : (b : Bool) → beq b b ≡ true
beq_refl false = refl
beq_refl true = refl

mem_cons : (b : Bool) {q : Bits} {qs : List Bits} → q ∈ qs → b ∷ q ∈ map (λ r. b ∷ r) qs
mem_cons b (here e) = here (ap (λ r. b ∷ r) e)
mem_cons b (there m) = there (mem_cons b m)

-- q is a non-empty prefix of s
abbrev Begins : Bits → Bits → Type 0
Begins s q = (is_prefix q s ≡ true) × (1 ≤ length q)

all_begin : (s : Bits) → All (Begins s) (prefixes s)
all_begin [] = tt
all_begin (b ∷ s) = (
  (rw (beq_refl b) refl, omega arith),
  (all_over_map (Begins (b ∷ s)) (λ q. b ∷ q) (prefixes s)).1
      (all_map (Begins s) (λ q. Begins (b ∷ s) (b ∷ q)) (λ q h. (rw (beq_refl b) h.0, omega arith)) (prefixes s) (all_begin s)),
)

listed : (q s : Bits) → is_prefix q s ≡ true → 1 ≤ length q → q ∈ prefixes s
listed [] s e h = absurd (omega arith)
listed (b ∷ q) [] e h = absurd (let z : ◌≡◌ {A = ℕ} 0 1 = cc in omega arith)
listed (b ∷ q) (c ∷ s) e h =
    let f : b ≡ c = beq_eq b c (and_left (beq b c) (is_prefix q s) e) in
    rw f (go q (listed q s (and_right (beq b c) (is_prefix q s) e)))
  where
    go : (r : Bits) → (1 ≤ length r → r ∈ prefixes s) → c ∷ r ∈ prefixes (c ∷ s)
    go [] m = here refl
    go (d ∷ r) m = there (mem_cons c (m (omega arith)))

-- The listed prefixes of s are its non-empty prefixes.
pub prefixes_exact : (q s : Bits) → (q ∈ prefixes s) ↔ ((is_prefix q s ≡ true) × (1 ≤ length q))
prefixes_exact q s = (λ i. all_mem (Begins s) (all_begin s) i, λ h. listed q s h.0 h.1)

-- A prefix is no longer than the string.
pub prefix_shorter : (q s : Bits) → is_prefix q s ≡ true → length q ≤ length s
prefix_shorter [] s e = omega arith
prefix_shorter (b ∷ q) [] e = absurd (let z : ◌≡◌ {A = ℕ} 0 1 = cc in omega arith)
prefix_shorter (b ∷ q) (c ∷ s) e = omega (arith, prefix_shorter q s (and_right (beq b c) (is_prefix q s) e))

-- ---- the shortest

-- none of the strings is longer than those that follow it
abbrev Rising : List Bits → Type 0
Rising [] = Unit {0}
Rising (q ∷ qs) = All (λ r. length q ≤ length r) qs × Rising qs

rising_cons : (b : Bool) (qs : List Bits) → Rising qs → Rising (map (λ q. b ∷ q) qs)
rising_cons b [] a = tt
rising_cons b (q ∷ qs) a = (
  (all_over_map (λ r. length (b ∷ q) ≤ length r) (λ r. b ∷ r) qs).1
      (all_map (λ r. length q ≤ length r) (λ r. length (b ∷ q) ≤ length (b ∷ r)) (λ r h. omega arith) qs a.0),
  rising_cons b qs a.1,
)

prefixes_rising : (s : Bits) → Rising (prefixes s)
prefixes_rising [] = tt
prefixes_rising (b ∷ s) = (
  (all_over_map (λ r. 1 ≤ length r) (λ r. b ∷ r) (prefixes s)).1
      (all_map (Begins s) (λ r. 1 ≤ length (b ∷ r)) (λ r h. omega arith) (prefixes s) (all_begin s)),
  rising_cons b (prefixes s) (prefixes_rising s),
)

-- f passes c, which is one of the strings qs and not longer than q
abbrev Shortest : (Bits → Bool) → Bits → List Bits → Bits → Type 0
Shortest f q qs c = (c ∈ qs) × (f c ≡ true) × (length c ≤ length q)

first_shortest : (f : Bits → Bool) (s : Bits) {q : Bits} {qs : List Bits} → q ∈ qs → Rising qs → f q ≡ true → Shortest f q qs (first f s qs)
first_shortest f s {q} (here {x = r} {xs = qs} h) a e =
    let k : f r ≡ true = ap f (sym h) ∙ e in
    rw (ap (λ c. cond c r (first f s qs)) k) (here refl, k, omega (arith, ap length h))
first_shortest f s {q} (there {x = r} {xs = qs} m) a e = go (f r) refl (first_shortest f s m a.1 e)
  where
    go : (c : Bool) → f r ≡ c → Shortest f q qs (first f s qs) → Shortest f q (r ∷ qs) (cond c r (first f s qs))
    go true k ih = (here refl, k, all_mem (λ z. length r ≤ length z) a.0 m)
    go false k ih = (there ih.0, ih.1, ih.2)

first_none : (f : Bits → Bool) (s : Bits) (qs : List Bits) → All (λ q. f q ≡ false) qs → first f s qs ≡ s
first_none f s [] a = refl
first_none f s (q ∷ qs) a = rw a.0 (first_none f s qs a.1)

module _ (t : ℕ) (xs : List Bits) (s : Bits) where
  -- If fewer than t strings have the non-empty prefix q of s, the cut string is a non-empty prefix of s that fewer than t have, and not longer than q.
  pub cut_shortest : (q : Bits) → q ∈ prefixes s → count xs q < t → (cut t xs s ∈ prefixes s) × (count xs (cut t xs s) < t) × (length (cut t xs s) ≤ length q)
  unfolding cut
  cut_shortest q i h =
      let c = first_shortest (λ r. ltb (count xs r) t) s i (prefixes_rising s) (lt-ltb (count xs q) t h) in
      (c.0, ltb-true (count xs (first (λ r. ltb (count xs r) t) s (prefixes s))) t c.1, c.2)

  -- If there is no such prefix, the string is left whole.
  pub cut_whole : All (λ q. t ≤ count xs q) (prefixes s) → cut t xs s ≡ s
  unfolding cut
  cut_whole a =
      first_none (λ r. ltb (count xs r) t) s (prefixes s) (all_map (λ q. t ≤ count xs q) (λ q. ltb (count xs q) t ≡ false) (λ q h. le-ltb (count xs q) t h) (prefixes s) a)
