-- Children of prefixes: which they are, how many, and in which order.
use Prim.Native.Nat.{ℕ, suc, ◌*◌}
use native.Mathlib.Omega.{arith}
use mathlib.Core.Path.{◌≡◌, refl, ap}
use mathlib.Core.Bool.{Bool, true, false, cond}
use mathlib.Core.List.{List, [], ◌∷◌}
use mathlib.Core.List.Memᴰ.{head as here}
use mathlib.Core.List.Memᴰ.{tail as there}
use lib.ListN.{length, length-append}
use Rattle.places.specs.Lists.{◌∈◌, All, select}
use Rattle.bits.specs.Strings.{Bits, ◌▹◌, Before, Ascending}
use Rattle.query.specs.Query.{OfLength, children}
use Rattle.places.proofs.Lists.{all_map, all_select}

pub mem_children : {p : Bits} {ps : List Bits} → p ∈ ps → (b : Bool) → p ▹ b ∈ children ps
mem_children (here e) false = here (ap (λ p. p ▹ false) e)
mem_children (here e) true = there (here (ap (λ p. p ▹ true) e))
mem_children (there m) b = there (there (mem_children m b))

pub all_children : (P Q : Bits → Type 0) → ((p : Bits) (b : Bool) → P p → Q (p ▹ b)) → (ps : List Bits) → All P ps → All Q (children ps)
all_children P Q h [] a = tt
all_children P Q h (p ∷ ps) a = (h p false a.0, (h p true a.0, all_children P Q h ps a.1))

-- there are two for each
pub children_length : (ps : List Bits) → length (children ps) ≡ 2 * length ps
children_length [] = refl
children_length (p ∷ ps) = omega (arith, children_length ps)

-- each is one bit longer
pub children_longer : (k : ℕ) (ps : List Bits) → OfLength k ps → OfLength (suc k) (children ps)
children_longer k ps a =
    all_children (λ p. length p ≡ k) (λ q. length q ≡ suc k) (λ p b e. omega (arith, length-append p (b ∷ []), e)) ps a

-- and so are those of them that are kept
pub kept_longer : (keeps : Bits → Bool) (k : ℕ) (ps : List Bits) → OfLength k ps → OfLength (suc k) (select keeps (children ps))
kept_longer keeps k ps a =
    all_select (λ q. length q ≡ suc k) keeps (children ps) (all_map (λ q. length q ≡ suc k) _ (λ q e _. e) (children ps) (children_longer k ps a))

-- ---- the order

before_snoc : (p q : Bits) (b c : Bool) → Before p q → Before (p ▹ b) (q ▹ c)
before_snoc [] q b c h = absurd h
before_snoc (a ∷ p) [] b c h = absurd h
before_snoc (false ∷ p) (false ∷ q) b c h = before_snoc p q b c h
before_snoc (false ∷ p) (true ∷ q) b c h = tt
before_snoc (true ∷ p) (false ∷ q) b c h = absurd h
before_snoc (true ∷ p) (true ∷ q) b c h = before_snoc p q b c h

before_sibling : (p : Bits) → Before (p ▹ false) (p ▹ true)
before_sibling [] = tt
before_sibling (false ∷ p) = before_sibling p
before_sibling (true ∷ p) = before_sibling p

-- children of ascending prefixes are ascending
pub children_ascending : (ps : List Bits) → Ascending ps → Ascending (children ps)
children_ascending [] a = tt
children_ascending (p ∷ ps) a =
    let after : (b : Bool) → All (Before (p ▹ b)) (children ps) = λ b. all_children (Before p) (Before (p ▹ b)) (λ q c. before_snoc p q b c) ps a.0 in
    ((before_sibling p, after false), (after true, children_ascending ps a.1))

-- and so are those of them that pass a test
pub select_ascending : (f : Bits → Bool) (ps : List Bits) → Ascending ps → Ascending (select f ps)
select_ascending f [] a = tt
select_ascending f (p ∷ ps) a = go (f p) (select_ascending f ps a.1)
  where
    go : (c : Bool) → Ascending (select f ps) → Ascending (cond c (p ∷ select f ps) (select f ps))
    go true ih = (all_select (Before p) f ps (all_map (Before p) _ (λ q h _. h) ps a.0), ih)
    go false ih = ih
