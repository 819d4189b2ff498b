-- Two shares as numbers, whether of two servers or of one: document 01, 'The group and the expanders' and 'Causes of refusal'.
use Rattle.std.specs.Prelude.{ℕ, ◌/◌, ◌%◌, ◌≤◌, Bool, true, not, ◌&&◌, ◌||◌, List, [], ◌∷◌, map, ◌≢◌, ◌⊎◌, length, ltb, eqb}
use Rattle.places.specs.Lists.{◌∈◌}
use Rattle.numbers.specs.Numbers.{from_little}
use Rattle.calls.specs.Causes.{Cause, cause}
use Rattle.group.specs.Group.{Group}
use Rattle.group.specs.Modular.{modulus}
use Rattle.query.specs.Query.{parts}

-- the numbers of a share, 8 bytes each
abbrev pub numbers : List ℕ → List ℕ
numbers share = map from_little (parts 8 (length share / 8) share)

-- the numbers of two shares, added place by place in the group
abbrev pub added : Group ℕ → List ℕ → List ℕ → List ℕ
added G [] ys = []
added G (x ∷ xs) [] = []
added G (x ∷ xs) (y ∷ ys) = G.add x y ∷ added G xs ys

-- two shares do not match: their lengths differ or are no multiple of 8; and the test
abbrev pub Unmatched : List ℕ → List ℕ → Type 0
Unmatched share0 share1 = (length share0 ≢ length share1) ⊎ (length share0 % 8 ≢ 0)

abbrev pub unmatched : List ℕ → List ℕ → Bool
unmatched share0 share1 = not (eqb (length share0) (length share1)) || not (eqb (length share0 % 8) 0)

-- a number of the share is p or more
abbrev pub NumberTooLarge : List ℕ → Type 0
NumberTooLarge share = (x : ℕ) × (x ∈ numbers share) × (modulus ≤ x)

-- whether every number of the list is below p
unfoldable pub all_below : List ℕ → Bool
all_below [] = true
all_below (x ∷ xs) = ltb x modulus && all_below xs

-- 6: a number of one of two shares is p or more
abbrev pub numbers_cause : List ℕ → List ℕ → Cause
numbers_cause share0 share1 =
    cause 6 (NumberTooLarge share0 ⊎ NumberTooLarge share1) (not (all_below (numbers share0)) || not (all_below (numbers share1)))
