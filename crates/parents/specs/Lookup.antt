-- The parent of a prefix looked up in the bytes of the last query, whatever they are.
use Rattle.std.specs.Prelude.{ℕ, zero, suc, ◌-◌, min, Bool, true, false, cond, not, List, [], ◌∷◌, get_or, eqb, ltb}
use Rattle.std.specs.Bool.{beq}
use Rattle.bits.specs.Packing.{bits_of}
use Rattle.point.specs.PublicShare.{every}
use Rattle.query.specs.Query.{prefix_length, prefix_count}
use Rattle.query.specs.Prefix.{packed_prefix}

-- how many prefixes the last query has, and how many bits each: where no bytes are lent, one of no bits
abbrev pub last_count : List ℕ → ℕ
last_count [] = 1
last_count (x ∷ xs) = prefix_count (x ∷ xs)

abbrev pub last_length : List ℕ → ℕ
last_length [] = 0
last_length (x ∷ xs) = prefix_length (x ∷ xs)

-- whether the first k bits of the bytes agree, those past the end being zero
unfoldable pub agree : ℕ → List ℕ → List ℕ → Bool
agree k xs ys = every k (λ i. beq (get_or (bits_of xs) i false) (get_or (bits_of ys) i false))

-- whether prefix a of the last query agrees with the first k bits of a packed child
abbrev pub is_parent : List ℕ → List ℕ → ℕ → ℕ → Bool
is_parent last child k a = agree k (packed_prefix last a) child

-- the first of the m places from a on that passes the test, or the place after them
unfoldable pub up_from : (ℕ → Bool) → ℕ → ℕ → ℕ
up_from f a zero = a
up_from f a (suc m) = cond (f a) a (up_from f (suc a) m)

-- the greatest place below a that passes the test, or `none`
unfoldable pub down_from : (ℕ → Bool) → ℕ → ℕ → ℕ
down_from f none zero = none
down_from f none (suc a) = cond (f a) a (down_from f none a)

-- the place below m that passes the test, looked for from `hint` on, upwards or downwards, and where there is none from the beginning; or one not below m
unfoldable pub looked_up : Bool → (ℕ → Bool) → ℕ → ℕ → ℕ
looked_up up f m hint =
    let near = cond up (up_from f hint (m - hint)) (down_from f m (min (suc hint) m)) in
    cond (ltb near m) near (cond up (up_from f 0 m) (down_from f m m))

-- whether some prefix of the new query is not one bit longer than those of the last query or agrees with none of them
unfoldable pub unparented : List ℕ → List ℕ → Bool
unparented last query =
    cond (eqb (prefix_length query) (suc (last_length last)))
    (not (every (prefix_count query) (λ j. ltb (up_from (is_parent last (packed_prefix query j) (last_length last)) 0 (last_count last)) (last_count last))))
    true
