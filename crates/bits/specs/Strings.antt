-- Bit strings, first bit first. A prefix is a bit string too.
use Rattle.std.specs.Prelude.{ℕ, Bool, true, false, ◌&&◌, List, [], ◌∷◌, ◌++◌, T}
use Rattle.std.specs.Bool.{beq}
use Rattle.places.specs.Lists.{All, how_many}

abbrev pub Bits : Type 0
Bits = List Bool

-- p with one bit more
infixl 90 ◌▹◌
abbrev pub ◌▹◌ : Bits → Bool → Bits
p ▹ b = p ++ (b ∷ [])

-- whether q is a prefix of s: s begins with q, or is q
abbrev pub is_prefix : Bits → Bits → Bool
is_prefix [] s = true
is_prefix (b ∷ q) [] = false
is_prefix (b ∷ q) (c ∷ s) = beq b c && is_prefix q s

-- how many of the strings have the prefix q
abbrev pub count : List Bits → Bits → ℕ
count xs q = how_many (is_prefix q) xs

-- whether p stands before q, of one length: at the first place where they differ, p has 0 and q has 1
abbrev pub is_before : Bits → Bits → Bool
is_before [] q = false
is_before (b ∷ p) [] = false
is_before (false ∷ p) (false ∷ q) = is_before p q
is_before (false ∷ p) (true ∷ q) = true
is_before (true ∷ p) (false ∷ q) = false
is_before (true ∷ p) (true ∷ q) = is_before p q

abbrev pub Before : Bits → Bits → Type 0
Before p q = T (is_before p q)

-- strictly ascending: each stands before all that follow it
abbrev pub Ascending : List Bits → Type 0
Ascending [] = Unit {0}
Ascending (p ∷ ps) = All (Before p) ps × Ascending ps
