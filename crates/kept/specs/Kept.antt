-- Document 01, 'The search': which prefixes are kept.
use Rattle.std.specs.Prelude.{ℕ, Bool, cond, List, [], ◌∷◌, leb, pos}
use Rattle.std.specs.Int.Signed.{le_z}
use Rattle.bits.specs.Strings.{Bits}
use Rattle.group.specs.Modular.{modulus}
use Rattle.signed.specs.SignedReading.{signed_in}
use Rattle.kept.specs.declared.Rule.{Rule}

-- a prefix is kept when its total, as a whole number, is at least t
abbrev pub reaches : ℕ → ℕ → Bool
reaches t total = leb t total

-- document 02, [1]: in a weighted search it is kept when its total, read as a signed number, is at least t
abbrev pub reaches_signed : ℕ → ℕ → Bool
reaches_signed t total = le_z (pos t) (signed_in modulus total)

-- whether a total is kept in a search with threshold t that is weighted or not
abbrev pub reaches_as : Bool → ℕ → ℕ → Bool
reaches_as weighted t = cond weighted (reaches_signed t) (reaches t)

-- the same by a rule
abbrev pub reaches_by : Rule → ℕ → Bool
reaches_by rule = reaches_as rule.weighted rule.t

-- the strings that are kept: those whose number passes the test
abbrev pub kept : (ℕ → Bool) → List Bits → List ℕ → List Bits
kept passes [] xs = []
kept passes (s ∷ ss) [] = []
kept passes (s ∷ ss) (x ∷ xs) = cond (passes x) (s ∷ kept passes ss xs) (kept passes ss xs)
