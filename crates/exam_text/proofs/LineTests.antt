-- The lines of a text, in place: the tests of their characters, one by one.
use Prim.Native.Nat.{ℕ, zero, suc, ◌+◌, ◌-◌, ◌*◌, ◌≤◌, ◌<◌}
use native.Mathlib.Omega.{arith}
use mathlib.Core.Path.{◌≡◌, refl, ap}
use mathlib.Core.Bool.{Bool, true, false, ◌&&◌, ◌||◌}
use mathlib.Core.List.{List, [], ◌∷◌}
use borrow.Author.Tests.{leb-true, eqb-true}
use lib.ListN.{length, get_or, take, drop, length-drop}
use lib.Seq.{drop-cons}
use lib.Dec.{leb, eqb}
use Rattle.std.specs.List.{list_all}
use Rattle.query.proofs.Parts.{peel}
use Rattle.places.proofs.Lists.{and_left, and_right}
use Rattle.exam_text.specs.Reader.{is_hex, are_bits, are_hex, line_length, string_part, seed0_part, seed1_part, is_line, are_lines}

-- ---- characters

take_cons : (m c : ℕ) (l : List ℕ) → 0 < m → take m (c ∷ l) ≡ c ∷ take (m - 1) l
take_cons zero c l h = absurd (omega arith)
take_cons (suc m) c l h = let e : suc m - 1 ≡ m = omega arith in rw e

module _ (t : List ℕ) (i m : ℕ) (h : 0 < m) (r : i + m ≤ length t) where
  pub take_step : take m (drop i t) ≡ get_or t i 0 ∷ take (m - 1) (drop (suc i) t)
  take_step = let k : i < length t = omega arith in rw (drop-cons t i 0 k) (take_cons m (get_or t i 0) (drop (suc i) t) h)

-- the tests of all characters, in the library's words
pub all_bits : (cs : List ℕ) → list_all (λ c. eqb c 48 || eqb c 49) cs ≡ are_bits cs
unfolding are_bits
all_bits [] = refl
all_bits (c ∷ cs) = ap (λ (b : Bool). (eqb c 48 || eqb c 49) && b) (all_bits cs)

pub all_hex : (cs : List ℕ) → list_all is_hex cs ≡ are_hex cs
unfolding are_hex
all_hex [] = refl
all_hex (c ∷ cs) = ap (λ (b : Bool). is_hex c && b) (all_hex cs)

-- ---- a line

-- both seeds of a line are digits
module _ (n : ℕ) (cs : List ℕ) (e : is_line n cs ≡ true) where
  abbrev first : Bool
  first = are_bits (string_part n cs) && eqb (get_or cs n 0) 32

  abbrev second : Bool
  second = first && are_hex (seed0_part n cs) && eqb (get_or cs (n + 33) 0) 32

  passed : (second && are_hex (seed1_part n cs)) ≡ true
  unfolding is_line
  passed = and_left (second && are_hex (seed1_part n cs)) (eqb (get_or cs (n + 66) 0) 10) e

  pub seed0_hex : are_hex (seed0_part n cs) ≡ true
  seed0_hex =
      and_right first (are_hex (seed0_part n cs))
      (and_left (first && are_hex (seed0_part n cs)) (eqb (get_or cs (n + 33) 0) 32) (and_left second (are_hex (seed1_part n cs)) passed))

  pub seed1_hex : are_hex (seed1_part n cs) ≡ true
  seed1_hex = and_right second (are_hex (seed1_part n cs)) passed

-- ---- the lines

-- lines have the length of so many
pub lines_length : (n m : ℕ) (cs : List ℕ) → are_lines n m cs ≡ true → length cs ≡ m * line_length n
unfolding are_lines
lines_length n zero cs e = omega (arith, eqb-true (length cs) 0 e)
lines_length n (suc m) cs e =
    let a = and_left (leb (line_length n) (length cs) && is_line n (take (line_length n) cs)) (are_lines n m (drop (line_length n) cs)) e in
    let b = and_right (leb (line_length n) (length cs) && is_line n (take (line_length n) cs)) (are_lines n m (drop (line_length n) cs)) e in
    let k : line_length n ≤ length cs = leb-true _ _ (and_left (leb (line_length n) (length cs)) (is_line n (take (line_length n) cs)) a) in
    omega (arith, lines_length n m (drop (line_length n) cs) b, length-drop (line_length n) cs, peel (suc m) (line_length n) (omega arith))

pub other_length : (n m : ℕ) (cs : List ℕ) → (length cs ≡ m * line_length n → ⊥) → are_lines n m cs ≡ false
other_length n m cs h = go (are_lines n m cs) refl
  where
    go : (b : Bool) → are_lines n m cs ≡ b → b ≡ false
    go true e = absurd (h (lines_length n m cs e))
    go false e = refl
