-- The reports of a sheet: document 01, 'Exam program' and 'Keys and nodes'.
use Rattle.std.specs.Prelude.{ℕ, Bool, true, false, cond, ◌&&◌, List, [], ◌∷◌, ◌++◌, length, pos, leb}
use Rattle.std.proofs.Math.Option.{Option, none, some}
use Rattle.places.specs.Places.{overlay}
use Rattle.bits.specs.Packing.{pack}
use Rattle.expander.specs.Expander.{is_expander}
use Rattle.point.specs.PublicShare.{public_share_length}
use Rattle.keymaker.specs.Key.{key_outcome}
use Rattle.exam_text.specs.Sheet.{Line, Sheet, expander_number}

-- what is written for each line, one after the other
unfoldable pub each_line : (Line → List ℕ) → List Line → List ℕ
each_line f [] = []
each_line f (l ∷ ls) = f l ++ each_line f ls

-- the public share of a line: what the key maker writes for its string, with the weight 1, and its two root seeds, with n and the expander e
abbrev pub public_share_for : ℕ → ℕ → Line → List ℕ
public_share_for n e l = (key_outcome n e (pos 1) (pack l.string) l.seed0 l.seed1 (public_share_length n)).written

-- server 0's root seeds, server 1's, and the public shares, which are lent to both
abbrev pub seeds0_of : Sheet → List ℕ
seeds0_of s = each_line (λ l. l.seed0) s.lines

abbrev pub seeds1_of : Sheet → List ℕ
seeds1_of s = each_line (λ l. l.seed1) s.lines

abbrev pub public_shares_of : Sheet → List ℕ
public_shares_of s = each_line (public_share_for s.n (expander_number s.expander)) s.lines

-- ---- the function `make_reports`

-- whether they are made in areas of these lengths: n is not 0, the expander is 1 or 2, and all of them fit
abbrev pub are_made : Sheet → ℕ → ℕ → ℕ → Bool
are_made s room0 room1 room =
    leb 1 s.n
    && (is_expander (expander_number s.expander)
    && (leb (length (seeds0_of s)) room0 && (leb (length (seeds1_of s)) room1 && leb (length (public_shares_of s)) room)))

-- What it tells, and the three areas at exit.
pub record Made : Type 0 where
  pub made : Bool
  pub seeds0 : List ℕ
  pub seeds1 : List ℕ
  pub shares : List ℕ

-- the same, by its parts
abbrev pub made_with : Bool → List ℕ → List ℕ → List ℕ → Made
made_with made seeds0 seeds1 shares = record { made = made; seeds0 = seeds0; seeds1 = seeds1; shares = shares }

-- where a sheet was read and its reports are made, they stand at the beginnings of the areas; else the areas are as they were
unfoldable pub reports_made : Option Sheet → List ℕ → List ℕ → List ℕ → Made
reports_made none seeds0 seeds1 shares = made_with false seeds0 seeds1 shares
reports_made (some s) seeds0 seeds1 shares =
    cond (are_made s (length seeds0) (length seeds1) (length shares))
    (made_with true (overlay (seeds0_of s) seeds0) (overlay (seeds1_of s) seeds1) (overlay (public_shares_of s) shares))
    (made_with false seeds0 seeds1 shares)
