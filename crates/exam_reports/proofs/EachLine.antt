-- What is written for each line, as pieces joined.
use Prim.Native.Nat.{ℕ, zero, suc, ◌*◌, ◌<◌}
use mathlib.Core.Path.{◌≡◌, refl, sym, ap, ◌∙◌}
use mathlib.Core.List.{List, [], ◌∷◌, ◌++◌, append_assoc, append-nil}
use lib.ListN.{length, get_or}
use Rattle.point.specs.PublicShare.{joined}
use Rattle.point.proofs.Joined.{joined_length}
use Rattle.exam_text.specs.Sheet.{Line}
use Rattle.exam_reports.specs.SheetReports.{each_line}

-- the first piece, and the others
joined_first : (m : ℕ) (f : ℕ → List ℕ) → joined (suc m) f ≡ f 0 ++ joined m (λ i. f (suc i))
unfolding joined
joined_first zero f = sym (append-nil (f 0))
joined_first (suc m) f = ap (λ (l : List ℕ). l ++ f (suc m)) (joined_first m f) ∙ append_assoc (f 0) (joined m (λ i. f (suc i))) (f (suc m))

pub each_joined : (f : Line → List ℕ) (ls : List Line) (d : Line) → each_line f ls ≡ joined (length ls) (λ i. f (get_or ls i d))
unfolding each_line joined
each_joined f [] d = refl
each_joined f (l ∷ ls) d = ap (λ (bytes : List ℕ). f l ++ bytes) (each_joined f ls d) ∙ sym (joined_first (length ls) (λ i. f (get_or (l ∷ ls) i d)))

-- pieces of one length
pub each_length : (w : ℕ) (f : Line → List ℕ) (ls : List Line) (d : Line) → ((i : ℕ) → i < length ls → length (f (get_or ls i d)) ≡ w)
    → length (each_line f ls) ≡ w * length ls
each_length w f ls d sized = ap length (each_joined f ls d) ∙ joined_length w (λ i. f (get_or ls i d)) (length ls) sized
