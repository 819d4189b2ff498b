-- What is stored place by place is put there at once.
use mathlib.Core.Path.{◌≡◌, refl, sym, ◌∙◌}
use Prim.Native.Nat.{ℕ, suc, ◌+◌, ◌≤◌}
use native.Mathlib.Omega.{arith}
use mathlib.Core.List.{List, [], ◌∷◌}
use lib.ListN.{length, set}
use lib.Seq.{sets, sets-eq}
use Rattle.places.specs.Places.{put_at}
use Rattle.places.proofs.Places.{put_at_inside}

abbrev stores_from : List ℕ → ℕ → ℕ → List ℕ → List ℕ
stores_from l at k [] = l
stores_from l at k (v ∷ vs) = stores_from (set l (at + k) v) at (suc k) vs

-- v and then vs stored one by one from place `at` on
abbrev pub stores : List ℕ → ℕ → ℕ → List ℕ → List ℕ
stores l at v vs = stores_from (set l at v) at 1 vs

stores_sets : (l : List ℕ) (at k : ℕ) (vs : List ℕ) → stores_from l at k vs ≡ sets l (at + k) vs
stores_sets l at k [] = refl
stores_sets l at k (v ∷ vs) =
    let next : at + suc k ≡ suc (at + k) = omega arith in
    stores_sets (set l (at + k) v) at (suc k) vs ∙ rw next

pub stored : (l : List ℕ) (at v : ℕ) (vs : List ℕ) → at + suc (length vs) ≤ length l → stores l at v vs ≡ put_at l at (v ∷ vs)
stored l at v vs h =
    let next : at + 1 ≡ suc at = omega arith in
    stores_sets (set l at v) at 1 vs ∙ rw next (sets-eq (v ∷ vs) l at h) ∙ sym (put_at_inside l at (v ∷ vs) h)
