-- Pieces of one length, one for each report, laid one after the other: how many bytes they are, and where each lies.
use mathlib.Core.Path.{◌≡◌, refl, sym, ap, ap₂, ◌∙◌}
use mathlib.Core.List.{List, [], ◌∷◌, ◌++◌}
use Prim.Native.Nat.{ℕ, zero, suc, ◌+◌, ◌*◌, ◌≤◌, ◌<◌}
use native.Mathlib.Nat.{mul-zero, mul-suc, mul-add, mul-le-mul_left}
use native.Mathlib.Omega.{arith}
use lib.ListN.{length, get_or, take, drop, length-append, length-drop, take-append-drop}
use lib.Seq.{take_at, drop_at, drop-drop, take-append-le, drop-append-le, drop-append-add}
use Rattle.places.specs.Lists.{All}
use Rattle.point.specs.Totals.{Report}
use Rattle.honest.proofs.Made.{one_by_one}

-- what holds of all holds of the element at place i
pub all_at : {A : Type 0} (P : A → Type 0) (xs : List A) (d : A) (i : ℕ) → All P xs → i < length xs → P (get_or xs i d)
all_at P [] d i a h = absurd (omega arith)
all_at P (x ∷ xs) d zero a h = a.0
all_at P (x ∷ xs) d (suc i) a h = all_at P xs d i a.1 (omega arith)

pub all_from : {A : Type 0} (P : A → Type 0) (xs : List A) (d : A) → ((i : ℕ) → i < length xs → P (get_or xs i d)) → All P xs
all_from P [] d h = tt
all_from P (x ∷ xs) d h = (h 0 (omega arith), all_from P xs d (λ i l. h (suc i) (omega arith)))

module _ (w : ℕ) (f : Report ℕ → List ℕ) where
  -- they are w bytes for each report
  pub pieces_length : (rs : List (Report ℕ)) → All (λ r. length (f r) ≡ w) rs → length (one_by_one f rs) ≡ w * length rs
  unfolding one_by_one
  pieces_length [] a = sym (mul-zero w)
  pieces_length (r ∷ rs) a = length-append (f r) (one_by_one f rs) ∙ ap₂ ◌+◌ a.0 (pieces_length rs a.1) ∙ omega (arith, mul-suc w (length rs))

  -- the piece at place i is that of report i
  pub piece_at : (rs : List (Report ℕ)) (d : Report ℕ) (i : ℕ) → All (λ r. length (f r) ≡ w) rs → i < length rs
      → take w (drop (w * i) (one_by_one f rs)) ≡ f (get_or rs i d)
  unfolding one_by_one
  piece_at [] d i a h = absurd (omega arith)
  piece_at (r ∷ rs) d zero a h = rw (mul-zero w) (take_at (f r) (one_by_one f rs) w a.0)
  piece_at (r ∷ rs) d (suc i) a h =
      let e : w * suc i ≡ w + w * i = omega (arith, mul-suc w i) in
      rw (e, ← drop-drop (w * i) w, drop_at (f r) (one_by_one f rs) w a.0) (piece_at rs d i a.1 (omega arith))

  -- bytes whose piece at each place is that of the report there are all of them, one after the other
  pub pieces_whole : (rs : List (Report ℕ)) (d : Report ℕ) (bytes : List ℕ) → length bytes ≡ w * length rs
      → ((i : ℕ) → i < length rs → take w (drop (w * i) bytes) ≡ f (get_or rs i d)) → bytes ≡ one_by_one f rs
  unfolding one_by_one
  pieces_whole [] d [] l h = refl
  pieces_whole [] d (x ∷ xs) l h = absurd (omega (arith, l, mul-zero w))
  pieces_whole (r ∷ rs) d bytes l h =
      let more : length (drop w bytes) ≡ w * length rs = omega (arith, length-drop w bytes, l, mul-suc w (length rs)) in
      sym (take-append-drop w bytes)
      ∙ ap₂ ◌++◌ (rw mul-zero at (h 0 (omega arith)))
      (pieces_whole rs d (drop w bytes) more (λ i k.
      let e : w + w * i ≡ w * suc i = omega (arith, mul-suc w i) in
      ap (take w) (drop-drop (w * i) w bytes ∙ ap (λ (j : ℕ). drop j bytes) e) ∙ h (suc i) (omega arith)))

-- of the pieces of two lists laid together, C of them in the first, those of the first come first, and then those of the second
module _ (w i C : ℕ) (s t : List ℕ) (l : length s ≡ w * C) where
  pub laid_first : i < C → take w (drop (w * i) (s ++ t)) ≡ take w (drop (w * i) s)
  laid_first h =
      let inside : w * i + w ≤ length s = omega (arith, mul-le-mul_left w h, mul-suc w i) in
      let room : w ≤ length (drop (w * i) s) = omega (arith, length-drop (w * i) s) in
      ap (take w) (drop-append-le (w * i) s t (omega arith)) ∙ take-append-le w (drop (w * i) s) t room

  pub laid_second : take w (drop (w * (C + i)) (s ++ t)) ≡ take w (drop (w * i) t)
  laid_second =
      let e : w * (C + i) ≡ length s + w * i = mul-add w C i ∙ ap (λ (m : ℕ). m + w * i) (sym l) in
      ap (λ (m : ℕ). take w (drop m (s ++ t))) e ∙ ap (take w) (drop-append-add s t (w * i))
