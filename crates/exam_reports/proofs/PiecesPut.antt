-- Pieces put into a list, one after the other or through a part of it.
use Prim.Native.Nat.{ℕ, zero, suc, ◌+◌, ◌-◌, ◌*◌, ◌≤◌, ◌<◌}
use native.Mathlib.Nat.{mul-suc, zero-add}
use native.Mathlib.Omega.{arith}
use mathlib.Core.Path.{◌≡◌, refl, sym, ap, ap₂, ◌∙◌}
use mathlib.Core.List.{List, [], ◌++◌, append_assoc, append-nil}
use lib.ListN.{length, take, drop, length-drop, drop_of_length-le}
use lib.Seq.{drop-drop, length-take-le}
use Rattle.places.specs.Places.{put_at, overlay}
use Rattle.places.proofs.Places.{put_at_inside, put_at_more}
use Rattle.point.specs.PublicShare.{joined}
use Rattle.point.proofs.Joined.{joined_length}

-- pieces that are the same below n are the same joined
pub joined_same : (n : ℕ) (f g : ℕ → List ℕ) → ((i : ℕ) → i < n → f i ≡ g i) → joined n f ≡ joined n g
unfolding joined
joined_same zero f g h = refl
joined_same (suc n) f g h = ap₂ ◌++◌ (joined_same n f g (λ i l. h i (omega arith))) (h n (omega arith))

-- one piece more, put after the others
pub put_next : (w i : ℕ) (f : ℕ → List ℕ) (area₀ area area' : List ℕ) → ((j : ℕ) → j < suc i → length (f j) ≡ w) → w * suc i ≤ length area₀
    → area ≡ put_at area₀ 0 (joined i f) → area' ≡ put_at area (w * i) (f i) → area' ≡ put_at area₀ 0 (joined (suc i) f)
unfolding joined
put_next w i f area₀ area area' sized room before after =
    let done : length (joined i f) ≡ w * i = joined_length w f i (λ j l. sized j (omega arith)) in
    let fits : 0 + length (joined i f) + length (f i) ≤ length area₀ = omega (arith, done, sized i (omega arith), mul-suc w i, room) in
    after
    ∙ ap₂ (λ (a : List ℕ) (k : ℕ). put_at a k (f i)) before (sym done ∙ sym (zero-add (length (joined i f))))
    ∙ put_at_more area₀ 0 (joined i f) (f i) fits

-- what is written into the whole of a part, which is lent from place `at` on for w places, is put there
pub part_put : (l : List ℕ) (at w k : ℕ) (written : ℕ → List ℕ) (part : List ℕ) → k ≡ w → at + w ≤ length l → length (written w) ≡ w
    → part ≡ overlay (written (length (take (at + k - at) (drop at l)))) (take (at + k - at) (drop at l))
    → take at l ++ (part ++ drop (at + k - at) (drop at l)) ≡ put_at l at (written w)
unfolding overlay
part_put l at w k written part e room size is =
    let here : at + k - at ≡ w = omega arith in
    let sized : length (take w (drop at l)) ≡ w = length-take-le w (drop at l) (omega (arith, length-drop at l)) in
    let whole : drop (length (written w)) (take w (drop at l)) ≡ [] = drop_of_length-le (take w (drop at l)) {i = length (written w)} (omega arith) in
    let put : part ≡ written w =
    is
    ∙ ap (λ (m : ℕ). overlay (written (length (take m (drop at l)))) (take m (drop at l))) here
    ∙ ap (λ (m : ℕ). overlay (written m) (take w (drop at l))) sized
    ∙ ap (λ (r : List ℕ). written w ++ r) whole
    ∙ append-nil (written w) in
    let after : at + (at + k - at) ≡ at + length (written w) = omega arith in
    let rest : drop (at + k - at) (drop at l) ≡ drop (at + length (written w)) l = drop-drop (at + k - at) at l ∙ ap (λ (m : ℕ). drop m l) after in
    ap₂ (λ (p r : List ℕ). take at l ++ (p ++ r)) put rest
    ∙ sym (append_assoc (take at l) (written w) (drop (at + length (written w)) l))
    ∙ sym (put_at_inside l at (written w) (omega arith))
