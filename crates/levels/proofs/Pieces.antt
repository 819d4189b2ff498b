-- Strings and numbers in the record area, which is read and written: what is read of them after a write, and how a loop over them goes on.
use Prim.Native.Nat.{ℕ, zero, suc, ◌+◌, ◌-◌, ◌*◌, ◌≤◌, ◌<◌}
use native.Mathlib.Omega.{arith}
use native.Mathlib.Nat.{suc-mul}
use mathlib.Core.Path.{◌≡◌, refl, sym, ap, ap₂, ◌∙◌}
use mathlib.Core.Bool.{Bool, true, false, cond}
use mathlib.Core.List.{List, [], ◌∷◌, ◌++◌, append_assoc}
use borrow.Author.Tests.{leb-true, leb-false}
use lib.ListN.{length, take, drop, replicate, length-append, length-replicate}
use lib.Seq.{take-append-le, take-take, take-add, drop_at, drop-drop, length-take-le}
use lib.Dec.{leb}
use Rattle.bits.specs.Strings.{Bits}
use Rattle.numbers.specs.Numbers.{from_little}
use Rattle.bits.specs.Packing.{packed_length, pack, digits, bits_of, unpack}
use Rattle.places.specs.Places.{window, put_at, overlay}
use Rattle.bits.proofs.Packed.{bits_of_length}
use Rattle.places.proofs.Places.{window_inside, put_at_inside, put_at_outside, put_at_length, put_at_overlay, Grown}
use Rattle.query.specs.Query.{packs, parts, children}
use Rattle.query.specs.Prefix.{part}
use Rattle.query.specs.Written.{both_children}
use Rattle.query.proofs.Parts.{parts_step}
use Rattle.query.proofs.Pieces.{numbers_at, numbers_step}
use Rattle.kept.proofs.Onward.{children_step, list_step}
use Rattle.tree.proofs.Levels.{reaching_at, Packed}

-- ---- what stands before a place that is written

take_before : (m at : ℕ) (d vs : List ℕ) → m ≤ at → take m (put_at d at vs) ≡ take m d
take_before m at d vs h = go (leb (at + length vs) (length d)) refl
  where
    go : (b : Bool) → leb (at + length vs) (length d) ≡ b → take m (put_at d at vs) ≡ take m d
    go true e =
        let i : at + length vs ≤ length d = leb-true (at + length vs) (length d) e in
        let l : length (take at d) ≡ at = length-take-le at d (omega arith) in
        let a : m ≤ length (take at d) = omega arith in
        let b : m ≤ length (take at d ++ vs) = omega (arith, length-append (take at d) vs) in
        ap (take m) (put_at_inside d at vs i)
        ∙ take-append-le m (take at d ++ vs) (drop (at + length vs) d) b
        ∙ take-append-le m (take at d) vs a
        ∙ take-take m at d h
    go false e = ap (take m) (put_at_outside d at vs (leb-false (at + length vs) (length d) e))

part_of : (w from : ℕ) (l : List ℕ) → from ≤ length l → take w (drop from l) ≡ drop from (take (from + w) l)
part_of w from l h = sym (ap (drop from) (take-add from w l) ∙ drop_at (take from l) (take w (drop from l)) from (length-take-le from l h))

pub part_before : (w from at : ℕ) (d vs : List ℕ) → from + w ≤ at → from ≤ length d → take w (drop from (put_at d at vs)) ≡ take w (drop from d)
part_before w from at d vs h i =
    part_of w from (put_at d at vs) (omega (arith, put_at_length d at vs))
    ∙ ap (drop from) (take_before (from + w) at d vs h)
    ∙ sym (part_of w from d i)

pub parts_before : (w m from at : ℕ) (d vs : List ℕ) → from + m * w ≤ at → from + m * w ≤ length d
    → parts w m (drop from (put_at d at vs)) ≡ parts w m (drop from d)
unfolding parts
parts_before w zero from at d vs h i = refl
parts_before w (suc m) from at d vs h i =
    let e : from + suc m * w ≡ from + w + m * w = omega (arith, suc-mul m w) in
    rw (drop-drop w from (put_at d at vs), drop-drop w from d)
    (ap₂ ◌∷◌ (part_before w from at d vs (omega arith) (omega arith)) (parts_before w m (from + w) at d vs (omega arith) (omega arith)))

pub window_before : (n from at : ℕ) (d vs : List ℕ) → from + n ≤ at → from + n ≤ length d → window n from (put_at d at vs) ≡ window n from d
window_before n from at d vs h i =
    let j : from + n ≤ length (put_at d at vs) = omega (arith, put_at_length d at vs) in
    window_inside n from (put_at d at vs) j ∙ part_before n from at d vs h (omega arith) ∙ sym (window_inside n from d i)

-- ---- a copy of a string

bits_append : (xs ys : List ℕ) → bits_of (xs ++ ys) ≡ bits_of xs ++ bits_of ys
unfolding bits_of
bits_append [] ys = refl
bits_append (x ∷ xs) ys = ap (λ (b : Bits). digits 8 x ++ b) (bits_append xs ys) ∙ sym (append_assoc (digits 8 x) (bits_of xs) (bits_of ys))

-- a packed string with zeros after it
pub unpack_padded : (k room : ℕ) (s : List ℕ) → length s ≡ packed_length k → length s ≤ room → unpack k (put_at (replicate room 0) 0 s) ≡ unpack k s
unfolding unpack overlay
unpack_padded k room s l h =
    let zeros : List ℕ = replicate room 0 in
    let r : length s ≤ length zeros = rw (length-replicate {A = ℕ} room 0) h in
    let b : k ≤ length (bits_of s) = omega (arith, bits_of_length s) in
    rw (put_at_overlay zeros s r, bits_append s (drop (length s) zeros)) (take-append-le k (bits_of s) (bits_of (drop (length s) zeros)) b)

-- ---- the strings

-- what packing gives for the first of them, and for those after it
pub packed_step : (k w : ℕ) → w ≡ packed_length k → (d : List ℕ) (m from : ℕ) → 0 < m → Packed k (parts (packed_length k) m (drop from d))
    → (pack (unpack k (take w (drop from d))) ≡ take w (drop from d)) × Packed k (parts (packed_length k) (m - 1) (drop (from + w) d))
packed_step k w e d m from h p = rw e (rw (parts_step (packed_length k) m from d h) at p)

-- those that are kept: the first, and those after it
module _ (enough : ℕ → Bool) (k : ℕ) (d : List ℕ) (w : ℕ) (e : w ≡ packed_length k) (m from place : ℕ) (h : 0 < m) (room : place + 8 ≤ length d) (b : Bool)
    (f : b ≡ enough (from_little (window 8 place d))) where
  abbrev others : List ℕ
  others = numbers_at (m - 1) (place + 8) d

  pub children_at : packs (children (reaching_at enough k d m from place))
      ≡ cond b (both_children (unpack k (take w (drop from d)))) [] ++ packs (children (reaching_at enough k d (m - 1) (from + w) (place + 8)))
  children_at = rw (numbers_step m place d h room) (children_step enough k d w e m from h (from_little (window 8 place d)) others b f)

  pub list_at : from + w ≤ length d → pack (unpack k (take w (drop from d))) ≡ take w (drop from d)
      → packs (reaching_at enough k d m from place) ≡ cond b (part w from d) [] ++ packs (reaching_at enough k d (m - 1) (from + w) (place + 8))
  list_at inside p = rw (numbers_step m place d h room) (list_step enough k d w e m from h (from_little (window 8 place d)) others b f inside p)

-- ---- a loop that writes

-- what stands before what is written is as it was
module _ (d : List ℕ) (at : ℕ) (out : List ℕ) (here : ℕ) (left whole : List ℕ) (g : Grown d at out here left whole) (n from : ℕ) (h : from + n ≤ at) (i : from + n ≤ length d) where
  pub grown_part : take n (drop from out) ≡ take n (drop from d)
  grown_part = ap (λ (o : List ℕ). take n (drop from o)) g.1 ∙ part_before n from at d g.0 h (omega arith)

  pub grown_window : window n from out ≡ window n from d
  grown_window = ap (window n from) g.1 ∙ window_before n from at d g.0 h i
