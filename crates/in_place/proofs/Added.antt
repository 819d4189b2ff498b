-- Numbers of 8 bytes each, one after the other: one of them is read, and one is added to.
use Prim.Native.Nat.{ℕ, zero, suc, ◌+◌, ◌*◌, ◌^◌, ◌≤◌, ◌<◌}
use native.Mathlib.Omega.{arith}
use mathlib.Core.Path.{◌≡◌, refl, sym, ap, ap₂, ◌∙◌}
use mathlib.Core.List.{List, [], ◌∷◌, ◌++◌, append_assoc}
use lib.ListN.{length, get_or, take, drop, set, replicate, length-append, replicate-append-replicate}
use lib.Seq.{take_at, take-append-add, drop-append-add, drop-cons, set_split}
use Rattle.places.specs.Places.{window, put_at}
use Rattle.places.proofs.Places.{window_inside, put_at_inside}
use Rattle.numbers.specs.Numbers.{little, from_little, in_bytes}
use Rattle.numbers.proofs.Endian.{little_length, from_little_little, in_bytes_length}
use Rattle.group.specs.Modular.{field}
use Rattle.turns.specs.Turns.{added_at}

pub in_bytes_append : (xs ys : List ℕ) → in_bytes (xs ++ ys) ≡ in_bytes xs ++ in_bytes ys
in_bytes_append [] ys = refl
in_bytes_append (x ∷ xs) ys = ap (λ (l : List ℕ). little 8 x ++ l) (in_bytes_append xs ys) ∙ sym (append_assoc (little 8 x) (in_bytes xs) (in_bytes ys))

pub in_bytes_zeros : (m : ℕ) → in_bytes (replicate m 0) ≡ replicate (8 * m) 0
unfolding little
in_bytes_zeros zero = refl
in_bytes_zeros (suc m) =
    let e : 8 * suc m ≡ 8 + 8 * m = omega arith in
    ap (λ (l : List ℕ). little 8 0 ++ l) (in_bytes_zeros m) ∙ replicate-append-replicate 8 (8 * m) 0 ∙ ap (λ (k : ℕ). replicate k 0) (sym e)

module _ (rest : List ℕ) where
  -- 8 bytes of one number, and what follows
  first_apart : (x : ℕ) (xs : List ℕ) → in_bytes (x ∷ xs) ++ rest ≡ little 8 x ++ (in_bytes xs ++ rest)
  first_apart x xs = append_assoc (little 8 x) (in_bytes xs) rest

  next : (x j : ℕ) → 8 * suc j ≡ length (little 8 x) + 8 * j
  next x j = omega (arith, little_length 8 x)

  numbers_drop : (ns : List ℕ) (j : ℕ) → j ≤ length ns → drop (8 * j) (in_bytes ns ++ rest) ≡ in_bytes (drop j ns) ++ rest
  numbers_drop ns zero h = refl
  numbers_drop [] (suc j) h = absurd (omega arith)
  numbers_drop (x ∷ ns) (suc j) h =
      ap₂ (λ (k : ℕ) (l : List ℕ). drop k l) (next x j) (first_apart x ns)
      ∙ drop-append-add (little 8 x) (in_bytes ns ++ rest) (8 * j) ∙ numbers_drop ns j (omega arith)

  numbers_take : (ns : List ℕ) (j : ℕ) → j ≤ length ns → take (8 * j) (in_bytes ns ++ rest) ≡ in_bytes (take j ns)
  numbers_take ns zero h = refl
  numbers_take [] (suc j) h = absurd (omega arith)
  numbers_take (x ∷ ns) (suc j) h =
      ap₂ (λ (k : ℕ) (l : List ℕ). take k l) (next x j) (first_apart x ns)
      ∙ take-append-add (little 8 x) (in_bytes ns ++ rest) (8 * j) ∙ ap (λ (l : List ℕ). little 8 x ++ l) (numbers_take ns j (omega arith))

  module _ (ns : List ℕ) (j : ℕ) (h : j < length ns) where
    inside : 8 * j + 8 ≤ length (in_bytes ns ++ rest)
    inside = omega (arith, length-append (in_bytes ns) rest, in_bytes_length ns)

    pub window_number : window 8 (8 * j) (in_bytes ns ++ rest) ≡ little 8 (get_or ns j 0)
    window_number =
        window_inside 8 (8 * j) (in_bytes ns ++ rest) inside
        ∙ ap (take 8) (numbers_drop ns j (omega arith) ∙ ap (λ (l : List ℕ). in_bytes l ++ rest) (drop-cons ns j 0 h) ∙ first_apart (get_or ns j 0) (drop (suc j) ns))
        ∙ take_at (little 8 (get_or ns j 0)) (in_bytes (drop (suc j) ns) ++ rest) 8 (little_length 8 (get_or ns j 0))

    pub put_number : (v : ℕ) → put_at (in_bytes ns ++ rest) (8 * j) (little 8 v) ≡ in_bytes (set ns j v) ++ rest
    put_number v =
        let a : List ℕ = in_bytes (take j ns) in
        let c : List ℕ = in_bytes (drop (suc j) ns) in
        let e : 8 * j + length (little 8 v) ≡ 8 * suc j = omega (arith, little_length 8 v) in
        put_at_inside (in_bytes ns ++ rest) (8 * j) (little 8 v) (omega (arith, inside, little_length 8 v))
        ∙ rw (e, numbers_take ns j (omega arith), numbers_drop ns (suc j) h)
        (append_assoc a (little 8 v) (c ++ rest)
        ∙ ap (λ (l : List ℕ). a ++ l) (sym (append_assoc (little 8 v) c rest))
        ∙ sym (append_assoc a (little 8 v ++ c) rest)
        ∙ ap (λ (l : List ℕ). l ++ rest) (sym (ap in_bytes (set_split ns j v h) ∙ in_bytes_append (take j ns) (v ∷ drop (suc j) ns))))

    -- one number added to
    pub added_number : (v : ℕ) → get_or ns j 0 < 256 ^ 8 → added_at j v (in_bytes ns ++ rest) ≡ in_bytes (set ns j (field.add (get_or ns j 0) v)) ++ rest
    unfolding added_at
    added_number v b =
        ap (λ (x : ℕ). put_at (in_bytes ns ++ rest) (8 * j) (little 8 (field.add x v))) (ap from_little window_number ∙ from_little_little 8 (get_or ns j 0) b)
        ∙ put_number (field.add (get_or ns j 0) v)
