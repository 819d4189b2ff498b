-- How long a page can be.
use Prim.Native.Nat.{ℕ, zero, suc, ◌+◌, ◌/◌, ◌%◌, ◌≤◌, ◌<◌}
use native.Mathlib.Omega.{arith}
use mathlib.Core.Path.{◌≡◌}
use mathlib.Core.Bool.{Bool, true, false, not, cond}
use mathlib.Core.List.{List, [], ◌∷◌, ◌++◌}
use lib.ListN.{length, take, length-append, length-take}
use lib.Seq.{length-take-le}
use lib.Dec.{ltb}
use Rattle.places.specs.Lists.{digit}
use Rattle.places.proofs.Places.{window_length}
use Rattle.numbers.specs.Numbers.{little}
use Rattle.numbers.proofs.Endian.{little_length}
use Rattle.bits.specs.Strings.{Bits, ◌▹◌}
use Rattle.bits.proofs.Append.{append_length}
use Rattle.group.specs.Modular.{field}
use Rattle.expander.specs.declared.Expander.{Expander}
use Rattle.point.specs.Evaluation.{bit_of}
use Rattle.point.specs.PublicShare.{joined, control_bytes, level_start, read_correction}
use Rattle.exam_text.specs.Characters.{space, newline, glyph, binary, hexadecimal, decimal_in, decimal}
use Rattle.exam_text.proofs.LineFields.{binary_length, hexadecimal_length}
use Rattle.key_answering.specs.KeyPage.{spaced, closed, control_word, level_word, prefix_word, beside_word, control_line, correction_text, level_line, shares_line, shares_line_at, path_lines, page, page_space}
use Rattle.key_answering.proofs.Joined.{lines_at_most}

-- A field is one character longer with what is behind it.
spaced_length : (v : List ℕ) → length (spaced v) ≡ length v + 1
spaced_length v = length-append v (space ∷ [])

closed_length : (v : List ℕ) → length (closed v) ≡ length v + 1
closed_length v = length-append v (newline ∷ [])

-- A number has at most 20 digits.
digits_most : (m x : ℕ) → length (decimal_in m x) ≤ m
unfolding decimal_in
digits_most zero x = omega arith
digits_most (suc m) x = go (ltb x 10) (digits_most m (x / 10))
  where
    go : (b : Bool) → length (decimal_in m (x / 10)) ≤ m
        → length (cond b (glyph x ∷ []) (decimal_in m (x / 10) ++ (glyph (x % 10) ∷ []))) ≤ suc m
    go true h = omega arith
    go false h = omega (arith, h, length-append (decimal_in m (x / 10)) (glyph (x % 10) ∷ []))

number_most : (x : ℕ) → length (spaced (decimal x)) ≤ 21
number_most x = omega (arith, spaced_length (decimal x), digits_most 20 x)

correction_most : (n k : ℕ) (share : List ℕ) → length (correction_text (read_correction n share k)) ≤ 50
unfolding correction_text read_correction
correction_most n k share =
    let c = read_correction n share k in
    omega (
      arith,
      length-append (spaced (hexadecimal c.seed)) (closed (hexadecimal (little 8 c.payload))),
      spaced_length (hexadecimal c.seed),
      closed_length (hexadecimal (little 8 c.payload)),
      hexadecimal_length c.seed,
      hexadecimal_length (little 8 c.payload),
      window_length 16 (level_start n k) share,
      little_length 8 c.payload,
    )

level_most : (n k : ℕ) (share : List ℕ) → length (level_line k (read_correction n share k)) ≤ 119
unfolding level_line
level_most n k share =
    let c = read_correction n share k in
    let x = spaced (decimal (suc k)) in
    let l = spaced (decimal (digit c.left)) in
    let r = spaced (decimal (digit c.right)) in
    omega (
      arith,
      length-append (spaced level_word) (x ++ (l ++ (r ++ correction_text c))),
      length-append x (l ++ (r ++ correction_text c)),
      length-append l (r ++ correction_text c),
      length-append r (correction_text c),
      number_most (suc k),
      number_most (digit c.left),
      number_most (digit c.right),
      correction_most n k share,
    )

shares_most : (word : List ℕ) (q : Bits) (x y : ℕ) → length word ≤ 6 → length q ≤ 32 → length (shares_line word q x y) ≤ 103
unfolding shares_line
shares_most word q x y short bits =
    let s = spaced (binary q) in
    let a = spaced (decimal x) in
    let b = spaced (decimal y) in
    let z = closed (decimal (field.add x y)) in
    omega (
      arith,
      short,
      bits,
      length-append (spaced word) (s ++ (a ++ (b ++ z))),
      length-append s (a ++ (b ++ z)),
      length-append a (b ++ z),
      length-append b z,
      spaced_length word,
      spaced_length (binary q),
      binary_length q,
      number_most x,
      number_most y,
      closed_length (decimal (field.add x y)),
      digits_most 20 (field.add x y),
    )

control_most : (n : ℕ) (share : List ℕ) → n ≤ 32 → length (control_line (take (control_bytes n) share)) ≤ 25
unfolding control_line
control_most n share to =
    let bytes = take (control_bytes n) share in
    omega (
      arith,
      to,
      length-append (spaced control_word) (closed (hexadecimal bytes)),
      closed_length (hexadecimal bytes),
      hexadecimal_length bytes,
      length-take (control_bytes n) share,
    )

module _ (e : Expander) (n : ℕ) (s : Bits) (seed0 seed1 share : List ℕ) (bits : length s ≡ n) (to : n ≤ 32) where
  path_most : (k : ℕ) → k < n → length (path_lines e n s seed0 seed1 share k) ≤ 206
  path_most k h =
      let p = take k s in
      let own = p ▹ bit_of s k in
      let other = p ▹ not (bit_of s k) in
      let short : length p ≡ k = length-take-le k s (omega arith) in
      let a : length (shares_line_at e n s seed0 seed1 share prefix_word own) ≤ 103 = shares_most prefix_word own _ _ (omega arith) (omega (arith, short, append_length p (bit_of s k))) in
      let b : length (shares_line_at e n s seed0 seed1 share beside_word other) ≤ 103 = shares_most beside_word other _ _ (omega arith) (omega (arith, short, append_length p (not (bit_of s k)))) in
      omega (arith, a, b, length-append (shares_line_at e n s seed0 seed1 share prefix_word own) (shares_line_at e n s seed0 seed1 share beside_word other))

  -- The space for a page is enough.
  pub page_most : length (page e n s seed0 seed1 share) ≤ page_space
  unfolding page
  page_most =
      let levels = joined n (λ k. level_line k (read_correction n share k)) in
      let path = joined n (path_lines e n s seed0 seed1 share) in
      omega (
        arith,
        to,
        length-append (control_line (take (control_bytes n) share)) (levels ++ path),
        length-append levels path,
        control_most n share to,
        lines_at_most (λ k. level_line k (read_correction n share k)) 119 n (λ k h. level_most n k share),
        lines_at_most (path_lines e n s seed0 seed1 share) 206 n path_most,
      )
