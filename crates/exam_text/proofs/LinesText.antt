-- The lines of a sheet: what is printed is read back, and what is read is printed so.
use Prim.Native.Nat.{ℕ, zero, suc, ◌+◌, ◌≤◌}
use native.Mathlib.Omega.{arith}
use mathlib.Core.Path.{◌≡◌, refl, ap, ap₂, ◌∙◌}
use mathlib.Core.Bool.{true, ◌&&◌}
use mathlib.Core.List.{List, [], ◌∷◌, ◌++◌, map}
use borrow.Author.Tests.{leb-true, le-leb, eqb-true}
use lib.ListN.{length, get_or, take, drop, length-append, length-map, take-append-drop}
use lib.Seq.{take_at, drop_at, length-take-le}
use lib.Dec.{leb, eqb}
use Rattle.places.specs.Lists.{All}
use Rattle.places.specs.Places.{Bytes}
use Rattle.query.specs.Query.{OfLength}
use Rattle.places.proofs.Lists.{and_left, and_right}
use Rattle.exam_text.specs.Characters.{space, newline, binary, hexadecimal}
use Rattle.exam_text.specs.Sheet.{Line, line_text, lines_text}
use Rattle.exam_text.specs.Reader.{are_bits, are_hex, line_length, string_part, seed0_part, seed1_part, is_line, line_of, are_lines, lines_of}
use Rattle.exam_text.proofs.LineParts.{joined_length, joined_string, joined_first, joined_seed0, joined_second, joined_seed1, joined_third, whole_line, string_length, seed0_length, seed1_length}
use Rattle.exam_text.proofs.LineFields.{binary_length, binary_are_bits, read_binary, binary_read, hexadecimal_length, hexadecimal_are_hex, read_hexadecimal, hexadecimal_read, read_bytes}

-- both seeds are 16 bytes
abbrev pub Seeds : Line → Type 0
Seeds l = Bytes 16 l.seed0 × Bytes 16 l.seed1

-- ---- one line

module _ (n : ℕ) (l : Line) (s : length l.string ≡ n) (seeds : Seeds l) where
  abbrev a : List ℕ
  a = binary l.string

  abbrev b : List ℕ
  b = hexadecimal l.seed0

  abbrev c : List ℕ
  c = hexadecimal l.seed1

  la : length a ≡ n
  la = binary_length l.string ∙ s

  lb : length b ≡ 32
  lb = hexadecimal_length l.seed0 ∙ omega (arith, seeds.0.size)

  lc : length c ≡ 32
  lc = hexadecimal_length l.seed1 ∙ omega (arith, seeds.1.size)

  pub line_length_lem : length (line_text l) ≡ line_length n
  line_length_lem = joined_length n a b c space space newline la lb lc

  pub line_is_line : is_line n (line_text l) ≡ true
  unfolding is_line
  line_is_line =
      rw (
        joined_string n a b c space space newline la lb lc,
        joined_first n a b c space space newline la lb lc,
        joined_seed0 n a b c space space newline la lb lc,
        joined_second n a b c space space newline la lb lc,
        joined_seed1 n a b c space space newline la lb lc,
        joined_third n a b c space space newline la lb lc,
        binary_are_bits l.string,
        hexadecimal_are_hex 16 l.seed0 seeds.0,
        hexadecimal_are_hex 16 l.seed1 seeds.1,
      )

  pub read_line_lem : line_of n (line_text l) ≡ l
  unfolding line_of
  read_line_lem =
      rw (
        joined_string n a b c space space newline la lb lc,
        joined_seed0 n a b c space space newline la lb lc,
        joined_seed1 n a b c space space newline la lb lc,
        read_binary l.string,
        read_hexadecimal 16 l.seed0 seeds.0,
        read_hexadecimal 16 l.seed1 seeds.1,
      )

-- the tests that a line passes
record Passed (n : ℕ) (cs : List ℕ) : Type 0 where
  string : are_bits (string_part n cs) ≡ true
  first : get_or cs n 0 ≡ space
  seed0 : are_hex (seed0_part n cs) ≡ true
  second : get_or cs (n + 33) 0 ≡ space
  seed1 : are_hex (seed1_part n cs) ≡ true
  third : get_or cs (n + 66) 0 ≡ newline

passed : (n : ℕ) (cs : List ℕ) → is_line n cs ≡ true → Passed n cs
unfolding is_line
passed n cs e =
    let a = are_bits (string_part n cs) in
    let b = eqb (get_or cs n 0) space in
    let c = are_hex (seed0_part n cs) in
    let d = eqb (get_or cs (n + 33) 0) space in
    let f = are_hex (seed1_part n cs) in
    let e₅ = and_left (a && b && c && d && f) (eqb (get_or cs (n + 66) 0) newline) e in
    let e₄ = and_left (a && b && c && d) f e₅ in
    let e₃ = and_left (a && b && c) d e₄ in
    let e₂ = and_left (a && b) c e₃ in
    record {
      string = and_left a b e₂;
      first = eqb-true (get_or cs n 0) space (and_right a b e₂);
      seed0 = and_right (a && b) c e₃;
      second = eqb-true (get_or cs (n + 33) 0) space (and_right (a && b && c) d e₄);
      seed1 = and_right (a && b && c && d) f e₅;
      third = eqb-true (get_or cs (n + 66) 0) newline (and_right (a && b && c && d && f) (eqb (get_or cs (n + 66) 0) newline) e);
    }

-- a line that is read has that text, and is within its bounds
module _ (n : ℕ) (cs : List ℕ) (l : length cs ≡ line_length n) (e : is_line n cs ≡ true) where
  pub line_read : line_text (line_of n cs) ≡ cs
  unfolding line_of
  line_read =
      let p = passed n cs e in
      rw (
        binary_read (string_part n cs) p.string,
        hexadecimal_read 16 (seed0_part n cs) (seed0_length n cs l) p.seed0,
        hexadecimal_read 16 (seed1_part n cs) (seed1_length n cs l) p.seed1,
      )
      (rw (p.first, p.second, p.third) at (whole_line n cs l))

  pub line_string : length (line_of n cs).string ≡ n
  unfolding line_of
  line_string = length-map (string_part n cs) (λ c. eqb c 49) ∙ string_length n cs l

  pub line_seeds : Seeds (line_of n cs)
  unfolding line_of
  line_seeds = (
    read_bytes 16 (seed0_part n cs) (seed0_length n cs l) (passed n cs e).seed0,
    read_bytes 16 (seed1_part n cs) (seed1_length n cs l) (passed n cs e).seed1,
  )

-- ---- all lines

module _ (n : ℕ) where
  pub lines_are_lines : (ls : List Line) → OfLength n (map (λ l. l.string) ls) → All Seeds ls → are_lines n (length ls) (lines_text ls) ≡ true
  unfolding are_lines lines_text
  lines_are_lines [] a s = refl
  lines_are_lines (l ∷ ls) a s =
      let k : length (line_text l) ≡ line_length n = line_length_lem n l a.0 s.0 in
      let enough : line_length n ≤ length (line_text l ++ lines_text ls) = omega (arith, length-append (line_text l) (lines_text ls)) in
      rw (
        le-leb (line_length n) (length (line_text l ++ lines_text ls)) enough,
        take_at (line_text l) (lines_text ls) (line_length n) k,
        drop_at (line_text l) (lines_text ls) (line_length n) k,
        line_is_line n l a.0 s.0,
      )
      (lines_are_lines ls a.1 s.1)

  pub read_lines : (ls : List Line) → OfLength n (map (λ l. l.string) ls) → All Seeds ls → lines_of n (length ls) (lines_text ls) ≡ ls
  unfolding lines_of lines_text
  read_lines [] a s = refl
  read_lines (l ∷ ls) a s =
      let k : length (line_text l) ≡ line_length n = line_length_lem n l a.0 s.0 in
      rw (take_at (line_text l) (lines_text ls) (line_length n) k, drop_at (line_text l) (lines_text ls) (line_length n) k)
      (ap₂ ◌∷◌ (read_line_lem n l a.0 s.0) (read_lines ls a.1 s.1))

-- lines that are read have that text, and are within their bounds
pub record LinesRead (n C : ℕ) (cs : List ℕ) : Type 0 where
  pub written : lines_text (lines_of n C cs) ≡ cs
  pub count : length (lines_of n C cs) ≡ C
  pub strings : OfLength n (map (λ l. l.string) (lines_of n C cs))
  pub seeds : All Seeds (lines_of n C cs)

pub lines_read : (n C : ℕ) (cs : List ℕ) → are_lines n C cs ≡ true → LinesRead n C cs
unfolding are_lines lines_of lines_text
lines_read n zero [] e = record { written = refl; count = refl; strings = tt; seeds = tt }
lines_read n zero (c ∷ cs) e = absurd (omega (arith, eqb-true (suc (length cs)) 0 e))
lines_read n (suc C) cs e =
    let m : ℕ = line_length n in
    let e₂ = and_left (leb m (length cs) && is_line n (take m cs)) (are_lines n C (drop m cs)) e in
    let enough : m ≤ length cs = leb-true m (length cs) (and_left (leb m (length cs)) (is_line n (take m cs)) e₂) in
    let line : is_line n (take m cs) ≡ true = and_right (leb m (length cs)) (is_line n (take m cs)) e₂ in
    let size : length (take m cs) ≡ m = length-take-le m cs enough in
    let rest = lines_read n C (drop m cs) (and_right (leb m (length cs) && is_line n (take m cs)) (are_lines n C (drop m cs)) e) in
    record {
      written = ap₂ ◌++◌ (line_read n (take m cs) size line) rest.written ∙ take-append-drop m cs;
      count = ap suc rest.count;
      strings = (line_string n (take m cs) size line, rest.strings);
      seeds = (line_seeds n (take m cs) size line, rest.seeds);
    }
