-- How long a number is in decimal, and the text of a sheet.
use Prim.Native.Nat.{ℕ, zero, suc, ◌+◌, ◌*◌, ◌/◌, ◌%◌, ◌^◌, ◌≤◌, ◌<◌}
use native.Mathlib.Omega.{arith}
use native.Mathlib.Nat.{suc-mul, mul-le-mul, pow-succ', div-lt_iff_lt-mul}
use mathlib.Core.Path.{◌≡◌}
use mathlib.Core.Bool.{Bool, true, false, cond}
use mathlib.Core.List.{List, [], ◌∷◌, ◌++◌, map}
use mathlib.Core.Option.{Option, none, some}
use borrow.Author.Tests.{lt-ltb}
use lib.ListN.{length, length-append}
use lib.Dec.{ltb}
use Rattle.places.specs.Lists.{All}
use Rattle.query.specs.Query.{OfLength}
use Rattle.exam_text.specs.Characters.{glyph, decimal_in}
use Rattle.exam_text.specs.Sheet.{Line, Sheet, strings, expander_number, line_text, lines_text, expander_text, text, FiveDigits}
use Rattle.exam_text.proofs.LinesText.{Seeds, line_length_lem}

-- ---- characters

-- at most d + 1 for a number of at most d + 1 digits
pub decimal_length_lem : (d m x : ℕ) → x < 10 ^ suc d → length (decimal_in m x) ≤ suc d
unfolding decimal_in
decimal_length_lem d zero x h = omega arith
decimal_length_lem zero (suc m) x h = rw (lt-ltb x 10 h) (omega arith)
decimal_length_lem (suc d) (suc m) x h =
    let less : x < 10 ^ suc d * 10 = omega (arith, pow-succ' 10 (suc d)) in
    let ten : 0 < 10 = omega arith in
    go (ltb x 10) (decimal_length_lem d m (x / 10) ((div-lt_iff_lt-mul ten).1 less))
  where
    go : (b : Bool) → length (decimal_in m (x / 10)) ≤ suc d → length (cond b (glyph x ∷ []) (decimal_in m (x / 10) ++ (glyph (x % 10) ∷ []))) ≤ suc (suc d)
    go true ih = omega arith
    go false ih = omega (arith, length-append (decimal_in m (x / 10)) (glyph (x % 10) ∷ []))

-- ---- the text of a sheet

lines_length : (n : ℕ) (ls : List Line) → OfLength n (map (λ l. l.string) ls) → All Seeds ls → length (lines_text ls) ≡ length ls * (n + 67)
unfolding lines_text
lines_length n [] bits seeds = omega arith
lines_length n (l ∷ ls) bits seeds =
    omega (
      arith,
      length-append (line_text l) (lines_text ls),
      line_length_lem n l bits.0 seeds.0,
      lines_length n ls bits.1 seeds.1,
      suc-mul (length ls) (n + 67),
    )

expander_length : (e : Option ℕ) → FiveDigits (expander_number e) → length (expander_text e) ≤ 6
expander_length none h = omega arith
expander_length (some e) h = omega (arith, decimal_length_lem 4 20 e h)

-- A sheet that is within the other bounds of a text is within that of its length.
pub text_most : (s : Sheet) → s.n ≤ 32 → length s.lines ≤ 32 → FiveDigits s.t → FiveDigits (expander_number s.expander) → OfLength s.n (strings s)
    → All Seeds s.lines → length (text s) ≤ 4096
unfolding text
text_most s short few digits known bits seeds =
    let wide : s.n + 67 ≤ 99 = omega arith in
    simp length-append (omega (
      arith,
      decimal_length_lem 4 20 s.n (omega arith),
      decimal_length_lem 4 20 s.t digits,
      decimal_length_lem 4 20 (length s.lines) (omega arith),
      expander_length s.expander known,
      lines_length s.n s.lines bits seeds,
      mul-le-mul few wide,
    ))
