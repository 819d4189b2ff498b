use Prim.Native.Nat.{ℕ, ◌+◌, ◌/◌, ◌%◌, ◌^◌, ◌<◌, ◌≤◌}
use native.Mathlib.Omega.{arith}
use mathlib.Core.Path.{◌≡◌, sym, ap, ◌∙◌}
use mathlib.Core.List.{List, [], ◌∷◌, ◌++◌}
use borrow.Author.Rules.{rules}
use lib.ListN.{length}
use Rattle.places.specs.Places.{put_at}
use Rattle.places.proofs.Places.{Grown, grown_start, grown_more, grown_room}
use Rattle.exam_text.specs.Characters.{decimal}
use Rattle.exam_text.proofs.Decimals.{decimal_one}
use Rattle.fields.proofs.FieldChain.{Wrote, all_written}
use Rattle.fields.proofs.LastDigit.{decimal_long, decimal_long_length}
use Rattle.fields.proofs.decimal.+write_decimal.Goals as goal

-- ---- a number of more than one digit

-- its last digit, and all of them
abbrev last : ℕ → List ℕ
last x = (48 + x % 10) ∷ []

abbrev whole : ℕ → List ℕ
whole x = decimal (x / 10) ++ last x

module _ (d : List ℕ) (at x : ℕ) (b : x < 2 ^ 64) (h : 10 ≤ x) (fits : at + length (decimal x) ≤ length d) where
  room : at + length (whole x) ≤ length d
  room = omega (arith, ap length (decimal_long x b h), fits)

  module _ (o : List ℕ) (p : ℕ) (w : Wrote d at (decimal (x / 10)) o p) where
    -- the digits before the last are written
    grown : Grown d at o p (last x) (whole x)
    grown = grown_more d at d at (decimal (x / 10)) (last x) _ (grown_start d at _) room o p w.1 w.0

    -- the last has room behind them
    last_room : p < length o
    last_room = omega (arith, grown_room d at o p (last x) [] _ grown room)

    -- and with it the number is written
    both : (o' : List ℕ) (p' : ℕ) → Wrote o p (last x) o' p' → Wrote d at (decimal x) o' p'
    both o' p' v = rw (decimal_long x b h) (all_written d at o' p' _ (grown_more d at o p (last x) [] _ grown room o' p' v.1 v.0))

-- ---- the goals

pub put-requires : goal.put-requires
put-requires t c = omega (arith, c.requires, ap length (decimal_one 19 c.args.x c.if-x-lt-BASE.true))

pub returns-then-x-lt-BASE : goal.returns-then-x-lt-BASE
returns-then-x-lt-BASE t c =
    let a = c.args in
    let e : decimal a.x ≡ c.digit.result ∷ [] = decimal_one 19 a.x c.if-x-lt-BASE.true ∙ ap (λ (g : ℕ). g ∷ []) (sym c.digit.ensures) in
    record {
      value = c.put.ensures.value ∙ ap (λ (l : List ℕ). a.at + length l) (sym e);
      out_after = c.put.ensures.out_after ∙ ap (put_at a.out.now a.at) (sym e);
    }

pub write_decimal-last-requires : goal.write_decimal-last-requires
write_decimal-last-requires t c =
    (omega (arith, c.decreases, c.if-x-lt-BASE.false), omega (arith, c.requires, decimal_long_length c.args.x (search rules) c.if-x-lt-BASE.false))

pub put-requires-2 : goal.put-requires-2
put-requires-2 t c =
    let a = c.args in
    let w = c.write_decimal-last in
    last_room a.out.now a.at a.x (search rules) c.if-x-lt-BASE.false c.requires w.new.out w.result (w.ensures.value, w.ensures.out_after)

pub returns : goal.returns
returns t c =
    let a = c.args in
    let w = c.write_decimal-last in
    let p = c.put-2 in
    let written = both a.out.now a.at a.x (search rules) c.if-x-lt-BASE.false c.requires w.new.out w.result (w.ensures.value, w.ensures.out_after) p.new.out p.result
    (p.ensures.value, p.ensures.out_after ∙ ap (λ (g : ℕ). put_at w.new.out w.result (g ∷ [])) c.digit-2.ensures) in
    record { value = written.0; out_after = written.1 }
