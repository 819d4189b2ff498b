-- `key_answering::lines::write_level` meets its contract.
use Prim.Native.Nat.{ℕ, suc}
use native.Mathlib.Numerals.{add-one}
use mathlib.Core.Path.{◌≡◌, ap, ◌∙◌}
use mathlib.Core.List.{◌++◌}
use Rattle.places.specs.Lists.{digit}
use Rattle.places.proofs.Places.{Grown, grown_start}
use Rattle.point.specs.Correction.{Correction}
use Rattle.point.specs.PublicShare.{read_correction}
use Rattle.exam_text.specs.Characters.{decimal}
use Rattle.key_answering.specs.KeyPage.{spaced, level_word, level_line, correction_text}
use Rattle.fields.proofs.FieldChain.{FieldAt, Wrote, grown_field, rest_room, rest_written}
use Rattle.key_answering.proofs.lines.write_level.Goals as goal
use Rattle.key_answering.proofs.lines.write_level.Goals.{After-write_number-here-3}

-- all but its corrections is written
head : (z : After-write_number-here-3) → let a = z.args in let word = read_correction a.n a.share.now a.k in
    Grown a.out.now a.at z.write_number-here-3.new.out z.write_number-here-3.result (correction_text word) (level_line a.k word)
unfolding level_line
head z =
    let a = z.args in
    let word = read_correction a.n a.share.now a.k in
    let w = z.write_word-here in
    let x = z.write_number-here in
    let y = z.write_number-here-2 in
    let v = z.write_number-here-3 in
    let whole = level_line a.k word in
    let rest = correction_text word in
    let right = spaced (decimal (digit word.right)) in
    let left = spaced (decimal (digit word.left)) in
    let number = spaced (decimal (suc a.k)) in
    let read = z.read_correction-word.ensures in
    let left-is : z.from-2.result ≡ digit word.left = z.from-2.ensures ∙ ap (λ (c : Correction ℕ). digit c.left) read in
    let right-is : z.from-3.result ≡ digit word.right = z.from-3.ensures ∙ ap (λ (c : Correction ℕ). digit c.right) read in
    let f₂ : FieldAt w.new.out w.result number x.new.out x.result = rw (← add-one a.k, ← z.from.ensures) (x.ensures.place, x.ensures.space) in
    let f₃ : FieldAt x.new.out x.result left y.new.out y.result = rw (← left-is) (y.ensures.place, y.ensures.space) in
    let f₄ : FieldAt y.new.out y.result right v.new.out v.result = rw (← right-is) (v.ensures.place, v.ensures.space) in
    let g₁ = grown_field a.out.now a.at whole z.requires _ _ (spaced level_word) (number ++ (left ++ (right ++ rest))) (grown_start a.out.now a.at whole) _ _ (w.ensures.place, w.ensures.space) in
    let g₂ = grown_field a.out.now a.at whole z.requires _ _ number (left ++ (right ++ rest)) g₁ _ _ f₂ in
    let g₃ = grown_field a.out.now a.at whole z.requires _ _ left (right ++ rest) g₂ _ _ f₃ in
    grown_field a.out.now a.at whole z.requires _ _ right rest g₃ _ _ f₄

pub write_correction-requires : goal.write_correction-requires
write_correction-requires c =
    let a = c.args in
    let word = read_correction a.n a.share.now a.k in
    rw c.read_correction-word.ensures (rest_room a.out.now a.at (level_line a.k word) c.requires _ _ (correction_text word) (head (goal.at.write_correction-requires c).After-write_number-here-3))

pub returns : goal.returns
returns c =
    let a = c.args in
    let word = read_correction a.n a.share.now a.k in
    let q = c.write_correction in
    let z = c.write_number-here-3 in
    let corrections : Wrote z.new.out z.result (correction_text word) q.new.out q.result = rw (← c.read_correction-word.ensures) (q.ensures.value, q.ensures.out_after) in
    let both = rest_written a.out.now a.at (level_line a.k word) c.requires _ _ (correction_text word) (head (goal.at.returns c).After-write_number-here-3) _ _ corrections in
    record { value = both.0; out_after = both.1 }
