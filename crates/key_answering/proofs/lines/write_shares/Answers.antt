-- `key_answering::lines::write_shares` meets its contract.
use mathlib.Core.Path.{◌≡◌}
use mathlib.Core.List.{[], ◌∷◌, ◌++◌}
use borrow.Author.Tests.{eq-eqb}
use lib.ListN.{length}
use Rattle.places.proofs.Places.{grown_start}
use Rattle.bits.specs.Packing.{packed_length, unpack}
use Rattle.group.specs.Modular.{field}
use Rattle.exam_text.specs.Characters.{space, binary, decimal}
use Rattle.fields.specs.Field.{packed_line}
use Rattle.key_answering.specs.KeyPage.{spaced, closed, shares_line}
use Rattle.fields.proofs.FieldChain.{FieldAt, grown_field, last_field}
use Rattle.key_answering.proofs.lines.write_shares.Goals as goal

pub returns : goal.returns
unfolding shares_line
returns c =
    let a = c.args in
    let q = unpack a.k a.packed.now in
    let whole = shares_line a.word.now q a.share0 a.share1 in
    let sum = closed (decimal (field.add a.share0 a.share1)) in
    let second = spaced (decimal a.share1) in
    let first = spaced (decimal a.share0) in
    let string : packed_line (λ q. binary q ++ (space ∷ [])) a.k a.packed.now ≡ spaced (binary q) = rw (eq-eqb (length a.packed.now) (packed_length a.k) c.requires.0) in
    let f₂ : FieldAt c.write_word-here.new.out c.write_word-here.result (spaced (binary q)) c.write_string-here.new.out c.write_string-here.result = rw (← string) (c.write_string-here.ensures.place, c.write_string-here.ensures.space) in
    let f₅ : FieldAt c.write_number-here-2.new.out c.write_number-here-2.result sum c.write_number.new.out c.write_number.result = rw (← c.add.ensures.0) (c.write_number.ensures.place, c.write_number.ensures.space) in
    let g₀ = grown_start a.out.now a.at whole in
    let g₁ = grown_field a.out.now a.at whole c.requires.1 _ _ (spaced a.word.now) (spaced (binary q) ++ (first ++ (second ++ sum))) g₀ _ _ (c.write_word-here.ensures.place, c.write_word-here.ensures.space) in
    let g₂ = grown_field a.out.now a.at whole c.requires.1 _ _ (spaced (binary q)) (first ++ (second ++ sum)) g₁ _ _ f₂ in
    let g₃ = grown_field a.out.now a.at whole c.requires.1 _ _ first (second ++ sum) g₂ _ _ (c.write_number-here.ensures.place, c.write_number-here.ensures.space) in
    let g₄ = grown_field a.out.now a.at whole c.requires.1 _ _ second sum g₃ _ _ (c.write_number-here-2.ensures.place, c.write_number-here-2.ensures.space) in
    let both = last_field a.out.now a.at whole c.requires.1 _ _ sum g₄ _ _ f₅ in
    record { value = both.0; out_after = both.1 }
