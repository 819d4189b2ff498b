-- `exam_reading::fields::read_field` meets its contract.
use Prim.Native.Nat.{◌+◌, ◌-◌, ◌<◌}
use mathlib.Core.Path.{◌≡◌, sym, ap, ◌∙◌}
use borrow.Author.Rules.{rules}
use lib.ListN.{length, get_or, take, drop}
use Rattle.exam_text.specs.Reader.{is_number}
use Rattle.exam_text.proofs.Digits.{leading_digits}
use Rattle.exam_text.proofs.Field.{number_short, digits_are, digits_within, no_number, number_ends, field_says}
use Rattle.exam_reading.proofs.fields.read_field.Goals as goal

pub slice_bounds-digits-end : goal.slice_bounds-digits-end
slice_bounds-digits-end c = let a = c.args in digits_within a.text.now a.at c.digits_length-size.result c.digits_length-size.ensures

pub returns-then-not-is_number-clause-laid : goal.returns-then-not-is_number-clause-laid
returns-then-not-is_number-clause-laid c =
    let a = c.args in
    sym (no_number a.text.now a.at c.digits_length-size.result c.digits_length-size.ensures a.then (sym c.if-not-is_number.ensures))

pub number_of-requires : goal.number_of-requires
number_of-requires c =
    let a = c.args in
    let d = digits_are a.text.now a.at c.digits_length-size.result c.digits_length-size.ensures in
    rw d (number_short _ (sym (ap is_number d) ∙ sym c.if-not-is_number.ensures), leading_digits (drop a.at a.text.now))

pub returns-in-Some-clause-laid : goal.returns-in-Some-clause-laid
returns-in-Some-clause-laid c =
    let a = c.args in
    let size = c.digits_length-size.result in
    let ends : get_or (take (length a.text.now - a.at) (drop a.at a.text.now)) size 0 ≡ a.then = search rules in
    sym (number_ends a.text.now a.at size c.digits_length-size.ensures a.then (sym c.if-not-is_number.ensures) ends)

pub returns-in-Some-clause-says : goal.returns-in-Some-clause-says
returns-in-Some-clause-says c =
    let a = c.args in
    let size = c.digits_length-size.result in
    let within : a.at + size < length a.text.now = search rules in
    field_says a.text.now a.at size c.digits_length-size.ensures c.number_of.result within c.number_of.ensures
