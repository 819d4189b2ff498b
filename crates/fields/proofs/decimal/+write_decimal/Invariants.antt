-- `fields::decimal::write_decimal` meets its contract. The measure is the number.
use Rattle.fields.proofs.decimal.+write_decimal.Given as goal

abbrev pub decreases-write_decimal : goal.decreases-write_decimal
decreases-write_decimal l = l.x
