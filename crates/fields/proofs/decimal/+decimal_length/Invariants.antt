-- `fields::decimal::decimal_length` meets its contract. The measure is the number.
use Rattle.fields.proofs.decimal.+decimal_length.Given as goal

abbrev pub decreases-decimal_length : goal.decreases-decimal_length
decreases-decimal_length l = l.x
