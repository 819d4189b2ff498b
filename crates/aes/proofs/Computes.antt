-- The definitions that the tests compute, opened by one name.
use Rattle.gf256.specs.Field.{product, remainder, ◌·◌, squares, inverse}
use Rattle.aes.specs.Fips197.{bit, affine_bit, affine_bits, affine, power_of_x, rcon}

unfoldable pub computes : Unit {0}
unfolding product remainder ◌·◌ squares inverse bit affine_bit affine_bits affine power_of_x rcon
computes = tt
