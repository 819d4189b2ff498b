-- The definitions that the tests compute, opened by one name.
use Rattle.gf256.specs.Field.{product, remainder, ◌·◌, squares, inverse}

unfoldable pub computes : Unit {0}
unfolding product remainder ◌·◌ squares inverse
computes = tt
