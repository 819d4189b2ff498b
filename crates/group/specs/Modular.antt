-- Numbers added and negated modulo m, and the prime that shares and totals are counted by.
use Rattle.std.specs.Prelude.{ℕ, ◌+◌, ◌-◌, ◌%◌}
use Rattle.group.specs.Group.{Group}

-- numbers below m; every number is taken for its remainder
abbrev pub modular : ℕ → Group ℕ
modular m = record { add = λ x y. (x + y) % m; neg = λ x. (m - x % m) % m; zero = 0 }

-- 2^64 − 2^32 + 1
abbrev pub p : ℕ
p = 18446744069414584321

-- what shares and totals are added and negated modulo: p
abbrev pub modulus : ℕ
modulus = p

-- the group of shares and totals
abbrev pub field : Group ℕ
field = modular modulus
