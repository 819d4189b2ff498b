-- The two expanders with the group modulo p.
use Rattle.std.specs.Prelude.{ℕ, ◌%◌, List, take}
use Rattle.numbers.specs.Numbers.{from_little}
use Rattle.group.specs.Modular.{modulus, field}
use Rattle.expander.specs.Expander.{block_of}
use Rattle.expander.specs.declared.Expander.{Expander}
use Rattle.point.specs.Scheme.{Scheme}

-- shares modulo p over a block function; the payload is the first 8 bytes of block 3 as a number, modulo p
unfoldable pub field_scheme : (List ℕ → ℕ → List ℕ) → Scheme ℕ
field_scheme block = record { block = block; group = field; payload = λ blocks. from_little (take 8 (blocks 3)) % modulus }

-- the scheme of an expander
abbrev pub scheme : Expander → Scheme ℕ
scheme e = field_scheme (block_of e)
