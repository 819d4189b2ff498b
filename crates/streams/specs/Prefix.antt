-- How much of a lent space was filled.
use Rattle.std.specs.Prelude.{ℕ, ◌≡◌, ◌≤◌, List, length, take, Result, Ok, Err}
use Rattle.streams.specs.declared.Cut.{Cut}

-- the first n of xs are within it, and are n
abbrev pub IsPrefixLen : ℕ → List ℕ → Type 0
IsPrefixLen n xs = (n ≤ length xs) × (n ≡ length (take n xs))

-- how many bytes were read, also before a read that failed
abbrev pub read_in : Result ℕ Cut → ℕ
read_in (Ok n) = n
read_in (Err cut) = cut.length
