-- Totals are read as they were written.
use Prim.Native.Nat.{ℕ, ◌^◌, ◌<◌}
use mathlib.Core.Path.{◌≡◌, refl, ap₂}
use mathlib.Core.List.{List, [], ◌∷◌, ◌++◌, map, append_assoc}
use lib.ListN.{length}
use lib.Seq.{take_at, drop_at}
use Rattle.numbers.specs.Numbers.{little, from_little}
use Rattle.numbers.proofs.Endian.{little_length, from_little_little}
use Rattle.bits.specs.Strings.{Bits}
use Rattle.query.specs.Query.{parts}
use Rattle.tree.specs.SearchRule.{totals}

-- the numbers in what begins with totals
pub totals_read : (T : Bits → ℕ) → ((q : Bits) → T q < 256 ^ 8) → (qs : List Bits) (rest : List ℕ)
    → map from_little (parts 8 (length qs) (totals T qs ++ rest)) ≡ map T qs
unfolding parts
totals_read T small [] rest = refl
totals_read T small (q ∷ qs) rest =
    let l : length (little 8 (T q)) ≡ 8 = little_length 8 (T q) in
    rw (append_assoc (little 8 (T q)) (totals T qs) rest, take_at (little 8 (T q)) (totals T qs ++ rest) 8 l, drop_at (little 8 (T q)) (totals T qs ++ rest) 8 l)
    (ap₂ ◌∷◌ (from_little_little 8 (T q) (small q)) (totals_read T small qs rest))
