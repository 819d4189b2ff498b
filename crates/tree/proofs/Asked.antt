-- What a search asks next is a query.
use Prim.Native.Nat.{ℕ, ◌≤◌, ◌<◌}
use native.Mathlib.Omega.{arith}
use mathlib.Core.Path.{refl}
use mathlib.Core.List.{List}
use lib.ListN.{length}
use Rattle.bits.specs.Strings.{Bits, Ascending}
use Rattle.query.specs.Query.{OfLength, query, limit, IsQuery, children}
use Rattle.query.proofs.Children.{children_length, children_longer, children_ascending}

-- The children of ascending prefixes of k bits make a query, if there are some, not too many, and not too long.
pub next_query_lem : (n k : ℕ) (ps : List Bits) → k < n → n ≤ 65536 → 1 ≤ length ps → length (children ps) ≤ limit → OfLength k ps → Ascending ps
    → IsQuery n (query k (children ps))
next_query_lem n k ps h bound some few a s = record {
  k = k;
  prefixes = children ps;
  not_longer = h;
  in_field = omega arith;
  one_length = children_longer k ps a;
  some = omega (arith, children_length ps);
  not_more = few;
  ascending = children_ascending ps s;
  written = refl;
}
