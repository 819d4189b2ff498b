-- `places::within` meets its contract. The two tests are one, by cases.
use Prim.Native.Nat.{ℕ, ◌+◌, ◌-◌, ◌≤◌}
use native.Mathlib.Omega.{arith}
use mathlib.Core.Path.{◌≡◌, refl, sym}
use mathlib.Core.Bool.{Bool, true, false}
use lib.Dec.{leb}
use borrow.Author.Tests.{le-leb, lt-leb, leb-true, leb-false}
use Rattle.places.proofs.within.Goals as goal

-- the test on what is left of len
shift : (len at n : ℕ) → n ≤ len → leb at (len - n) ≡ leb (at + n) len
shift len at n h = go (leb (at + n) len) refl
  where
    go : (b : Bool) → leb (at + n) len ≡ b → leb at (len - n) ≡ b
    go true e = le-leb at (len - n) (omega (arith, leb-true (at + n) len e))
    go false e = lt-leb at (len - n) (omega (arith, leb-false (at + n) len e))

pub returns-then-len-n : goal.returns-then-len-n
returns-then-len-n c = sym (lt-leb (c.args.at + c.args.n) c.args.len (omega arith))

pub returns : goal.returns
returns c = shift c.args.len c.args.at c.args.n (omega arith)
