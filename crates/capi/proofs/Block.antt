-- The outcome of `tally_block`, case by case, and that its number is the one that is due.
use Prim.Native.Nat.{ℕ, ◌≤◌, ◌<◌}
use mathlib.Core.Path.{◌≡◌}
use mathlib.Core.Bool.{not}
use mathlib.Core.List.{List}
use mathlib.Core.Logic.{◌≢◌}
use borrow.Author.Tests.{eq-eqb, ne_eqb, lt-ltb, le-ltb}
use lib.ListN.{length}
use lib.Dec.{eqb}
use Rattle.calls.specs.Causes.{Due}
use Rattle.calls.specs.Outcome.{refused, accepted}
use Rattle.calls.proofs.Decisions.{differ, differ_test}
use Rattle.calls.proofs.Judged.{due, none, next, expander_decided, space_decided}
use Rattle.expander.specs.Expander.{block_of, choice_of}
use Rattle.expander.specs.declared.Expander.{Expander}
use Rattle.std.specs.Prelude.{Some, None}
use Rattle.expander.proofs.Chosen.{known, unknown}
use Rattle.capi.specs.Block.{block_causes, block_outcome}

module _ (e : ℕ) (seed : List ℕ) (j room : ℕ) where
  pub unknown_expander : choice_of e ≡ None → block_outcome e seed j room ≡ refused 3
  unfolding block_outcome
  unknown_expander h = rw (unknown e h)

  module _ (x : Expander) (h : choice_of e ≡ Some x) where
    pub wrong_length : length seed ≢ 16 → block_outcome e seed j room ≡ refused 4
    unfolding block_outcome
    wrong_length l = rw (known e x h, ne_eqb (length seed) 16 l)

    pub no_room_lem : length seed ≡ 16 → room < 16 → block_outcome e seed j room ≡ refused 11
    unfolding block_outcome
    no_room_lem l r = rw (known e x h, eq-eqb (length seed) 16 l, lt-ltb room 16 r)

    pub all_well : length seed ≡ 16 → 16 ≤ room → block_outcome e seed j room ≡ accepted (block_of x seed j)
    unfolding block_outcome
    all_well l r = rw (known e x h, eq-eqb (length seed) 16 l, le-ltb room 16 r, h)

pub block_due : (e : ℕ) (seed : List ℕ) (j room : ℕ) → Due (block_causes e seed room) (block_outcome e seed j room).number
unfolding block_outcome
block_due e seed j room =
    due
    (expander_decided e
    (next {b = not (eqb (length seed) 16)} (differ (length seed) 16) (differ_test (length seed) 16)
    (space_decided 16 room none)))
    _
