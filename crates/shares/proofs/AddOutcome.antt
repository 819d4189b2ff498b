-- The outcome of `add_shares`, case by case, what follows where no cause applies, and that its number is the one that is due.
use Prim.Native.Nat.{ℕ, ◌≤◌, ◌<◌}
use native.Mathlib.Omega.{arith}
use mathlib.Core.Path.{◌≡◌}
use mathlib.Core.Bool.{true, false, ◌&&◌}
use mathlib.Core.List.{List, []}
use mathlib.Core.Logic.{◌≢◌}
use borrow.Author.Tests.{lt-ltb, le-ltb, ltb-false}
use lib.ListN.{length}
use Rattle.calls.specs.Causes.{number_due, Due}
use Rattle.calls.specs.Outcome.{accepted}
use Rattle.calls.proofs.Judged.{due, none, next, space_decided, judged_due, judged_refused, judged_accepted, judged_clear, ◌&◌}
use Rattle.shares.specs.ShareNumbers.{numbers, unmatched, all_below}
use Rattle.shares.specs.Add.{add_causes, add_bytes, add_outcome}
use Rattle.shares.proofs.Matching.{unmatched_holds, unmatched_test, matched, numbers_decided, not_both, both}
use Rattle.shares.proofs.Sums.{sums_length}

module _ (s0 s1 : List ℕ) (room : ℕ) where
  -- ---- the first cause that applies

  pub cause_4 : unmatched s0 s1 ≡ true → 4 ≡ number_due (add_causes s0 s1 room)
  cause_4 h = rw h

  module _ (h₄ : unmatched s0 s1 ≡ false) where
    pub cause_6 : (all_below (numbers s0) && all_below (numbers s1)) ≡ false → 6 ≡ number_due (add_causes s0 s1 room)
    cause_6 h = rw (h₄, not_both (all_below (numbers s0)) (all_below (numbers s1)) h)

    module _ (h₆ : (all_below (numbers s0) && all_below (numbers s1)) ≡ true) where
      pub cause_11 : room < length s0 → 11 ≡ number_due (add_causes s0 s1 room)
      cause_11 h = rw (h₄, both (all_below (numbers s0)) (all_below (numbers s1)) h₆, lt-ltb room (length s0) h)

      pub no_cause : length s0 ≤ room → 0 ≡ number_due (add_causes s0 s1 room)
      no_cause h = rw (h₄, both (all_below (numbers s0)) (all_below (numbers s1)) h₆, le-ltb room (length s0) h)

  -- ---- the outcome

  pub due_number : (add_outcome s0 s1 room).number ≡ number_due (add_causes s0 s1 room)
  unfolding add_outcome
  due_number = judged_due (add_causes s0 s1 room) (add_bytes s0 s1)

  pub nothing_written : (add_outcome s0 s1 room).number ≢ 0 → (add_outcome s0 s1 room).written ≡ []
  unfolding add_outcome
  nothing_written = judged_refused (add_causes s0 s1 room) (add_bytes s0 s1)

  -- What follows from 0: the shares have one length, and what is written fits and is as long.
  pub record Ready : Type 0 where
    pub same : length s0 ≡ length s1
    pub fits : length s0 ≤ room
    pub size : length (add_bytes s0 s1) ≡ length s0
    pub outcome : add_outcome s0 s1 room ≡ accepted (add_bytes s0 s1)

  pub ready : (add_outcome s0 s1 room).number ≡ 0 → Ready
  unfolding add_outcome
  ready h =
      let clear = judged_clear (add_causes s0 s1 room) (add_bytes s0 s1) (omega arith & omega arith & omega arith & tt) h in
      let m = matched s0 s1 clear.0 in
      record {
        same = m.0;
        fits = ltb-false room (length s0) clear.1.1.0;
        size = omega (arith, sums_length s0 s1 m.0, m.1);
        outcome = judged_accepted (add_causes s0 s1 room) (add_bytes s0 s1) clear;
      }

  -- ---- the number that is due

  pub add_due : Due (add_causes s0 s1 room) (add_outcome s0 s1 room).number
  unfolding add_outcome
  add_due =
      due
      (next {b = unmatched s0 s1} (unmatched_holds s0 s1) (unmatched_test s0 s1)
      (numbers_decided s0 s1
      (space_decided (length s0) room none)))
      _
