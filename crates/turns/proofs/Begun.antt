-- What holds of a call in which no cause applies.
use Prim.Native.Nat.{ℕ}
use mathlib.Core.Path.{◌≡◌, sym}
use mathlib.Core.List.{List}
use native.Mathlib.Omega.{arith}
use Rattle.calls.specs.Causes.{number_due}
use Rattle.calls.proofs.Judged.{number_clear}
use Rattle.node_lists.specs.ShareKept.{kept_causes}
use Rattle.node_lists.proofs.KeptOutcome.{Ready, clear_ready}

pub begun_ready : (n e : ℕ) (shares last query : List ℕ) (count room : ℕ) → 0 ≡ number_due (kept_causes n e shares last query count room)
    → Ready n e shares last query count room
begun_ready n e shares last query count room found =
    clear_ready n e shares last query count room
    (number_clear (kept_causes n e shares last query count room) (
      omega arith,
      (omega arith, (omega arith, (omega arith, (omega arith, (omega arith, (omega arith, (omega arith, (omega arith, (omega arith, tt))))))))),
    ) (sym found))
