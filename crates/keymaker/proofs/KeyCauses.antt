-- The outcome of `make_key`: what a refusal writes, and what follows from 0.
use mathlib.Core.Path.{◌≡◌, ap, ◌∙◌}
use mathlib.Core.Bool.{true, not}
use mathlib.Core.List.{List, []}
use mathlib.Core.Logic.{◌≢◌}
use Prim.Native.Nat.{ℕ, ◌≤◌}
use native.Mathlib.Omega.{arith}
use borrow.Author.Tests.{eqb-true, ltb-false, not-false}
use lib.ListN.{length}
use lib.Dec.{eqb}
use lib.IntN.{ℤ}
use Rattle.bits.specs.Packing.{packed_length, spare_zero}
use Rattle.calls.specs.Bounds.{most_bits}
use Rattle.calls.specs.Causes.{number_due}
use Rattle.calls.specs.Outcome.{accepted}
use Rattle.calls.proofs.Decisions.{neither, bounds}
use Rattle.calls.proofs.Judged.{judged_due, judged_refused, judged_accepted, judged_clear}
use Rattle.expander.specs.Expander.{choice_of, is_expander, under}
use Rattle.expander.specs.declared.Expander.{Expander}
use Rattle.std.specs.Prelude.{Option, Some}
use Rattle.point.specs.PublicShare.{public_share_length}
use Rattle.keymaker.specs.Key.{key_causes, key_bytes, key_outcome}

module _ (n e : ℕ) (w : ℤ) (string seed0 seed1 : List ℕ) (room : ℕ) where
  -- what is written where none applies
  abbrev bytes : List ℕ
  bytes = under (choice_of e) (key_bytes n w string seed0 seed1)

  pub due_number : (key_outcome n e w string seed0 seed1 room).number ≡ number_due (key_causes n e string seed0 seed1 room)
  unfolding key_outcome
  due_number = judged_due (key_causes n e string seed0 seed1 room) bytes

  pub nothing_written : (key_outcome n e w string seed0 seed1 room).number ≢ 0 → (key_outcome n e w string seed0 seed1 room).written ≡ []
  unfolding key_outcome
  nothing_written h = judged_refused (key_causes n e string seed0 seed1 room) bytes h

  -- What follows from 0.
  pub record Ready : Type 0 where
    pub some : 1 ≤ n
    pub few : n ≤ 256
    pub expander : is_expander e ≡ true
    pub string_length : length string ≡ packed_length n
    pub seed0_length : length seed0 ≡ 16
    pub seed1_length : length seed1 ≡ 16
    pub spare : spare_zero n string ≡ true
    pub fits : public_share_length n ≤ room
    pub outcome : key_outcome n e w string seed0 seed1 room ≡ accepted (under (choice_of e) (key_bytes n w string seed0 seed1))

  pub ready : (key_outcome n e w string seed0 seed1 room).number ≡ 0 → Ready
  unfolding key_outcome
  ready h =
      let t = judged_clear (key_causes n e string seed0 seed1 room) bytes (omega arith, (omega arith, (omega arith, (omega arith, (omega arith, tt))))) h in
      let inside = bounds most_bits n t.0 in
      let lengths = neither (not (eqb (length string) (packed_length n))) _ t.1.1.0 in
      let seeds = neither (not (eqb (length seed0) 16)) (not (eqb (length seed1) 16)) lengths.1 in
      record {
        some = inside.0;
        few = inside.1;
        expander = not-false (is_expander e) t.1.0;
        string_length = eqb-true _ _ (not-false _ lengths.0);
        seed0_length = eqb-true _ _ (not-false _ seeds.0);
        seed1_length = eqb-true _ _ (not-false _ seeds.1);
        spare = not-false _ t.1.1.1.0;
        fits = ltb-false room (public_share_length n) t.1.1.1.1.0;
        outcome = judged_accepted (key_causes n e string seed0 seed1 room) bytes t;
      }

  -- what is written under the expander that the number names
  pub key_accepted : (x : Expander) → choice_of e ≡ Some x → Ready → key_outcome n e w string seed0 seed1 room ≡ accepted (key_bytes n w string seed0 seed1 x)
  key_accepted x h r = r.outcome ∙ ap (λ (c : Option Expander). accepted (under c (key_bytes n w string seed0 seed1))) h
