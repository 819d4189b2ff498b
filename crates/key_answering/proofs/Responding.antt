-- The whole output for a text: which cause applies, or the page.
use Prim.Native.Nat.{ℕ, ◌≤◌, ◌<◌}
use native.Mathlib.Omega.{arith}
use mathlib.Core.Path.{◌≡◌, ap}
use mathlib.Core.Bool.{true, false}
use Rattle.std.specs.Prelude.{Option, Some, None}
use mathlib.Core.List.{List}
use borrow.Author.Tests.{lt-ltb, ne_eqb}
use Rattle.calls.specs.Bounds.{most_bits, outside}
use Rattle.calls.specs.Causes.{number_due}
use Rattle.calls.specs.Refusals.{number_of}
use Rattle.calls.specs.declared.Refusal.{Refusal}
use Rattle.calls.proofs.Decisions.{in_bounds}
use Rattle.calls.proofs.Judged.{judged_due, numbered}
use Rattle.expander.specs.Expander.{choice_of, under}
use Rattle.expander.specs.declared.Expander.{Expander}
use Rattle.expander.proofs.Chosen.{known, unknown}
use Rattle.exam_text.specs.KeyLine.{is_key_line, key_line_of, read_key_line}
use Rattle.exam_lines.specs.Lines.{written_in, refused_text, refused_outcome}
use Rattle.key_answering.specs.KeyAnswer.{key_line_causes, page_read, line_page, key_line_outcome, key_output, respond_outcome}

module _ (bytes : List ℕ) where
  pub none_output : is_key_line bytes ≡ false → key_output bytes ≡ refused_text 10
  unfolding key_output key_line_outcome read_key_line
  none_output e = rw e

  pub none_due : is_key_line bytes ≡ false → number_due (key_line_causes bytes) ≡ 10
  unfolding read_key_line
  none_due e = rw e

  module _ (e : is_key_line bytes ≡ true) where
    pub no_bits_output : (key_line_of bytes).n < 1 → key_output bytes ≡ refused_text 1
    unfolding key_output key_line_outcome read_key_line
    no_bits_output h = rw (e, lt-ltb (key_line_of bytes).n 1 h)

    pub no_bits_due : (key_line_of bytes).n < 1 → number_due (key_line_causes bytes) ≡ 1
    unfolding read_key_line
    no_bits_due h = rw (e, lt-ltb (key_line_of bytes).n 1 h)

    module _ (from : 1 ≤ (key_line_of bytes).n) (to : (key_line_of bytes).n ≤ 32) where
      in_range : outside most_bits (key_line_of bytes).n ≡ false
      in_range = in_bounds most_bits (key_line_of bytes).n from (omega arith)

      pub unknown_output : choice_of (key_line_of bytes).expander ≡ None → key_output bytes ≡ refused_text 3
      unfolding key_output key_line_outcome read_key_line
      unknown_output u = rw (e, in_range, unknown (key_line_of bytes).expander u)

      pub unknown_due : choice_of (key_line_of bytes).expander ≡ None → number_due (key_line_causes bytes) ≡ 3
      unfolding read_key_line
      unknown_due u = rw (e, in_range, unknown (key_line_of bytes).expander u)

      pub known_due : (x : Expander) → choice_of (key_line_of bytes).expander ≡ Some x → number_due (key_line_causes bytes) ≡ 0
      unfolding read_key_line
      known_due x k = rw (e, in_range, known (key_line_of bytes).expander x k)

      pub known_output : (x : Expander) → choice_of (key_line_of bytes).expander ≡ Some x → key_output bytes ≡ line_page (key_line_of bytes).n (key_line_of bytes).line x
      unfolding key_output key_line_outcome read_key_line
      known_output x k =
          rw (e, in_range, known (key_line_of bytes).expander x k) (ap (λ (c : Option Expander). under c (line_page (key_line_of bytes).n (key_line_of bytes).line)) k)

  -- The same in a space of this length.
  module _ (room : ℕ) where
    pub refused_responds : (r : Refusal) → number_of r ≡ number_due (key_line_causes bytes) → refused_outcome (number_of r) room ≡ respond_outcome bytes room
    unfolding refused_outcome respond_outcome key_output key_line_outcome
    refused_responds r is =
        rw (judged_due (key_line_causes bytes) (page_read (read_key_line bytes)), ← is, ne_eqb (number_of r) 0 (numbered r))

    pub page_responds : is_key_line bytes ≡ true → 1 ≤ (key_line_of bytes).n → (key_line_of bytes).n ≤ 32 → (x : Expander) → choice_of (key_line_of bytes).expander ≡ Some x
        → written_in (line_page (key_line_of bytes).n (key_line_of bytes).line x) room ≡ respond_outcome bytes room
    unfolding respond_outcome
    page_responds e from to x k = rw (known_output e from to x k)
