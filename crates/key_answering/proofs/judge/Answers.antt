-- `key_answering::judge` meets its contract: each test is that of its cause, in their order.
use Prim.Native.Nat.{◌≤◌}
use native.Mathlib.Omega.{arith}
use mathlib.Core.Path.{◌≡◌, sym}
use mathlib.Core.Bool.{true}
use Rattle.exam_text.specs.KeyLine.{KeyLineSays, is_key_line, key_line_of}
use Rattle.key_answering.proofs.Responding.{none_due, no_bits_due, unknown_due, known_due}
use Rattle.key_answering.proofs.judge.Goals as goal
use Rattle.key_answering.proofs.judge.Goals.{Else-head-eq0, In-Some}

-- the text is a key line, and what it says
is_line_lem : (e : In-Some) → is_key_line e.args.text.now ≡ true
is_line_lem e = sym e.in-Some.ensures.key

says : (e : In-Some) → let r = e.in-Some.head in KeyLineSays e.args.text.now r.n r.expander r.place
says e = e.in-Some.ensures.says

-- it has bits, and at most 32
some : (e : Else-head-eq0) → 1 ≤ e.in-Some.head.n
some e = omega (arith, e.if-head-eq0.false)

from : (e : Else-head-eq0) → 1 ≤ (key_line_of e.args.text.now).n
from e = let told = e.in-Some.ensures.says in rw (← told.n_read) (some e)

few : (e : Else-head-eq0) → (key_line_of e.args.text.now).n ≤ 32
few e = let told = e.in-Some.ensures.says in rw (← told.n_read) told.n_most

pub returns-in_default-clause-number : goal.returns-in_default-clause-number
returns-in_default-clause-number c = sym (none_due c.args.text.now (sym c.in_default.ensures.key))

pub returns-then-head-eq0-clause-number : goal.returns-then-head-eq0-clause-number
returns-then-head-eq0-clause-number c =
    let g = (goal.at.returns-then-head-eq0-clause-number c).In-Some in
    let told = says g in
    sym (no_bits_due c.args.text.now (is_line_lem g) (omega (arith, told.n_read, c.if-head-eq0.true)))

pub returns-in_default-try_from-clause-number : goal.returns-in_default-try_from-clause-number
returns-in_default-try_from-clause-number c =
    let g = goal.at.returns-in_default-try_from-clause-number c in
    let told = says g.In-Some in
    sym (unknown_due c.args.text.now (is_line_lem g.In-Some) (from g.Else-head-eq0) (few g.Else-head-eq0) (rw told.expander_read at c.in_default-try_from.ensures))

pub returns : goal.returns
returns c =
    let g = goal.at.returns c in
    let told = says g.In-Some in
    record {
      number = sym (known_due c.args.text.now (is_line_lem g.In-Some) (from g.Else-head-eq0) (few g.Else-head-eq0) _ (rw told.expander_read at c.in-Ok.ensures));
      said = (is_line_lem g.In-Some, told, some g.Else-head-eq0, c.in-Ok.ensures);
    }
