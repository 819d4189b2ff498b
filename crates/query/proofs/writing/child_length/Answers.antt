-- `query::writing::child_length` meets its contract.
use Rattle.std.proofs.Common.{◌+◌, ◌/◌, ◌≡◌, length, arith, ◌∙◌}
use native.Mathlib.Decide.{dec_lt}
use Rattle.bits.proofs.Longer.{all_child_size, child_size}
use Rattle.query.proofs.writing.child_length.Goals as goal

pub returns : goal.returns
returns c =
    let n = c.args.len in
    let s = c.args.prefix.now in
    elim (dec_lt (n / 8) (length s)) [
      | yes h ↦ let e : c.min.result + 1 ≡ n / 8 + 1 = omega arith in e ∙ child_size n s h
      | no h ↦ let e : c.min.result + 1 ≡ length s + 1 = omega arith in e ∙ all_child_size n s (omega arith)
    ]
