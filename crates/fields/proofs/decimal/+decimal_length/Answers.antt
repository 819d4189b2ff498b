use native.Mathlib.Omega.{arith}
use mathlib.Core.Path.{sym, ap}
use borrow.Author.Rules.{rules}
use lib.ListN.{length}
use Rattle.exam_text.proofs.Decimals.{decimal_one, decimal_few}
use Rattle.fields.proofs.LastDigit.{decimal_long_length}
use Rattle.fields.proofs.decimal.+decimal_length.Goals as goal

pub returns-then-x-lt-BASE : goal.returns-then-x-lt-BASE
returns-then-x-lt-BASE t c = (sym (ap length (decimal_one 19 c.args.x c.if-x-lt-BASE.true)), omega arith)

pub returns : goal.returns
returns t c =
    let e = decimal_long_length c.args.x (search rules) c.if-x-lt-BASE.false in
    (omega (arith, e, c.decimal_length.ensures.0), omega (arith, e, c.decimal_length.ensures.0, decimal_few 20 c.args.x))
