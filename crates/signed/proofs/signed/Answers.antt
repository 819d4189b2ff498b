-- `signed::signed` meets its contract.
use native.Mathlib.Omega.{arith}
use Rattle.signed.proofs.Words.{small_read, middle_fits, middle_read, large_read}
use Rattle.signed.proofs.signed.Goals as goal

pub returns-then-x-le-HALF : goal.returns-then-x-le-HALF
returns-then-x-le-HALF c = small_read c.args.x (omega arith)

pub overflow_sub-result-then-x-lt-P-2 : goal.overflow_sub-result-then-x-lt-P-2
overflow_sub-result-then-x-lt-P-2 c = middle_fits c.args.x (omega arith) (omega arith)

pub returns-then-x-lt-P : goal.returns-then-x-lt-P
returns-then-x-lt-P c = middle_read c.args.x (omega arith) (omega arith)

pub returns : goal.returns
returns c = large_read c.args.x (omega arith) (omega arith)
