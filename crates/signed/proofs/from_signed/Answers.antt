-- `signed::from_signed` meets its contract.
use native.Mathlib.Omega.{arith}
use Rattle.signed.proofs.Words.{wide_fits, negated_fits, negated_word, negated_most, negated_embedded, wide_word, wide_embedded}
use Rattle.signed.proofs.from_signed.Goals as goal

pub overflow_cast-wide : goal.overflow_cast-wide
overflow_cast-wide c = wide_fits c.args.w c.ranges.w

pub overflow_sub-result : goal.overflow_sub-result
overflow_sub-result c = negated_fits c.args.w c.ranges.w c.if-wide-lt0.true

pub overflow_cast-result : goal.overflow_cast-result
overflow_cast-result c = negated_word c.args.w c.ranges.w c.if-wide-lt0.true

pub overflow_sub-result-then-wide-lt0 : goal.overflow_sub-result-then-wide-lt0
overflow_sub-result-then-wide-lt0 c = omega (arith, negated_most c.args.w c.ranges.w c.if-wide-lt0.true)

pub returns-then-wide-lt0 : goal.returns-then-wide-lt0
returns-then-wide-lt0 c = negated_embedded c.args.w c.ranges.w c.if-wide-lt0.true

pub overflow_cast-result-2 : goal.overflow_cast-result-2
overflow_cast-result-2 c = wide_word c.args.w c.ranges.w c.if-wide-lt0.false

pub returns : goal.returns
returns c = wide_embedded c.args.w c.ranges.w c.if-wide-lt0.false
