-- `query::writing::write_prefix` meets its contract. A place past the greatest number lies past the end.
use native.Mathlib.Omega.{arith}
use mathlib.Core.Path.{◌≡◌, refl}
use borrow.Author.Tests.{not-true, not-false}
use Rattle.places.proofs.Inside.{inside, outside}
use Rattle.query.specs.Prefix.{part}
use Rattle.query.proofs.Pieces.{part_got, not_written, all_written, none_written}
use Rattle.query.proofs.writing.write_prefix.Goals as goal
use Rattle.query.proofs.writing.write_prefix.Goals.{After-unwrap_or-prefix}

-- what was asked for is the part
got : (c : After-unwrap_or-prefix) → c.unwrap_or-prefix.result.now ≡ part c.args.w c.args.from c.args.source.now
got c =
    let a = c.args in
    part_got a.w a.from a.source.now c.saturating_add-end.result 18446744073709551615 c.saturating_add-end.ensures (omega arith) c.get.result c.get.ensures.lookup.0 _ _
    c.unwrap_or-prefix.ensures refl (omega arith)

pub returns-then-not-kept : goal.returns-then-not-kept
returns-then-not-kept c = let a = c.args in rw (not-true a.kept c.if-not-kept.true-raw) (let both = none_written a.out.now a.at in record { out_after = both.0; value = both.1 })

pub returns-then-not-within : goal.returns-then-not-within
returns-then-not-within c =
    let a = c.args in
    rw (not-false a.kept c.if-not-kept.false-raw, ← got (goal.at.returns-then-not-within c).After-unwrap_or-prefix)
    (let both = not_written a.out.now a.at _ (outside _ _ _ _ c.within.ensures c.if-not-within.true-raw) in record { out_after = both.0; value = both.1 })

pub overflow_add-result : goal.overflow_add-result
overflow_add-result c = omega (arith, inside _ _ _ _ c.within.ensures c.if-not-within.false-raw)

pub returns : goal.returns
returns c =
    let a = c.args in
    rw (not-false a.kept c.if-not-kept.false-raw, ← got (goal.at.returns c).After-unwrap_or-prefix)
    (let both = all_written a.out.now a.at _ _ refl (inside _ _ _ _ c.within.ensures c.if-not-within.false-raw) _ c.copy.ensures in record { out_after = both.0; value = both.1 })
