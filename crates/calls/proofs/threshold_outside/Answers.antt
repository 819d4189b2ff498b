-- `calls::threshold_outside` meets its contract.
use Rattle.calls.proofs.threshold_outside.Goals as goal

pub returns-then-weighted : goal.returns-then-weighted
returns-then-weighted c = rw c.if-weighted.true c.outside.ensures

pub returns : goal.returns
returns c = rw c.if-weighted.false c.outside-2.ensures
