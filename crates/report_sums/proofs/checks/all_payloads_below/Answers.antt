-- `report_sums::checks::all_payloads_below` meets its contract: the chunks are the public shares.
use Rattle.std.proofs.Common.{rules, tests, arith, ◌∙◌}
use Rattle.std.proofs.lemmas.Iterator.Search.{all_from_yields_List}
use Rattle.group.specs.Modular.{p}
use Rattle.point.specs.PublicShare.{payloads_below}
use Rattle.report_sums.proofs.ReportChecks.{chunks_yield, chunks_pass, none_fails}
use Rattle.report_sums.proofs.checks.all_payloads_below.Goals as goal

pub returns-then-size-eq0 : goal.returns-then-size-eq0
returns-then-size-eq0 c =
    let a = c.args in
    rw c.if-size-eq0.true (none_fails a.n a.reports a.shares.now (payloads_below p c.args.n) c.public_share_length-size.ensures c.if-size-eq0.true)

pub returns-else-size-eq0 : goal.returns-else-size-eq0
returns-else-size-eq0 c =
    let a = c.args in
    let size = c.public_share_length-size in
    all_from_yields_List (payloads_below p c.args.n) _ _ c.all.result c.all.ensures.ran
    (chunks_yield size.result a.reports a.shares.now (omega arith) c.take.ensures.source c.take.ensures.count c.chunks_exact.ensures.size c.chunks_exact.ensures.rest)
    (λ x b q k. search (rules, tests))
    ∙ chunks_pass a.n a.reports a.shares.now (payloads_below p c.args.n) size.ensures
