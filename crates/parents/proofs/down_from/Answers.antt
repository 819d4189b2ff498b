-- `parents::down_from` meets its contract.
use Rattle.std.proofs.Common.{rules, tests, ap}
use Rattle.std.proofs.lemmas.Iterator.Search.{find_from_yields_List}
use Rattle.parents.specs.Lookup.{is_parent}
use Rattle.parents.proofs.Found.{down_yields, found_down}
use Rattle.parents.proofs.down_from.Goals as goal

pub returns : goal.returns
returns c none =
    let a = c.args in
    let f = is_parent a.last.now a.child.now a.k in
    found_down f none a.below c.find.result
    (find_from_yields_List f c.find.new.self _ c.find.result c.find.ensures.ran (down_yields a.below (ap (λ r. r.start) c.rev.ensures.source) (ap (λ r. r.end) c.rev.ensures.source)) (λ x b q k. search (rules, tests)))
