-- `parents::up_from` meets its contract.
use Rattle.std.proofs.Common.{rules, tests, refl}
use Rattle.std.proofs.lemmas.Iterator.{YieldsList-from_range}
use Rattle.std.proofs.lemmas.Iterator.Search.{find_from_yields_List}
use Rattle.parents.specs.Lookup.{is_parent}
use Rattle.parents.proofs.Found.{found_up}
use Rattle.parents.proofs.up_from.Goals as goal

pub returns : goal.returns
returns c =
    let a = c.args in
    let f = is_parent a.last.now a.child.now a.k in
    found_up f a.from a.m c.find.result
    (find_from_yields_List f c.find.new.self _ c.find.result c.find.ensures.ran (YieldsList-from_range a.from a.m _ refl refl) (λ x b q k. search (rules, tests)))
