-- `Search::totals_of` meets its contract. A sum depends on the prefix's bits alone.
use Rattle.levels.proofs.LevelTotals.{total_sums}
use Rattle.levels.proofs.Search.totals_of.Goals as goal

pub returns-clause-first_value : goal.returns-clause-first_value
returns-clause-first_value c =
    let a = c.args in
    let s = a.self.now in
    rw (← c.n-n.ensures)
    (total_sums s.expander c.n-n.result s.seeds0.now s.shares0.now s.seeds1.now s.shares1.now a.k a.first.now c.requires.0
    c.sums-first0.ensures.first_value c.sums-first1.ensures.first_value c.add.ensures.0)

pub returns-clause-second_value : goal.returns-clause-second_value
returns-clause-second_value c =
    let a = c.args in
    let s = a.self.now in
    rw (← c.n-n.ensures)
    (total_sums s.expander c.n-n.result s.seeds0.now s.shares0.now s.seeds1.now s.shares1.now a.k a.second.now c.requires.1
    c.sums-first0.ensures.second_value c.sums-first1.ensures.second_value c.add-2.ensures.0)
