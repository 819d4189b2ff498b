-- `bits::zero_from` meets its contract. What is left is zero where each of its bytes is.
use native.Mathlib.Omega.{arith}
use mathlib.Core.Path.{◌∙◌}
use lib.Dec.{eqb}
use borrow.Author.Rules.{rules}
use borrow.Author.Tests.{tests}
use Rattle.std.proofs.lemmas.Iterator.{YieldsList-from_slice}
use Rattle.std.proofs.lemmas.Iterator.Adapters.{YieldsList-from_skip}
use Rattle.std.proofs.lemmas.Iterator.Search.{all_from_yields_List}
use Rattle.bits.proofs.Spare.{zero_rest}
use Rattle.bits.proofs.zero_from.Goals as goal

pub returns : goal.returns
returns c =
    let a = c.args in
    all_from_yields_List (λ x. eqb x 0) _ _ _ c.all.ensures.ran (YieldsList-from_skip a.from (YieldsList-from_slice a.s.now cc) cc) (λ x b q k. search (rules, tests))
    ∙ zero_rest a.from a.s.now (λ i. omega (arith, c.type_inv.s i))
