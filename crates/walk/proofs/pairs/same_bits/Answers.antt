-- `walk::pairs::same_bits` meets its contract.
use Rattle.std.proofs.Common.{rules, tests, ap, sym, ◌∙◌}
use mathlib.Core.Bool.{beq}
use Rattle.std.proofs.lemmas.Iterator.Search.{all_from_yields_List}
use Rattle.bits.specs.Packing.{bits_of}
use Rattle.point.specs.Evaluation.{bit_of}
use Rattle.walk.proofs.Siblings.{down_yields, all_same}
use Rattle.walk.proofs.pairs.same_bits.Goals as goal

pub returns-clause-below : goal.returns-clause-below
returns-clause-below c =
    let a = c.args in
    let q = bit_of (bits_of a.first.now) in
    let q' = bit_of (bits_of a.second.now) in
    let all =
    all_from_yields_List (λ i. beq (q i) (q' i)) c.all.new.self _ c.all.result c.all.ensures.ran (down_yields a.k (ap (λ r. r.start) c.rev.ensures.source) (ap (λ r. r.end) c.rev.ensures.source)) (λ x b q k. search (rules, tests)) in
    λ e. all_same q q' a.k (sym all ∙ e)
