-- `walk::checks::payloads_below` meets its contract.
use Rattle.std.proofs.Common.{Bool, ◌&&◌, ltb, ◌≡◌, ℕ, ◌∙◌, ap, arith}
use Rattle.group.specs.Modular.{p}
use Rattle.nodes.specs.NodeLayout.{correction_of}
use Rattle.walk.proofs.PublicTests.{below, below_none_lem, below_more, below_all_lem}
use Rattle.walk.proofs.checks.payloads_below.Goals as goal

pub loop-init : goal.loop-init
loop-init c =
    let made = c.at_level-reader.ensures in
    record { share = cc; levels = made.1; next = made.2; tested = below_none_lem c.args.n c.args.share.now }

pub loop-preserved : goal.loop-preserved
loop-preserved c =
    let l = c.loop in
    let moved = c.advanced-reader.ensures in
    let n = c.args.n in
    let share = c.args.share.now in
    record {
      share = cc;
      levels = cc;
      next = omega (arith, moved.2);
      tested =
          below_more n l.counter share (correction_of c.correction-word.result) _
          (rw (l.invariant.levels, l.invariant.share, l.invariant.next) at c.correction-word.ensures)
          (ap (λ (b : Bool). b && ltb c.correction-word.result.payload p) l.invariant.tested);
    }

pub returns : goal.returns
returns c =
    let all : c.loop.counter ≡ c.args.n = omega arith in
    c.loop.invariant.tested ∙ ap (λ (k : ℕ). below c.args.n c.args.share.now k) all ∙ below_all_lem c.args.n c.args.share.now
