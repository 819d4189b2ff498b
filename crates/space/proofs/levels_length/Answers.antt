-- `space::levels_length` meets its contract: what was added and what the levels from the next one on add is the whole, and `kept` is what can be
-- kept of this length.
use Prim.Native.Nat.{ℕ, ◌*◌, min}
use native.Mathlib.Omega.{arith}
use native.Mathlib.Nat.{min_comm}
use mathlib.Core.Path.{ap, ◌∙◌}
use Rattle.tree.specs.Space.{level_length}
use Rattle.space.proofs.Levels.{keepable_next, levels_step, levels_none}
use Rattle.space.proofs.levels_length.Goals as goal

pub loop-k-preserved : goal.loop-k-preserved
loop-k-preserved c =
    let w = c.args.most in
    let n = c.args.n in
    let k = c.loop-k.k in
    let same = c.loop-k.invariant.kept in
    let level = c.level_length-space.ensures.0 ∙ ap (λ (x : ℕ). level_length k (2 * x)) same in
    record {
      few = omega arith;
      kept = c.min-kept-in-loop-k.ensures ∙ min_comm w (2 * c.loop-k.kept) ∙ ap (λ (x : ℕ). min (2 * x) w) same ∙ keepable_next w k;
      sum = omega (arith, level, levels_step w n k (omega arith), c.loop-k.invariant.sum);
      bound = omega arith;
    }

pub returns : goal.returns
returns c =
    let l = c.loop-k in
    let a = c.args in
    (omega (arith, l.invariant.sum, levels_none a.most a.n l.k (omega arith)), omega arith)
