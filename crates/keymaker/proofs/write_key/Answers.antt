-- `keymaker::write_key` meets its contract. The loop goes from level to level.
use mathlib.Core.Path.{◌≡◌, ap, ◌∙◌}
use Prim.Native.Nat.{ℕ}
use native.Mathlib.Omega.{arith}
use lib.ListN.{length, length-set}
use Rattle.places.specs.Places.{put_at}
use Rattle.point.specs.PublicShare.{level_bytes}
use Rattle.nodes.specs.NodeLayout.{node_of, correction_of}
use Rattle.keymaker.proofs.KeyMaker.{standing_start, standing_more, standing_end}
use Rattle.keymaker.proofs.write_key.Goals as goal

pub loop-k-init : goal.loop-k-init
loop-k-init c = let a = c.args in standing_start a.e a.n a.weight a.string.now a.seed0 a.seed1 a.out.now

pub put_control-requires : goal.put_control-requires
put_control-requires c = omega (arith, c.loop-k.invariant.written.size, c.requires.0, c.loop-k-test.true)

pub put_word-requires : goal.put_word-requires
put_word-requires c =
    let size : length c.put_control.new.out ≡ length c.loop-k.out = ap length c.put_control.ensures ∙ simp length-set in
    omega (arith, c.level_start.ensures, c.loop-k.invariant.written.size, c.requires.0, c.loop-k-test.true)

pub loop-k-preserved : goal.loop-k-preserved
loop-k-preserved c =
    let a = c.args in
    let l = c.loop-k in
    let w = correction_of c.next_level.result.0 in
    standing_more a.e a.n a.weight a.string.now a.seed0 a.seed1 c.requires.1 c.requires.2 a.out.now c.requires.0 l.k c.loop-k-test.true
    (node_of l.nodes.0) (node_of l.nodes.1) l.out l.invariant c.bit_at.result c.bit_at.ensures w c.next_level.ensures.word
    c.put_control.new.out c.put_word.new.out c.put_control.ensures
    (c.put_word.ensures ∙ ap (λ (z : ℕ). put_at c.put_control.new.out z (level_bytes w)) c.level_start.ensures)
    (node_of c.next_level.result.1.0) (node_of c.next_level.result.1.1) c.next_level.ensures.next.0 c.next_level.ensures.next.1

pub shape_of-out : goal.shape_of-out
shape_of-out c = c.loop-k.invariant.written.size

pub returns : goal.returns
returns c =
    let a = c.args in
    let l = c.loop-k in
    standing_end a.e a.n a.weight a.string.now a.seed0 a.seed1 c.requires.1 c.requires.2 a.out.now c.requires.0 l.k (node_of l.nodes.0) (node_of l.nodes.1) l.out l.invariant c.loop-k-test.false
