-- `key_answering::page::Key::write_path` meets its contract. The loop's invariant: the lines of the bits passed are written.
use Prim.Native.Nat.{ℕ}
use native.Mathlib.Omega.{arith}
use mathlib.Core.Path.{◌≡◌}
use mathlib.Core.List.{List}
use Rattle.bits.specs.Packing.{unpack}
use Rattle.key_answering.specs.KeyPage.{path_lines}
use Rattle.key_answering.proofs.Joined.{none_written, next_room, next_written}
use Rattle.key_answering.proofs.key.Key.write_path.Goals as goal
use Rattle.key_answering.proofs.key.Key.write_path.Goals.{Start}

-- the lines of a bit
abbrev lines : Start → ℕ → List ℕ
lines s = let a = s.args in path_lines a.self.e a.self.n (unpack a.self.n a.self.string.now) a.self.seed0 a.self.seed1 a.self.share.now

pub loop-k-init : goal.loop-k-init
loop-k-init c = let a = c.args in none_written (lines (goal.at.loop-k-init c).Start) a.out.now a.at a.self.n c.requires.room

pub write_pair-here-requires : goal.write_pair-here-requires
write_pair-here-requires c =
    let a = c.args in
    let l = c.loop-k in
    record { level = omega arith; room = next_room (lines (goal.at.write_pair-here-requires c).Start) a.out.now a.at a.self.n c.requires.room l.k (omega arith) _ _ l.invariant }

pub loop-k-preserved : goal.loop-k-preserved
loop-k-preserved c =
    let a = c.args in
    let l = c.loop-k in
    next_written (lines (goal.at.loop-k-preserved c).Start) a.out.now a.at a.self.n c.requires.room l.k (omega arith) _ _ l.invariant _ _ (c.write_pair-here.ensures.value, c.write_pair-here.ensures.out_after)

pub returns : goal.returns
returns c =
    let l = c.loop-k in
    let a = c.args in
    let all : l.k ≡ a.self.n = omega (arith, c.loop-k-test.false) in
    let both = rw all at l.invariant in
    record { value = both.0; out_after = both.1 }
