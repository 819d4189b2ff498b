-- `key_answering::page::Key::write_levels` meets its contract. The loop's invariant: the lines of the levels passed are written.
use Prim.Native.Nat.{ℕ}
use native.Mathlib.Omega.{arith}
use mathlib.Core.Path.{◌≡◌}
use mathlib.Core.List.{List}
use Rattle.point.specs.PublicShare.{read_correction}
use Rattle.key_answering.specs.KeyPage.{level_line}
use Rattle.key_answering.proofs.Joined.{none_written, next_room, next_written}
use Rattle.key_answering.proofs.key.Key.write_levels.Goals as goal

-- the line of a level
abbrev line : List ℕ → ℕ → ℕ → List ℕ
line share n k = level_line k (read_correction n share k)

pub loop-k-init : goal.loop-k-init
loop-k-init c = let a = c.args in none_written (line a.self.share.now a.self.n) a.out.now a.at a.self.n c.requires

pub write_level-here-requires : goal.write_level-here-requires
write_level-here-requires c =
    let a = c.args in
    let l = c.loop-k in
    next_room (line a.self.share.now a.self.n) a.out.now a.at a.self.n c.requires l.k (omega arith) _ _ l.invariant

pub loop-k-preserved : goal.loop-k-preserved
loop-k-preserved c =
    let a = c.args in
    let l = c.loop-k in
    next_written (line a.self.share.now a.self.n) a.out.now a.at a.self.n c.requires l.k (omega arith) _ _ l.invariant _ _ (c.write_level-here.ensures.value, c.write_level-here.ensures.out_after)

pub returns : goal.returns
returns c =
    let l = c.loop-k in
    let a = c.args in
    let all : l.k ≡ a.self.n = omega (arith, c.loop-k-test.false) in
    let both = rw all at l.invariant in
    record { value = both.0; out_after = both.1 }
