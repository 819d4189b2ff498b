-- `key_answering::page::Key::write_side` meets its contract.
use Prim.Native.Nat.{◌+◌}
use mathlib.Core.Path.{◌≡◌, sym, ap, ◌∙◌}
use lib.ListN.{length, take}
use Rattle.bits.specs.Strings.{◌▹◌}
use Rattle.bits.specs.Packing.{packed_length, unpack}
use Rattle.key_answering.specs.KeyPage.{shares_line, shares_line_at}
use Rattle.fields.proofs.FieldChain.{Wrote}
use Rattle.key_answering.proofs.Sides.{side_size, side_packed, side_line}
use Rattle.key_answering.proofs.key.Key.write_side.Goals as goal
use Rattle.key_answering.proofs.key.Key.write_side.Goals.{After-packed_length-end, After-shares_at-one}

-- the bytes of the prefix
packed : (c : After-packed_length-end) → let a = c.args in
    length (take c.packed_length-end.result c.write_child.new.out) ≡ packed_length (a.k + 1)
packed c =
    let a = c.args in
    ap length (side_packed a.self.n a.k a.self.string.now a.bit c.requires.level c.args.self.packed.0 c.args.self.packed.1 _ _ c.packed_length-end.ensures c.write_child.ensures)
    ∙ side_size a.self.n a.k a.self.string.now a.bit c.requires.level c.args.self.packed.0 c.args.self.packed.1

-- the line that is written
line : (o : After-shares_at-one) → let a = o.args in
    shares_line a.word.now (unpack (a.k + 1) (take o.packed_length-end.result o.write_child.new.out)) o.shares_at-zero.result.0
    o.shares_at-one.result.0
    ≡ shares_line_at a.self.e a.self.n (unpack a.self.n a.self.string.now) a.self.seed0 a.self.seed1 a.self.share.now a.word.now (take a.k (unpack a.self.n a.self.string.now) ▹ a.bit)
line o =
    let a = o.args in
    side_line a.self.n a.k a.self.string.now a.bit o.requires.level o.args.self.packed.0 o.args.self.packed.1 _ _ o.packed_length-end.ensures o.write_child.ensures a.self.e a.self.seed0
    a.self.seed1 a.self.share.now a.word.now _ _ o.shares_at-zero.ensures.first_value o.shares_at-one.ensures.first_value

pub slice_bounds-prefix-end : goal.slice_bounds-prefix-end
slice_bounds-prefix-end c = c.packed_length-end.ensures ∙ sym (packed (goal.at.slice_bounds-prefix-end c).After-packed_length-end)

pub write_shares-requires : goal.write_shares-requires
write_shares-requires c =
    (packed (goal.at.write_shares-requires c).After-packed_length-end, rw (line (goal.at.write_shares-requires c).After-shares_at-one) c.requires.room)

pub returns : goal.returns
returns c =
    let a = c.args in
    let s = c.write_shares in
    let both : Wrote a.out.now a.at (shares_line_at a.self.e a.self.n (unpack a.self.n a.self.string.now) a.self.seed0 a.self.seed1 a.self.share.now a.word.now (take a.k (unpack a.self.n a.self.string.now) ▹ a.bit)) s.new.out s.result =
    rw (← line (goal.at.returns c).After-shares_at-one) (s.ensures.value, s.ensures.out_after) in
    record { value = both.0; out_after = both.1 }
