-- `key_answering::page::Key::write_pair` meets its contract.
use Prim.Native.Nat.{ℕ}
use mathlib.Core.Path.{◌≡◌, ◌∙◌}
use mathlib.Core.Bool.{not}
use mathlib.Core.List.{List, ◌++◌}
use lib.ListN.{take}
use Rattle.places.proofs.Places.{Grown, grown_start, grown_room, grown_more}
use Rattle.bits.specs.Strings.{◌▹◌}
use Rattle.bits.specs.Packing.{unpack}
use Rattle.expander.specs.declared.Expander.{Expander}
use Rattle.point.specs.Evaluation.{bit_of}
use Rattle.key_answering.specs.KeyPage.{prefix_word, beside_word, shares_line_at}
use Rattle.fields.proofs.FieldChain.{Wrote, rest_room, rest_written}
use Rattle.key_answering.proofs.Sides.{own_bit}
use Rattle.key_answering.proofs.key.Key.write_pair.Goals as goal
use Rattle.key_answering.proofs.key.Key.write_pair.Goals.{After-bit_at-own, After-write_side-here}

-- the two lines
abbrev first : (e : Expander) (n : ℕ) (string seed0 seed1 share : List ℕ) (k : ℕ) → List ℕ
first e n string seed0 seed1 share k = let x = unpack n string in shares_line_at e n x seed0 seed1 share prefix_word (take k x ▹ bit_of x k)

abbrev second : (e : Expander) (n : ℕ) (string seed0 seed1 share : List ℕ) (k : ℕ) → List ℕ
second e n string seed0 seed1 share k = let x = unpack n string in shares_line_at e n x seed0 seed1 share beside_word (take k x ▹ not (bit_of x k))

-- the string's own bit
own : (b : After-bit_at-own) → let a = b.args in b.bit_at-own.result ≡ bit_of (unpack a.self.n a.self.string.now) a.k
own b = let a = b.args in b.bit_at-own.ensures ∙ own_bit a.self.n a.k a.self.string.now b.requires.level

pub write_side-here-requires : goal.write_side-here-requires
write_side-here-requires c =
    let a = c.args in
    let x = first a.self.e a.self.n a.self.string.now a.self.seed0 a.self.seed1 a.self.share.now a.k in
    let y = second a.self.e a.self.n a.self.string.now a.self.seed0 a.self.seed1 a.self.share.now a.k in
    record {
      level = c.requires.level;
      room = rw (own (goal.at.write_side-here-requires c).After-bit_at-own) (grown_room a.out.now a.at a.out.now a.at x y (x ++ y) (grown_start a.out.now a.at (x ++ y)) c.requires.room);
    }

-- after the first line
half : (w : After-write_side-here) → w.bit_at-own.result ≡ bit_of (unpack w.args.self.n w.args.self.string.now) w.args.k → let a = w.args in
    let x = first a.self.e a.self.n a.self.string.now a.self.seed0 a.self.seed1 a.self.share.now a.k in
    let y = second a.self.e a.self.n a.self.string.now a.self.seed0 a.self.seed1 a.self.share.now a.k in
    Grown a.out.now a.at w.write_side-here.new.out w.write_side-here.result y (x ++ y)
half w is =
    let a = w.args in
    let x = first a.self.e a.self.n a.self.string.now a.self.seed0 a.self.seed1 a.self.share.now a.k in
    let y = second a.self.e a.self.n a.self.string.now a.self.seed0 a.self.seed1 a.self.share.now a.k in
    let s = w.write_side-here in
    let wrote : Wrote a.out.now a.at x s.new.out s.result = rw (← is) (s.ensures.value, s.ensures.out_after) in
    grown_more a.out.now a.at a.out.now a.at x y (x ++ y) (grown_start a.out.now a.at (x ++ y)) w.requires.room _ _ wrote.1 wrote.0

pub write_side-requires : goal.write_side-requires
write_side-requires c =
    let a = c.args in
    let x = first a.self.e a.self.n a.self.string.now a.self.seed0 a.self.seed1 a.self.share.now a.k in
    let y = second a.self.e a.self.n a.self.string.now a.self.seed0 a.self.seed1 a.self.share.now a.k in
    let is = own (goal.at.write_side-requires c).After-bit_at-own in
    record {
      level = c.requires.level;
      room = rw is (rest_room a.out.now a.at (x ++ y) c.requires.room _ _ y (half (goal.at.write_side-requires c).After-write_side-here is));
    }

pub returns : goal.returns
returns c =
    let a = c.args in
    let x = first a.self.e a.self.n a.self.string.now a.self.seed0 a.self.seed1 a.self.share.now a.k in
    let y = second a.self.e a.self.n a.self.string.now a.self.seed0 a.self.seed1 a.self.share.now a.k in
    let is = own (goal.at.returns c).After-bit_at-own in
    let h = c.write_side-here in
    let s = c.write_side in
    let wrote : Wrote h.new.out h.result y s.new.out s.result = rw (← is) (s.ensures.value, s.ensures.out_after) in
    let both = rest_written a.out.now a.at (x ++ y) c.requires.room _ _ y (half (goal.at.returns c).After-write_side-here is) _ _ wrote in
    record { value = both.0; out_after = both.1 }
