-- `bits::child::write_child` meets its contract. A prefix with fewer bits is taken whole; else its whole bytes and the rest are its bits.
use native.Mathlib.Omega.{arith}
use Prim.Native.Nat.{ℕ}
use mathlib.Core.Path.{◌≡◌, ◌∙◌}
use mathlib.Core.Bool.{Bool}
use mathlib.Core.List.{List}
use Rattle.bits.specs.Strings.{◌▹◌}
use Rattle.bits.specs.Packing.{pack, unpack}
use Rattle.places.specs.Places.{put_at}
use Rattle.bits.proofs.Longer.{unpack_all}
use Rattle.bits.proofs.child.write_child.Goals as goal

-- the same number of bits, the same child
same_bits : (d : List ℕ) (at : ℕ) (s : List ℕ) (b : Bool) (len n : ℕ) (out : List ℕ) → out ≡ put_at d at (pack (unpack n s ▹ b)) → n ≡ len
    → out ≡ put_at d at (pack (unpack len s ▹ b))
same_bits d at s b len n out e f = e ∙ rw f

pub returns-then-prefix-len : goal.returns-then-prefix-len
returns-then-prefix-len c =
    let a = c.args in
    let s = unpack_all a.len a.prefix.now (omega arith) in
    c.put_child_of_all.ensures ∙ rw s

pub returns : goal.returns
returns c =
    let a = c.args in
    same_bits a.out.now a.at a.prefix.now a.bit a.len _ _ c.put_child.ensures (omega arith)
