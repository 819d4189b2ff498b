-- What the reader lost in all is what it lost before and what it lost in this read, which stand one behind the other in the space.
use Rattle.std.proofs.Common.{◌≡◌, ◌+◌, ◌-◌, ◌≤◌, ℕ, List, ◌++◌, arith, length, take, drop, sym, ap, ap₂, ◌∙◌, subst, length-take-le, length-drop}
use Rattle.std.proofs.Math.Seq.{take-add}
use Rattle.std.specs.Io.KnownBytes.{Consumes}
use Rattle.std.proofs.KnownBytes.{Consumes-trans}
use Rattle.std.proofs.lemmas.List.{take-append-le}
use borrow.Rule.Slice.PartMut.{put_mid, take_put, same_len_mid}
use lib.Seq.{drop_at}
use Rattle.streams.proofs.read_text.Goals as goal

module _ (d k : ℕ) (text part : List ℕ) (within : d ≤ length text) where
  same_length : d + k ≤ length text → length part ≡ k → length (put_mid d k text part) ≡ length text
  same_length room long = same_len_mid d k text part (omega (arith, length-take-le k (drop d text) (omega (arith, length-drop d text))))

  -- the first of what was written behind the first d
  behind : (m : ℕ) → m ≤ length part → take (d + m) (put_mid d k text part) ≡ take d text ++ take m part
  behind m more =
      let front = take_put d k text part within in
      let rest = drop_at (take d text) _ d (length-take-le d text within) in
      take-add d m _ ∙ ap₂ (λ (x y : List ℕ). x ++ y) front (ap (take m) rest ∙ take-append-le m part _ more)

pub loop-done-preserved : goal.loop-done-preserved
loop-done-preserved g c =
    let buf = c.read.new.buf in
    let d = c.loop-done.done in
    let m = c.in-Ok.more in
    let text = c.loop-done.text in
    let all = Consumes-trans _ _ _ _ _ c.loop-done.invariant.2 c.in-Ok.ensures.bytes.0 in
    let few = c.in-Ok.ensures.bound.0 in
    let same = same_length d (length text - d) text buf (omega arith) (omega arith) (omega arith) in
    (omega arith, omega arith, subst (Consumes _ _) (sym (behind d _ text buf (omega arith) m (omega arith))) all)
