-- `keymaker::put_word` meets its contract.
use mathlib.Core.Path.{◌≡◌, sym, ap, ◌∙◌}
use mathlib.Core.List.{List}
use Prim.Native.Nat.{ℕ, ◌+◌}
use native.Mathlib.Omega.{arith}
use lib.ListN.{length}
use Rattle.numbers.specs.Numbers.{little}
use Rattle.places.specs.Places.{put_at}
use Rattle.numbers.proofs.Endian.{little_length}
use Rattle.places.proofs.Places.{put_at_more}
use Rattle.point.specs.PublicShare.{level_bytes}
use Rattle.keymaker.proofs.put_word.Goals as goal

pub returns : goal.returns
unfolding level_bytes
returns c =
    let a = c.args in
    let size : length a.word.seed ≡ 16 = c.well_formed.1.1.0.1.1.0.1.0.1 in
    let number = little 8 a.word.payload in
    c.write_le8.ensures ∙ ap (λ (l : List ℕ). put_at l (a.at + 16) number) c.write16.ensures
    ∙ ap (λ (z : ℕ). put_at (put_at a.out.now a.at a.word.seed) (a.at + z) number) (sym size)
    ∙ put_at_more a.out.now a.at a.word.seed number (omega (arith, little_length 8 a.word.payload, c.requires))
