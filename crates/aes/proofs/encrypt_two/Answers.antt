-- `aes::encrypt_two` meets its contract. After j steps of the loop the key and both states are those after j rounds.
use mathlib.Core.Path.{◌≡◌, ◌∙◌}
use native.Mathlib.Omega.{arith}
use Rattle.aes.proofs.Rounds.{start, next, last}
use Rattle.aes.proofs.encrypt_two.Goals as goal

pub loop-j-init : goal.loop-j-init
loop-j-init c = (start _ _, start _ _)

pub loop-j-preserved : goal.loop-j-preserved
loop-j-preserved c =
    let l = c.loop-j.invariant in
    let k = c.next_round_key-k.ensures in
    (next l.0 k c.round-s.ensures, next l.1 k c.round-u.ensures)

pub returns : goal.returns
returns c =
    let key = c.load-k.ensures in
    let nine : c.loop-j.j ≡ 9 = omega arith in (
      c.store.ensures ∙ last _ key c.begin-s.ensures c.loop-j.invariant.0 nine c.next_round_key-k-2.ensures c.last_round.ensures,
      c.store-2.ensures ∙ last _ key c.begin-u.ensures c.loop-j.invariant.1 nine c.next_round_key-k-2.ensures c.last_round-2.ensures,
    )
