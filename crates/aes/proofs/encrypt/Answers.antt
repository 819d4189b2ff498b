-- `aes::encrypt` meets its contract. After i steps of the loop the key and the state are those after i rounds.
use mathlib.Core.Path.{◌≡◌, ◌∙◌}
use native.Mathlib.Omega.{arith}
use Rattle.aes.proofs.Rounds.{start, next, last}
use Rattle.aes.proofs.encrypt.Goals as goal

pub loop-i-init : goal.loop-i-init
loop-i-init c = start _ _

pub loop-i-preserved : goal.loop-i-preserved
loop-i-preserved c = next c.loop-i.invariant c.next_round_key-k.ensures c.round-s.ensures

pub returns : goal.returns
returns c =
    let nine : c.loop-i.i ≡ 9 = omega arith in
    c.store.ensures ∙ last _ c.load-k.ensures c.begin-s.ensures c.loop-i.invariant nine c.next_round_key-k-2.ensures c.last_round.ensures
