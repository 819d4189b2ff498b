-- `aes::last_round_key` meets its contract. After n steps of the loop the key is the round key of round n.
use mathlib.Core.Path.{◌≡◌, refl, ap₂, ◌∙◌}
use native.Mathlib.Omega.{arith}
use Rattle.aes.specs.Fips197.{round_key}
use Rattle.aes.proofs.Rounds.{next_key}
use Rattle.aes.proofs.last_round_key.Goals as goal

pub loop-n-init : goal.loop-n-init
unfolding round_key
loop-n-init c = refl

pub loop-n-preserved : goal.loop-n-preserved
loop-n-preserved c = next_key _ _ c.loop-n.invariant c.next_round_key-k.ensures

pub returns : goal.returns
returns c =
    let ten : c.loop-n.n ≡ 10 = omega arith in
    c.store.ensures ∙ c.loop-n.invariant ∙ ap₂ round_key c.load-k.ensures ten
