-- `capi::tally_key` meets its contract: the key maker is told the weight that the call is told.
use mathlib.Core.Path.{ap, ◌∙◌}
use lib.IntN.{ℤ}
use mir.Syntax.{w16}
use mir.ValLaws.{to_z-of_z}
use Rattle.keymaker.specs.Key.{key_exit}
use Rattle.capi.proofs.tally_key.Goals as goal

pub returns : goal.returns
returns c =
    let a = c.args in
    c.from.ensures _ ∙ c.make_key.ensures
    ∙ ap (λ (w : ℤ). key_exit a.n a.expander w a.string.now a.seed0.now a.seed1.now a.public_share.now) (to_z-of_z w16 a.weight c.ranges.weight)
