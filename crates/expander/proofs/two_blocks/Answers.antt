-- `expander::two_blocks` meets its contract under AES, by what its counters are.
use Rattle.std.proofs.Common.{ap, ◌∙◌}
use Rattle.aes.specs.Fips197.{cipher}
use Rattle.expander.specs.Expander.{aes_block}
use Rattle.expander.proofs.two_blocks.Goals as goal

pub returns-in-Aes : goal.returns-in-Aes
unfolding aes_block
returns-in-Aes c =
    let seed = c.args.seed in
    rw c.in-Aes.is (
      c.encrypt_two.ensures.0 ∙ ap (cipher seed) c.counter.ensures,
      c.encrypt_two.ensures.1 ∙ ap (cipher seed) c.counter-in-Aes.ensures,
    )
