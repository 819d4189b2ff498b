-- `expander::join` meets its contract.
use Rattle.std.proofs.Common.{ℕ, List, ap, ◌∙◌}
use Rattle.numbers.specs.Numbers.{little}
use Rattle.places.specs.Places.{put_at}
use Rattle.expander.proofs.Words.{joined}
use Rattle.expander.proofs.join.Goals as goal

pub returns : goal.returns
returns c =
    let a = c.args in
    c.write_le8-2.ensures ∙ ap (λ (l : List ℕ). put_at l 8 (little 8 a.second)) c.write_le8.ensures ∙ joined a.first a.second
