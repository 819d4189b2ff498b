-- `aes::sbox::SBox::sub` meets its contract. It reads the entry of the table.
use mathlib.Core.Path.{ap, ◌∙◌}
use mathlib.Core.List.{List}
use Prim.Native.Nat.{ℕ}
use lib.ListN.{get_or}
use Rattle.aes.proofs.SBoxTable.{entry}
use borrow.Author.Rules.{rules}
use Rattle.aes.proofs.sbox.SBox.sub.Goals as goal

pub returns : goal.returns
returns c =
    ap (λ (l : List ℕ). get_or l c.from.result 0) c.args.self.now.right ∙ rw c.from.ensures (entry c.args.x (search rules))
