-- `aes::sbox::SBox::new` meets its contract. The table is the affine map at each inverse, which is computed.
use Rattle.aes.proofs.Computes.{computes}
use Rattle.gf256.proofs.Inverse.{inverses}
use Rattle.aes.proofs.SBoxTable.{table_rule}
use Rattle.aes.proofs.sbox.SBox.new.Goals as goal

pub invariant_of-result : goal.invariant_of-result
unfolding computes inverses
invariant_of-result c = record { right = table_rule }
