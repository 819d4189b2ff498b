-- `fields::decimal::put` meets its contract.
use native.Mathlib.Omega.{arith}
use mathlib.Core.Path.{refl}
use mathlib.Core.List.{[]}
use Rattle.numbers.proofs.Straight.{stored}
use Rattle.fields.proofs.decimal.put.Goals as goal

pub returns : goal.returns
returns c = record { value = refl; out_after = stored c.args.out.now c.args.at c.args.character [] (omega arith) }
