use Prim.Native.Nat.{◌^◌, ◌<◌}
use mathlib.Core.Path.{◌≡◌}
use lib.ListN.{drop}
use Rattle.exam_text.specs.Reader.{number_after}
use Rattle.exam_reading.proofs.fields.number_of.Given as goal

abbrev pub invariant-loop-c : goal.invariant-loop-c
invariant-loop-c l = (l.x < 10 ^ l.c-index) × (number_after 0 l.digits ≡ number_after l.x (drop l.c-index l.digits))
