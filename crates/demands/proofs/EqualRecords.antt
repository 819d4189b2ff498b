-- Demand 3 holds.
use Prim.Native.Nat.{ℕ, ◌≤◌}
use native.Mathlib.Omega.{arith}
use mathlib.Core.List.{List}
use Rattle.places.proofs.Lists.{all_each}
use Rattle.bits.specs.Strings.{Bits, count}
use Rattle.tree.specs.Cut.{prefixes, cut}
use Rattle.tree.proofs.Prefixes.{prefixes_exact, cut_shortest, cut_whole}
use Rattle.honest.proofs.Demand2.{honest_total, first_add, query_most}
use Rattle.honest.proofs.Weighted.{weighted_total, weighted_children}
use Rattle.honest.proofs.Demand3.{records_alike, record_reports, record_begins}
use Rattle.demands.specs.Demands.{CutTo, Demand3}

-- a cut string is what the user's sentence says
cut_to : (t : ℕ) (xs : List Bits) (x : Bits) → CutTo t xs x (cut t xs x)
cut_to t xs x = (
  λ q some light.
      let c = cut_shortest t xs x q ((prefixes_exact q x).1 some) light in
      ((prefixes_exact (cut t xs x) x).0 c.0, c.1, c.2),
  λ heavy. cut_whole t xs x (all_each (λ q. t ≤ count xs q) (prefixes x) (λ q m. heavy q ((prefixes_exact q x).0 m))),
)

pub demand_3 : Demand3
demand_3 = (
  cut_to,
  records_alike,
  record_reports,
  record_begins,
  λ s xs ws honest ones ok q some fits. honest_total s xs ws honest ones ok q (omega arith) fits,
  λ s xs ws honest ok q some fits. weighted_total s xs ws honest ok q (omega arith) fits,
  λ s xs ws honest ok q some short. weighted_children s xs ws honest ok q (omega arith) short,
  first_add,
  query_most,
)
