-- Combining two shares that are totals keeps the prefixes that the search rule keeps.
use Prim.Native.Nat.{ℕ, ◌/◌, ◌^◌, ◌<◌}
use native.Mathlib.Omega.{arith}
use mathlib.Core.Path.{◌≡◌, refl, ap, ap₂, ◌∙◌}
use mathlib.Core.Bool.{Bool}
use mathlib.Core.List.{List, [], ◌∷◌, map, append-nil}
use lib.ListN.{length}
use Rattle.places.specs.Lists.{select}
use Rattle.bits.specs.Strings.{Bits}
use Rattle.group.specs.Group.{Group}
use Rattle.group.specs.Modular.{field}
use Rattle.kept.specs.Kept.{kept}
use Rattle.kept.proofs.Kept.{kept_select}
use Rattle.query.specs.Query.{prefixes_of}
use Rattle.tree.specs.SearchRule.{totals}
use Rattle.tree.proofs.Lengths.{totals_length}
use Rattle.tree.proofs.Read.{totals_read}
use Rattle.shares.specs.ShareNumbers.{numbers, added}
use Rattle.combine.specs.Combine.{passing}

-- Totals are added place by place.
pub added_map : (G : Group ℕ) (T U : Bits → ℕ) (qs : List Bits) → added G (map T qs) (map U qs) ≡ map (λ q. G.add (T q) (U q)) qs
added_map G T U [] = refl
added_map G T U (q ∷ qs) = ap (λ (xs : List ℕ). G.add (T q) (U q) ∷ xs) (added_map G T U qs)

-- The numbers of a share that is totals are the totals.
pub numbers_totals : (T : Bits → ℕ) → ((q : Bits) → T q < 2 ^ 64) → (qs : List Bits) → numbers (totals T qs) ≡ map T qs
numbers_totals T small qs =
    let e : length (totals T qs) / 8 ≡ length qs = omega (arith, totals_length T qs) in
    rw e (rw (append-nil (totals T qs)) at (totals_read T small qs []))

-- So, of two shares that are totals of the query's prefixes, those pass whose sum in the group does.
pub kept_totals : (passes : ℕ → Bool) (query : List ℕ) (T₀ T₁ : Bits → ℕ) → ((q : Bits) → T₀ q < 2 ^ 64) → ((q : Bits) → T₁ q < 2 ^ 64)
    → passing passes query (totals T₀ (prefixes_of query)) (totals T₁ (prefixes_of query)) ≡ select (λ q. passes (field.add (T₀ q) (T₁ q))) (prefixes_of query)
kept_totals passes query T₀ T₁ small₀ small₁ =
    ap (kept passes (prefixes_of query))
    (ap₂ (added field) (numbers_totals T₀ small₀ (prefixes_of query)) (numbers_totals T₁ small₁ (prefixes_of query)) ∙ added_map field T₀ T₁ (prefixes_of query))
    ∙ kept_select passes (λ q. field.add (T₀ q) (T₁ q)) (prefixes_of query)
