-- Totals over reports with weights: read as signed numbers they are what the holders' weights add to.
use Prim.Native.Nat.{ℕ, ◌≤◌, ◌<◌}
use native.Mathlib.Omega.{arith}
use mathlib.Core.Path.{◌≡◌, refl, sym, ap, ap₂, ◌∙◌}
use mathlib.Core.Bool.{Bool, true, false, cond}
use mathlib.Core.List.{List, [], ◌∷◌}
use lib.ListN.{length}
use lib.IntN.{ℤ, pos, ◌+ℤ◌, nat_abs, +ℤ_idl}
use Rattle.places.specs.Lists.{All}
use Rattle.bits.specs.Strings.{Bits, is_prefix}
use Rattle.group.specs.Modular.{modular, modulus}
use Rattle.expander.specs.declared.Expander.{Expander}
use Rattle.signed.specs.SignedReading.{embed, signed_in}
use Rattle.signed.proofs.Embedding.{embed_add, embed_zero, reads_back}
use Rattle.point.specs.Totals.{Report, Made, strings, holders, sum_of, reports_total}
use Rattle.point.specs.Instance.{field_scheme, scheme}
use Rattle.point.proofs.Totals.{Embeds, total_whole}
use Rattle.point.proofs.Instance.{scheme_lawful}
use Rattle.weights.specs.Weights.{IsWeight, held_weight}
use Rattle.weights.proofs.HeldWeights.{weight_abs, held_most, weights_near}

-- Whole numbers go into the group, and their sums to sums.
pub embed_embeds : (m : ℕ) → 0 < m → Embeds (modular m) ◌+ℤ◌ (pos 0) (embed m)
embed_embeds m some = record { to_zero = embed_zero m; to_add = embed_add m some }

-- The reports are made with the weights ws, one for each: each stands in its key as a group number.
abbrev pub Weighing : List (Report ℕ) → List ℤ → Type 0
Weighing [] [] = Unit {0}
Weighing [] (w ∷ ws) = ⊥
Weighing (r ∷ rs) [] = ⊥
Weighing (r ∷ rs) (w ∷ ws) = (IsWeight w × (r.weight ≡ embed modulus w)) × Weighing rs ws

-- the weight of a report, read from its key
abbrev whole : Report ℕ → ℤ
whole r = signed_in modulus r.weight

whole_is : (r : Report ℕ) (w : ℤ) → IsWeight w → r.weight ≡ embed modulus w → whole r ≡ w
whole_is r w h e = ap (signed_in modulus) e ∙ reads_back modulus w (weights_near w (omega (arith, weight_abs w h)))

each_whole : (rs : List (Report ℕ)) (ws : List ℤ) → Weighing rs ws → All (λ r. r.weight ≡ embed modulus (whole r)) rs
each_whole [] ws a = tt
each_whole (r ∷ rs) [] a = absurd a
each_whole (r ∷ rs) (w ∷ ws) a = (a.0.1 ∙ ap (embed modulus) (sym (whole_is r w a.0.0 a.0.1)), each_whole rs ws a.1)

each_weight : (rs : List (Report ℕ)) (ws : List ℤ) → Weighing rs ws → All IsWeight ws
each_weight rs [] a = tt
each_weight [] (w ∷ ws) a = absurd a
each_weight (r ∷ rs) (w ∷ ws) a = (a.0.0, each_weight rs ws a.1)

strings_length : (rs : List (Report ℕ)) → length (strings rs) ≡ length rs
strings_length [] = refl
strings_length (r ∷ rs) = omega (arith, strings_length rs)

-- the sum over the holders is what their weights add to
holders_held : (q : Bits) (rs : List (Report ℕ)) (ws : List ℤ) → Weighing rs ws → sum_of ◌+ℤ◌ (pos 0) whole (holders q rs) ≡ held_weight (strings rs) ws q
unfolding sum_of
holders_held q [] ws a = refl
holders_held q (r ∷ rs) [] a = absurd a
holders_held q (r ∷ rs) (w ∷ ws) a = go (is_prefix q r.string) (holders_held q rs ws a.1)
  where
    go : (b : Bool) → sum_of ◌+ℤ◌ (pos 0) whole (holders q rs) ≡ held_weight (strings rs) ws q
        → sum_of ◌+ℤ◌ (pos 0) whole (cond b (r ∷ holders q rs) (holders q rs)) ≡ cond b w (pos 0) +ℤ held_weight (strings rs) ws q
    go true h = ap₂ ◌+ℤ◌ (whole_is r w a.0.0 a.0.1) h
    go false h = h ∙ sym (+ℤ_idl (held_weight (strings rs) ws q))

-- Reports for strings of n bits, made with the weights ws.
module _ (e : Expander) (n : ℕ) (rs : List (Report ℕ)) (made : All (Made (λ x. x < modulus) n) rs) (ws : List ℤ) (weighing : Weighing rs ws) where
  -- At a non-empty prefix of at most n bits the total is what the holders' weights add to, as a group number,
  pub weighted_whole : (q : Bits) → 0 < length q → length q ≤ n → reports_total (scheme e) q rs ≡ embed modulus (held_weight (strings rs) ws q)
  unfolding field_scheme
  weighted_whole q some fits =
      total_whole (scheme e) (scheme_lawful e) ◌+ℤ◌ (pos 0) (embed modulus) (embed_embeds modulus (omega arith)) whole n q some fits rs made (each_whole rs ws weighing)
      ∙ ap (embed modulus) (holders_held q rs ws weighing)

  -- and of at most 65,535 reports the total, read as a signed number, is what they add to.
  pub weighted_signed : length rs ≤ 65535 → (q : Bits) → 0 < length q → length q ≤ n → signed_in modulus (reports_total (scheme e) q rs) ≡ held_weight (strings rs) ws q
  weighted_signed few q some fits =
      let z = held_weight (strings rs) ws q in
      let most : nat_abs z ≤ 2147450880 = omega (arith, few, strings_length rs, held_most (strings rs) ws q (each_weight rs ws weighing)) in
      ap (signed_in modulus) (weighted_whole q some fits) ∙ reads_back modulus z (weights_near z most)
