-- The sums of what is made in turns: after s turns, over those reports whose node at a prefix is done.
use Prim.Native.Nat.{ℕ, suc, ◌+◌, ◌*◌, ◌/◌, ◌%◌, ◌^◌, ◌<◌}
use native.Mathlib.Omega.{arith}
use native.Mathlib.Decide.{ℕ_discrete}
use native.Mathlib.Nat.{mod-lt, div-add-mod'}
use mathlib.Core.Path.{◌≡◌, refl, sym, ap, ◌∙◌}
use mathlib.Core.Bool.{true, false}
use mathlib.Core.List.{List, ◌++◌}
use lib.ListN.{length, get_or, set, replicate, length-set, length-replicate, get_or-replicate}
use lib.Seq.{get_or-set_same, get_or-set_other}
use Rattle.numbers.specs.Numbers.{in_bytes}
use Rattle.group.specs.Group.{Group, CommutativeGroup}
use Rattle.group.specs.Modular.{modulus, field}
use Rattle.group.proofs.Modular.{field_laws}
use Rattle.report_sums.specs.Reports.{all_count, sum_where}
use Rattle.turns.specs.Turns.{added_at}
use Rattle.in_place.proofs.AnyOrder.{sum_agree, sum_none, sum_in, sum_one_more}
use Rattle.in_place.proofs.InTurns.{target_of, target_below, due_of, done, none_done, all_done, other_done, not_due_done, due_before, due_after}
use Rattle.in_place.proofs.Sources.{report_of, prefix_of, report_below, place_inside}
use Rattle.in_place.proofs.Added.{added_number}

-- r reports of m prefixes each, and the value of each report at each prefix
module _ {A : Type 0} (G : Group A) {In : A → Type 0} (L : CommutativeGroup A G In) (r m : ℕ) (S : ℕ → ℕ) (h : ℕ → ℕ → A) where
  -- the sum at prefix j after s turns
  abbrev pub sum_after : ℕ → ℕ → A
  sum_after s j = sum_where G (λ i. done (r * m) S s (i * m + j)) r (λ i. h i j)

  pub sum_first : (j : ℕ) → j < m → sum_after 0 j ≡ G.zero
  sum_first j l =
      sum_none G (λ i. done (r * m) S 0 (i * m + j)) r (λ i. h i j) (λ i k. none_done (r * m) S (i * m + j) (place_inside i j m r k l))

  pub sum_last : (s j : ℕ) → s ≡ r * m + r * m → j < m → sum_after s j ≡ sum_where G all_count r (λ i. h i j)
  sum_last s j e l =
      sum_agree G (λ i. done (r * m) S s (i * m + j)) all_count r (λ i. h i j) (λ i k. all_done (r * m) S s (i * m + j) e (place_inside i j m r k l))

  module _ (s : ℕ) (inside : s < r * m + r * m) where
    -- a turn that is not due changes no sum
    pub sum_not : due_of (r * m) S s ≡ false → (j : ℕ) → j < m → sum_after (suc s) j ≡ sum_after s j
    sum_not e j l =
        sum_agree G (λ i. done (r * m) S (suc s) (i * m + j)) (λ i. done (r * m) S s (i * m + j)) r (λ i. h i j)
        (λ i k. not_due_done (r * m) S s (i * m + j) inside (place_inside i j m r k l) e)

    -- one that is due changes none but that of its prefix
    pub sum_other : (j : ℕ) → j < m → (j ≡ target_of (r * m) s % m → ⊥) → sum_after (suc s) j ≡ sum_after s j
    sum_other j l other =
        sum_agree G (λ i. done (r * m) S (suc s) (i * m + j)) (λ i. done (r * m) S s (i * m + j)) r (λ i. h i j)
        (λ i k. other_done (r * m) S s (i * m + j) inside (place_inside i j m r k l) (λ z. other (sym (prefix_of i j m l) ∙ ap (λ (x : ℕ). x % m) z)))

    -- and adds its value to that
    pub sum_due : 0 < m → due_of (r * m) S s ≡ true
        → sum_after (suc s) (target_of (r * m) s % m) ≡ G.add (sum_after s (target_of (r * m) s % m)) (h (target_of (r * m) s / m) (target_of (r * m) s % m))
    sum_due some e =
        let x : ℕ = target_of (r * m) s in
        let j : ℕ = target_of (r * m) s % m in
        let l : j < m = mod-lt x some in
        let whole : x / m * m + x % m ≡ x = div-add-mod' x m in
        sum_one_more G L (λ i. done (r * m) S s (i * m + j)) (λ i. done (r * m) S (suc s) (i * m + j)) (x / m) (λ i. h i j)
        (ap (done (r * m) S s) whole ∙ due_before (r * m) S s inside e)
        (ap (done (r * m) S (suc s)) whole ∙ due_after (r * m) S s inside e)
        r (report_below x m r some (target_below (r * m) s inside))
        (λ i k other. sym (other_done (r * m) S s (i * m + j) inside (place_inside i j m r k l)
        (λ z. other (sym (report_of i j m l) ∙ ap (λ (y : ℕ). y / m) z))))

-- ---- in bytes

module _ (r m : ℕ) (S : ℕ → ℕ) (h : ℕ → ℕ → ℕ) (rest : List ℕ) where
  -- the bytes after s turns: the sums, and the bytes that follow
  pub record SumsStand (s : ℕ) (o : List ℕ) : Type 0 where
    pub numbers : List ℕ
    pub parts : o ≡ in_bytes numbers ++ rest
    pub size : length numbers ≡ m
    pub value : (j : ℕ) → j < m → get_or numbers j 0 ≡ sum_after field field_laws r m S h s j

  pub sums_first : SumsStand 0 (in_bytes (replicate m 0) ++ rest)
  sums_first = record {
    numbers = replicate m 0;
    parts = refl;
    size = length-replicate m 0;
    value = λ j l. get_or-replicate m j 0 0 l ∙ sym (sum_first field field_laws r m S h j l);
  }

  module _ (s : ℕ) (inside : s < r * m + r * m) (o : List ℕ) (g : SumsStand s o) where
    pub sums_not : due_of (r * m) S s ≡ false → SumsStand (suc s) o
    sums_not e = record {
      numbers = g.numbers;
      parts = g.parts;
      size = g.size;
      value = λ j l. g.value j l ∙ sym (sum_not field field_laws r m S h s inside e j l);
    }

    pub sums_due : 0 < m → due_of (r * m) S s ≡ true → (v : ℕ) → v ≡ h (target_of (r * m) s / m) (target_of (r * m) s % m)
        → SumsStand (suc s) (added_at (target_of (r * m) s % m) v o)
    sums_due some e v is =
        let j₀ : ℕ = target_of (r * m) s % m in
        let l₀ : j₀ < m = mod-lt (target_of (r * m) s) some in
        let old : ℕ = get_or g.numbers j₀ 0 in
        let new : ℕ = field.add old v in
        let k : j₀ < length g.numbers = rw g.size l₀ in
        let small : old < 256 ^ 8 = rw (g.value j₀ l₀) (bound (sum_in field field_laws (λ i. done (r * m) S s (i * m + j₀)) r (λ i. h i j₀))) in
        record {
          numbers = set g.numbers j₀ new;
          parts = ap (added_at j₀ v) g.parts ∙ added_number rest g.numbers j₀ k v small;
          size = length-set g.numbers j₀ new ∙ g.size;
          value = λ j l. elim (ℕ_discrete j j₀) [
            | yes q ↦
                ap (λ (y : ℕ). get_or (set g.numbers j₀ new) y 0) q ∙ get_or-set_same g.numbers j₀ new 0 k
                ∙ ap (λ (y : ℕ). field.add y v) (g.value j₀ l₀) ∙ ap (field.add (sum_after field field_laws r m S h s j₀)) is
                ∙ sym (sum_due field field_laws r m S h s inside some e) ∙ ap (sum_after field field_laws r m S h (suc s)) (sym q)
            | no q ↦ get_or-set_other g.numbers j₀ j new 0 q ∙ g.value j l ∙ sym (sum_other field field_laws r m S h s inside j l q)
          ];
        }
      where
        bound : {x : ℕ} → x < modulus → x < 256 ^ 8
        bound b = omega arith
