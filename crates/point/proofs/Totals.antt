-- Totals over honest reports: both servers' sums add to the sum of the holders' weights.
use mathlib.Core.Path.{◌≡◌, refl, sym, ap₂, ◌∙◌}
use mathlib.Core.Bool.{Bool, true, false, cond}
use mathlib.Core.List.{List, [], ◌∷◌}
use Prim.Native.Nat.{ℕ, ◌≤◌, ◌<◌}
use native.Mathlib.Omega.{arith}
use lib.ListN.{length}
use Rattle.places.specs.Lists.{All, select}
use Rattle.bits.specs.Strings.{Bits, is_prefix}
use Rattle.group.specs.Group.{Group}
use Rattle.group.proofs.Laws.{interchange}
use Rattle.point.specs.Scheme.{Scheme, Lawful}
use Rattle.point.specs.Totals.{Report, Made, holders, sum_of, report_correction, report_share, server_total, reports_total}
use Rattle.point.proofs.Prefix.{prefix_correct}

module _ {A : Type 0} (S : Scheme A) {In : A → Type 0} (L : Lawful A S In) where
  open S.group use {add, zero}
  open L.laws use {comm, unit, in_add, in_zero}

  sum_in : {X : Type 0} (f : X → A) (xs : List X) → In (sum_of add zero f xs)
  unfolding sum_of
  sum_in f [] = in_zero
  sum_in f (x ∷ xs) = in_add _ _

  -- one element more, where it passes
  sum_pick : {X : Type 0} (f : X → A) (b : Bool) (x : X) (xs : List X) →
      add (cond b (f x) zero) (sum_of add zero f xs) ≡ sum_of add zero f (cond b (x ∷ xs) xs)
  unfolding sum_of
  sum_pick f true x xs = refl
  sum_pick f false x xs = comm zero _ ∙ unit _ (sum_in f xs)

  -- A non-empty prefix of at most n bits.
  module _ (n : ℕ) (q : Bits) (some : 0 < length q) (fits : length q ≤ n) where
    pub report_correct : (r : Report A) → Made In n r →
        add (report_share S false q r) (report_share S true q r) ≡ cond (is_prefix q r.string) r.weight zero
    unfolding report_share report_correction
    report_correct r h = prefix_correct S L r.weight h.in_group r.seed0 r.seed1 h.sized0 h.sized1 r.string q some (omega arith)

    pub total_correct : (rs : List (Report A)) → All (Made In n) rs → reports_total S q rs ≡ sum_of add zero (λ r. r.weight) (holders q rs)
    unfolding reports_total server_total sum_of
    total_correct [] a = unit _ in_zero
    total_correct (r ∷ rs) a =
        interchange S.group L.laws _ _ _ _ ∙ ap₂ add (report_correct r a.0) (total_correct rs a.1)
        ∙ sum_pick (λ r. r.weight) (is_prefix q r.string) r (holders q rs)

-- Whole numbers of a kind M, written into the group by e: sums go to sums.
pub record Embeds {A : Type 0} (G : Group A) {M : Type 0} (plus : M → M → M) (nil : M) (e : M → A) : Type 0 where
  pub to_zero : e nil ≡ G.zero
  pub to_add : (x y : M) → e (plus x y) ≡ G.add (e x) (e y)

module _ {A : Type 0} (G : Group A) {M : Type 0} (plus : M → M → M) (nil : M) (e : M → A) (E : Embeds G plus nil e) where
  sum_embeds : {X : Type 0} (f : X → A) (g : X → M) (test : X → Bool) (xs : List X) → All (λ x. f x ≡ e (g x)) xs →
      sum_of G.add G.zero f (select test xs) ≡ e (sum_of plus nil g (select test xs))
  unfolding sum_of
  sum_embeds f g test [] a = sym E.to_zero
  sum_embeds f g test (x ∷ xs) a = go (test x) (sum_embeds f g test xs a.1)
    where
      go : (b : Bool) → sum_of G.add G.zero f (select test xs) ≡ e (sum_of plus nil g (select test xs)) →
          sum_of G.add G.zero f (cond b (x ∷ select test xs) (select test xs)) ≡ e (sum_of plus nil g (cond b (x ∷ select test xs) (select test xs)))
      go true ih = ap₂ G.add a.0 ih ∙ sym (E.to_add _ _)
      go false ih = ih

-- Where the weights are whole numbers, the total is what the holders' add to, written into the group.
module _ {A : Type 0} (S : Scheme A) {In : A → Type 0} (L : Lawful A S In) {M : Type 0} (plus : M → M → M) (nil : M) (e : M → A)
    (E : Embeds S.group plus nil e) (whole : Report A → M) (n : ℕ) (q : Bits) (some : 0 < length q) (fits : length q ≤ n)
    (rs : List (Report A)) (made : All (Made In n) rs) (weights : All (λ r. r.weight ≡ e (whole r)) rs) where
  pub total_whole : reports_total S q rs ≡ e (sum_of plus nil whole (holders q rs))
  total_whole =
      total_correct S L n q some fits rs made
      ∙ sum_embeds S.group plus nil e E (λ r. r.weight) whole (λ r. is_prefix q r.string) rs weights
