-- The tests of causes 6 and 7, in the form that the code has: the public shares are a slice's chunks.
use mathlib.Core.Path.{◌≡◌, refl, sym, ap, ◌∙◌}
use mathlib.Core.Bool.{Bool, true, false, not, ◌&&◌}
use mathlib.Core.List.{List, [], ◌∷◌, ◌++◌}
use Prim.Native.Nat.{ℕ, zero, suc, ◌+◌, ◌-◌, ◌*◌, ◌/◌, ◌≤◌, ◌<◌, min}
use native.Mathlib.Nat.{div-zero, min-zero, zero-min, suc-min-suc, mul-suc, suc-mul}
use native.Mathlib.Omega.{arith}
use lib.ListN.{length, take, drop, length-append, length-drop}
use lib.Seq.{take_at, drop_at, drop-drop}
use Rattle.std.specs.Iterator.{AlwaysYields}
use Rattle.std.specs.Iterator.Adapters.{take_source, take_count, take_steps}
use Rattle.std.specs.List.{list_all}
use Rattle.std.specs.Slice.Iter.{chunks_exact_rest, chunks_exact_size, chunks_exact_steps}
use Rattle.std.specs.declared.slice.ChunksExact.{ChunksExact}
use Rattle.std.specs.declared.iter.Take.{Take}
use Rattle.std.proofs.lemmas.Iterator.{YieldsList, YieldsList-from_take}
use Rattle.point.specs.PublicShare.{public_share_length, every}
use Rattle.report_sums.specs.Reports.{public_share_at}

-- ---- the first m pieces of w bytes, as the chunks are

abbrev pub pieces : ℕ → ℕ → List ℕ → List (List ℕ)
pieces w zero l = []
pieces w (suc m) l = take w l ∷ pieces w m (drop w l)

chunks : (w m : ℕ) (l : List ℕ) (s : ChunksExact ℕ) → chunks_exact_size s ≡ w → chunks_exact_rest s ≡ l → m * w ≤ length l → length l < m * w + w
    → AlwaysYields chunks_exact_steps (λ y. y.now) s (pieces w m l)
chunks w zero l s e f low high = λ x j p. omega (arith, ap length p.1.0, length-append x.now (chunks_exact_rest j), ap length f)
chunks w (suc m) l s e f low high =
    let k = suc-mul m w in (
      (λ j p. omega (arith, p.1.0, ap length f)),
      λ x j p.
          let size : length x.now ≡ w = p.1.1 ∙ e in
          let whole : x.now ++ chunks_exact_rest j ≡ l = sym p.1.0 ∙ f in
          let first : take w l ≡ x.now = rw (← whole) (take_at x.now (chunks_exact_rest j) w size) in
          let others : drop w l ≡ chunks_exact_rest j = rw (← whole) (drop_at x.now (chunks_exact_rest j) w size) in
          let short : length (drop w l) ≡ length l - w = length-drop w l in
          (sym first, chunks w m (drop w l) j (p.0 ∙ e) (sym others) (omega arith) (omega arith)),
    )

-- of as many of them as there are reports
pub chunks_yield : {s : Take (ChunksExact ℕ)} {a : ChunksExact ℕ} (w reports : ℕ) (l : List ℕ) → 0 < w → take_source s ≡ a → take_count s ≡ reports
    → chunks_exact_size a ≡ w → chunks_exact_rest a ≡ l → YieldsList (take_steps chunks_exact_steps) (λ y. y.now) s (take reports (pieces w (length l / w) l))
chunks_yield {s} w reports l some source count e f =
    let g = ap chunks_exact_size source ∙ e in
    let h = ap chunks_exact_rest source ∙ f in
    YieldsList-from_take {steps = chunks_exact_steps {A = ℕ}} reports (record { runs = chunks w (length l / w) l (take_source s) g h (omega arith) (omega arith) }) count

-- ---- a test of them all

take_pieces : (w r m : ℕ) (l : List ℕ) → take r (pieces w m l) ≡ pieces w (min r m) l
take_pieces w zero m l = rw (zero-min m)
take_pieces w (suc r) zero l = rw (min-zero (suc r))
take_pieces w (suc r) (suc m) l = rw (suc-min-suc r m) (ap (λ (s : List (List ℕ)). take w l ∷ s) (take_pieces w r m (drop w l)))

and_true : (a : Bool) → a ≡ (a && true)
and_true true = refl
and_true false = refl

and_assoc : (a b c : Bool) → ((a && b) && c) ≡ (a && (b && c))
and_assoc true b c = refl
and_assoc false b c = refl

every_first : (m : ℕ) (f : ℕ → Bool) → every (suc m) f ≡ (f 0 && every m (λ i. f (suc i)))
unfolding every
every_first zero f = and_true (f 0)
every_first (suc m) f = ap (λ (b : Bool). b && f (suc m)) (every_first m f) ∙ and_assoc (f 0) (every m (λ i. f (suc i))) (f (suc m))

every_same : (m : ℕ) (f g : ℕ → Bool) → ((i : ℕ) → f i ≡ g i) → every m f ≡ every m g
every_same m f g e = ap (every m) (λ j i. e i j)

pieces_pass : (test : List ℕ → Bool) (w m : ℕ) (l : List ℕ) → list_all test (pieces w m l) ≡ every m (λ i. test (take w (drop (w * i) l)))
unfolding every
pieces_pass test w zero l = refl
pieces_pass test w (suc m) l =
    let here : w * 0 ≡ 0 = omega arith in
    ap (λ (b : Bool). test (take w l) && b) (pieces_pass test w m (drop w l)
    ∙ every_same m (λ i. test (take w (drop (w * i) (drop w l)))) (λ i. test (take w (drop (w * suc i) l)))
    (λ i. let e : w + w * i ≡ w * suc i = omega (arith, mul-suc w i) in ap (λ (s : List ℕ). test (take w s)) (drop-drop (w * i) w l ∙ ap (λ (k : ℕ). drop k l) e)))
    ∙ ap (λ (k : ℕ). test (take w (drop k l)) && every m (λ i. test (take w (drop (w * suc i) l)))) (sym here)
    ∙ sym (every_first m (λ i. test (take w (drop (w * i) l))))

-- what fails nowhere passes
not_failed : (b : Bool) → b ≡ not (not b)
not_failed true = refl
not_failed false = refl

module _ (n reports : ℕ) (shares : List ℕ) (test : List ℕ → Bool) {size : ℕ} (e : size ≡ public_share_length n) where
  abbrev all_pass : Bool
  all_pass = every (min reports (length shares / public_share_length n)) (λ i. test (public_share_at n shares i))

  pub chunks_pass : list_all test (take reports (pieces size (length shares / size) shares)) ≡ not (not all_pass)
  chunks_pass =
      ap (list_all test) (take_pieces size reports (length shares / size) shares)
      ∙ rw e (pieces_pass test (public_share_length n) (min reports (length shares / public_share_length n)) shares) ∙ not_failed all_pass

  -- a public share of no bytes: there are no reports
  pub none_fails : size ≡ 0 → true ≡ not (not all_pass)
  unfolding every
  none_fails z =
      let none : min reports (length shares / public_share_length n) ≡ 0 =
      rw (← e, z, div-zero (length shares)) (min-zero reports) in
      rw none
