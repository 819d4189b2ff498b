-- A list whose first N places are renewed from older places in 2N turns: upwards those that are read from further up, then downwards the others.
use Prim.Native.Nat.{ℕ, suc, ◌+◌, ◌-◌, ◌≤◌, ◌<◌}
use native.Mathlib.Omega.{arith}
use native.Mathlib.Decide.{dec_lt, ℕ_discrete}
use mathlib.Core.Path.{◌≡◌, refl, sym, ap, ◌∙◌}
use mathlib.Core.Bool.{Bool, true, false, cond, true≢false, beq}
use mathlib.Core.List.{List}
use borrow.Author.Tests.{ltb-true, ltb-false, lt-ltb, le-ltb, le-leb, lt-leb}
use lib.ListN.{length, get_or, set, length-set}
use lib.Seq.{get_or-set_same, get_or-set_other}
use lib.Dec.{ltb, leb}

module _ (N : ℕ) where
  -- the place that turn s writes
  abbrev pub target_of : ℕ → ℕ
  target_of s = cond (ltb s N) s (N + N - suc s)

  pub target_up : (s : ℕ) → s < N → target_of s ≡ s
  target_up s h = rw (lt-ltb s N h)

  pub target_down : (s : ℕ) → N ≤ s → target_of s ≡ N + N - suc s
  target_down s h = rw (le-ltb s N h)

  pub target_below : (s : ℕ) → s < N + N → target_of s < N
  target_below s h = elim (dec_lt s N) [
    | yes a ↦ omega (arith, target_up s a)
    | no a ↦ omega (arith, target_down s (omega arith))
  ]

  module _ (S : ℕ → ℕ) where
    -- whether turn s is due
    abbrev pub due_of : ℕ → Bool
    due_of s = beq (ltb s N) (ltb (target_of s) (S (target_of s)))

    -- whether place x is renewed after s turns
    abbrev pub done : ℕ → ℕ → Bool
    done s x = cond (ltb x (S x)) (ltb x s) (leb (N + N) (s + x))

    pub done_up : (s x : ℕ) → x < S x → done s x ≡ ltb x s
    done_up s x h = rw (lt-ltb x (S x) h)

    pub done_down : (s x : ℕ) → S x ≤ x → done s x ≡ leb (N + N) (s + x)
    done_down s x h = rw (le-ltb x (S x) h)

    -- before the first turn none is
    pub none_done : (x : ℕ) → x < N → done 0 x ≡ false
    none_done x h = elim (dec_lt x (S x)) [
      | yes a ↦ done_up 0 x a ∙ le-ltb x 0 (omega arith)
      | no a ↦ done_down 0 x (omega arith) ∙ lt-leb (N + N) (0 + x) (omega arith)
    ]

    -- after the last turn all are
    pub all_done : (s x : ℕ) → s ≡ N + N → x < N → done s x ≡ true
    all_done s x e h = elim (dec_lt x (S x)) [
      | yes a ↦ done_up s x a ∙ lt-ltb x s (omega arith)
      | no a ↦ done_down s x (omega arith) ∙ le-leb (N + N) (s + x) (omega arith)
    ]

    -- a turn leaves the places alone that it does not write
    pub other_done : (s x : ℕ) → s < N + N → x < N → (x ≡ target_of s → ⊥) → done (suc s) x ≡ done s x
    other_done s x l h other = elim (dec_lt x (S x)) [
      | yes a ↦ done_up (suc s) x a ∙ up a ∙ sym (done_up s x a)
      | no a ↦ done_down (suc s) x (omega arith) ∙ down (omega arith) ∙ sym (done_down s x (omega arith))
    ]
      where
        up : x < S x → ltb x (suc s) ≡ ltb x s
        up a = elim (dec_lt x s) [
          | yes b ↦ lt-ltb x (suc s) (omega arith) ∙ sym (lt-ltb x s b)
          | no b ↦ elim (dec_lt s N) [
            | yes c ↦
                let q : x ≡ s → ⊥ = λ z. other (z ∙ sym (target_up s c)) in
                le-ltb x (suc s) (omega arith) ∙ sym (le-ltb x s (omega arith))
            | no c ↦ absurd (omega arith)
          ]
        ]

        down : S x ≤ x → leb (N + N) (suc s + x) ≡ leb (N + N) (s + x)
        down a = elim (dec_lt (s + x) (N + N)) [
          | yes b ↦ elim (dec_lt s N) [
            | yes c ↦ lt-leb (N + N) (suc s + x) (omega arith) ∙ sym (lt-leb (N + N) (s + x) (omega arith))
            | no c ↦
                let t : target_of s ≡ N + N - suc s = target_down s (omega arith) in
                let q : x ≡ N + N - suc s → ⊥ = λ z. other (z ∙ sym t) in
                lt-leb (N + N) (suc s + x) (omega arith) ∙ sym (lt-leb (N + N) (s + x) (omega arith))
          ]
          | no b ↦ le-leb (N + N) (suc s + x) (omega arith) ∙ sym (le-leb (N + N) (s + x) (omega arith))
        ]

    -- what a turn that is due says of its place
    pub data Due (s : ℕ) : Type 0 where
      upwards : s < N → target_of s ≡ s → s < S s → Due s
      downwards : N ≤ s → target_of s ≡ N + N - suc s → S (N + N - suc s) ≤ N + N - suc s → Due s

    pub due_is : (s : ℕ) → due_of s ≡ true → Due s
    due_is s e = elim (dec_lt s N) [
      | yes a ↦ upwards a (target_up s a) (ltb-true s (S s) (up a))
      | no a ↦ downwards (omega arith) (target_down s (omega arith)) (ltb-false (N + N - suc s) (S (N + N - suc s)) (down (omega arith)))
    ]
      where
        same : (b : Bool) → beq true b ≡ true → b ≡ true
        same true q = refl
        same false q = q

        other : (b : Bool) → beq false b ≡ true → b ≡ false
        other true q = sym q
        other false q = refl

        up : s < N → ltb s (S s) ≡ true
        up a = same (ltb s (S s)) (rw (lt-ltb s N a) at e)

        down : N ≤ s → ltb (N + N - suc s) (S (N + N - suc s)) ≡ false
        down a = other (ltb (N + N - suc s) (S (N + N - suc s))) (rw (le-ltb s N a) at e)

    pub not_due_up : (s : ℕ) → due_of s ≡ false → s < N → S s ≤ s
    not_due_up s e a = ltb-false s (S s) (go (ltb s (S s)) (rw (lt-ltb s N a) at e))
      where
        go : (b : Bool) → beq true b ≡ false → b ≡ false
        go true q = q
        go false q = refl

    pub not_due_down : (s : ℕ) → due_of s ≡ false → N ≤ s → N + N - suc s < S (N + N - suc s)
    not_due_down s e a = ltb-true (N + N - suc s) (S (N + N - suc s)) (go (ltb (N + N - suc s) (S (N + N - suc s))) (rw (le-ltb s N a) at e))
      where
        go : (b : Bool) → beq false b ≡ false → b ≡ true
        go true q = refl
        go false q = sym q

    -- a turn that is due renews its place
    pub due_before : (s : ℕ) → s < N + N → due_of s ≡ true → done s (target_of s) ≡ false
    due_before s l e = go (due_is s e)
      where
        go : Due s → done s (target_of s) ≡ false
        go (upwards a t b) = ap (done s) t ∙ done_up s s b ∙ le-ltb s s (omega arith)
        go (downwards a t b) = ap (done s) t ∙ done_down s (N + N - suc s) b ∙ lt-leb (N + N) (s + (N + N - suc s)) (omega arith)

    pub due_after : (s : ℕ) → s < N + N → due_of s ≡ true → done (suc s) (target_of s) ≡ true
    due_after s l e = go (due_is s e)
      where
        go : Due s → done (suc s) (target_of s) ≡ true
        go (upwards a t b) = ap (done (suc s)) t ∙ done_up (suc s) s b ∙ lt-ltb s (suc s) (omega arith)
        go (downwards a t b) = ap (done (suc s)) t ∙ done_down (suc s) (N + N - suc s) b ∙ le-leb (N + N) (suc s + (N + N - suc s)) (omega arith)

    -- a turn that is not due renews none
    not_due_target : (s : ℕ) → s < N + N → due_of s ≡ false → done (suc s) (target_of s) ≡ done s (target_of s)
    not_due_target s l e = elim (dec_lt s N) [
      | yes a ↦
          let b : S s ≤ s = not_due_up s e a in
          let t : target_of s ≡ s = target_up s a in
          ap (done (suc s)) t ∙ done_down (suc s) s b ∙ lt-leb (N + N) (suc s + s) (omega arith)
          ∙ sym (ap (done s) t ∙ done_down s s b ∙ lt-leb (N + N) (s + s) (omega arith))
      | no a ↦
          let T : ℕ = N + N - suc s in
          let b : T < S T = not_due_down s e (omega arith) in
          let t : target_of s ≡ T = target_down s (omega arith) in
          ap (done (suc s)) t ∙ done_up (suc s) T b ∙ lt-ltb T (suc s) (omega arith)
          ∙ sym (ap (done s) t ∙ done_up s T b ∙ lt-ltb T s (omega arith))
    ]

    pub not_due_done : (s x : ℕ) → s < N + N → x < N → due_of s ≡ false → done (suc s) x ≡ done s x
    not_due_done s x l h e = elim (ℕ_discrete x (target_of s)) [
      | yes q ↦ ap (done (suc s)) q ∙ not_due_target s l e ∙ sym (ap (done s) q)
      | no q ↦ other_done s x l h q
    ]

    -- what a turn that is due reads was not renewed before, where S rises
    module _ (rises : (x y : ℕ) → x ≤ y → y < N → S x ≤ S y) where
      pub source_before : (s : ℕ) → s < N + N → due_of s ≡ true → S (target_of s) < N → done s (S (target_of s)) ≡ false
      source_before s l e h = go (due_is s e)
        where
          go : Due s → done s (S (target_of s)) ≡ false
          go (upwards a t b) =
              let k : S s < N = rw t at h in
              ap (λ (x : ℕ). done s (S x)) t ∙ elim (dec_lt (S s) (S (S s))) [
                | yes c ↦ done_up s (S s) c ∙ le-ltb (S s) s (omega arith)
                | no c ↦ done_down s (S s) (omega arith) ∙ lt-leb (N + N) (s + S s) (omega arith)
              ]
          go (downwards a t b) =
              let T : ℕ = N + N - suc s in
              let c : S (S T) ≤ S T = rises (S T) T b (omega arith) in
              ap (λ (x : ℕ). done s (S x)) t ∙ done_down s (S T) c ∙ lt-leb (N + N) (s + S T) (omega arith)

-- ---- the list

module _ {A : Type 0} (N : ℕ) (S : ℕ → ℕ) (f : ℕ → A → A) (d : A) (old : List A) where
  -- the list after s turns
  pub record Stands (s : ℕ) (l : List A) : Type 0 where
    pub size : length l ≡ length old
    pub renewed : (x : ℕ) → x < N → done N S s x ≡ true → get_or l x d ≡ f x (get_or old (S x) d)
    pub kept : (x : ℕ) → x < N → done N S s x ≡ false → get_or l x d ≡ get_or old x d
    pub spare : (x : ℕ) → N ≤ x → get_or l x d ≡ get_or old x d

  pub stands_first : Stands 0 old
  stands_first = record {
    size = refl;
    renewed = λ x h e. absurd (true≢false (sym e ∙ none_done N S x h));
    kept = λ x h e. refl;
    spare = λ x h. refl;
  }

  module _ (rises : (x y : ℕ) → x ≤ y → y < N → S x ≤ S y) (room : N ≤ length old) (s : ℕ) (inside : s < N + N) (l : List A) (g : Stands s l) where
    -- what a turn that is due reads is old
    pub reads_old : due_of N S s ≡ true → get_or l (S (target_of N s)) d ≡ get_or old (S (target_of N s)) d
    reads_old e = elim (dec_lt (S (target_of N s)) N) [
      | yes h ↦ g.kept (S (target_of N s)) h (source_before N S rises s inside e h)
      | no h ↦ g.spare (S (target_of N s)) (omega arith)
    ]

    -- a turn that is due
    pub stands_due : due_of N S s ≡ true → Stands (suc s) (set l (target_of N s) (f (target_of N s) (get_or l (S (target_of N s)) d)))
    stands_due e =
        let T : ℕ = target_of N s in
        let below : T < N = target_below N s inside in
        let v : A = f T (get_or l (S T) d) in
        let z = g.size in
        record {
          size = length-set l T v ∙ g.size;
          renewed = λ x h q. elim (ℕ_discrete x T) [
            | yes w ↦
                ap (λ (y : ℕ). get_or (set l T v) y d) w ∙ get_or-set_same l T v d (omega arith) ∙ ap (f T) (reads_old e)
                ∙ ap (λ (y : ℕ). f y (get_or old (S y) d)) (sym w)
            | no w ↦ get_or-set_other l T x v d w ∙ g.renewed x h (sym (other_done N S s x inside h w) ∙ q)
          ];
          kept = λ x h q. elim (ℕ_discrete x T) [
            | yes w ↦ absurd (true≢false (sym (due_after N S s inside e) ∙ ap (done N S (suc s)) (sym w) ∙ q))
            | no w ↦ get_or-set_other l T x v d w ∙ g.kept x h (sym (other_done N S s x inside h w) ∙ q)
          ];
          spare = λ x h. get_or-set_other l T x v d (λ w. omega arith) ∙ g.spare x h;
        }

    -- one that is not
    pub stands_not : due_of N S s ≡ false → Stands (suc s) l
    stands_not e = record {
      size = g.size;
      renewed = λ x h q. g.renewed x h (sym (not_due_done N S s x inside h e) ∙ q);
      kept = λ x h q. g.kept x h (sym (not_due_done N S s x inside h e) ∙ q);
      spare = g.spare;
    }

  -- after all turns the places below N are renewed
  pub stands_last : (s : ℕ) (l : List A) → s ≡ N + N → Stands s l → (x : ℕ) → x < N → get_or l x d ≡ f x (get_or old (S x) d)
  stands_last s l e g x h = g.renewed x h (all_done N S s x e h)
