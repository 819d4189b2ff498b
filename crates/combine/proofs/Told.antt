-- What `combine` returns where no cause of what is lent applies, in the numbers that the code has.
use Prim.Native.Nat.{ℕ, suc, ◌+◌, ◌*◌, ◌≤◌, ◌<◌}
use native.Mathlib.Omega.{arith}
use mathlib.Core.Path.{◌≡◌, refl, sym, ◌∙◌}
use mathlib.Core.Bool.{Bool, true, false, ◌||◌}
use mathlib.Core.List.{List}
use borrow.Author.Tests.{lt-ltb, le-ltb}
use Rattle.std.specs.Prelude.{Ok, Err}
use lib.ListN.{length, get_or}
use lib.Dec.{ltb}
use Rattle.places.specs.Lists.{how_many}
use Rattle.bits.specs.Strings.{Bits}
use Rattle.bits.specs.Packing.{packed_length}
use Rattle.places.specs.Places.{put_at}
use Rattle.places.proofs.Places.{put_at_overlay, overlay_nil}
use Rattle.calls.specs.declared.Refusal.TheVariants.{NoSpace}
use Rattle.calls.proofs.Decisions.{neither_test}
use Rattle.kept.specs.Kept.{reaches_as}
use Rattle.query.specs.Query.{packs, query, limit, prefix_length, children}
use Rattle.query.proofs.Pieces.{fields, query_put}
use Rattle.combine.specs.declared.Combined.TheVariants.{Next, List as Found, Ended}
use Rattle.combine.specs.Answer.{next, list, ended}
use Rattle.combine.specs.Combine.{share_totals, kept_prefixes}
use Rattle.combine.proofs.Ready.{Ready, kept_count, list_size_lem, next_count, next_size_lem, children_size}
use Rattle.combine.proofs.Outcome.{Told, told_large, told_answer, answer_list, answer_ended, answer_next}

or_right : (a b : Bool) → b ≡ true → (a || b) ≡ true
or_right true b h = refl
or_right false b h = h

-- m are kept; len is the prefix length, w the bytes of a prefix
module _ (n : ℕ) (weighted : Bool) (t : ℕ) (q s0 s1 d : List ℕ) (byte : (i : ℕ) → get_or q i 0 < 256) (r : Ready n weighted t q s0 s1)
    (m : ℕ) (em : m ≡ how_many (reaches_as weighted t) (share_totals s0 s1)) (len : ℕ) (el : len ≡ prefix_length q) where
  abbrev ks : List Bits
  ks = kept_prefixes weighted t q s0 s1

  kept_m : length ks ≡ m
  kept_m = kept_count n weighted t q s0 s1 byte r (reaches_as weighted t) m em

  -- ---- at length n

  module _ (e : len ≡ n) (w : ℕ) (ew : w ≡ packed_length len) where
    pub list_bytes_lem : length (packs ks) ≡ m * w
    list_bytes_lem = list_size_lem n weighted t q s0 s1 byte r (reaches_as weighted t) m em ∙ rw (ew, el)

    pub list_short : length d < m * w → Told n weighted t q s0 s1 d (Err NoSpace) d
    list_short h =
        told_large n weighted t q s0 s1 d r.clear (list ks) (answer_list n weighted t q s0 s1 (sym el ∙ e))
        (rw (lt-ltb (length d) (length (packs ks)) (omega (arith, list_bytes_lem))))

    pub list_told : m * w ≤ length d → (out : List ℕ) → out ≡ put_at d 0 (packs ks) → Told n weighted t q s0 s1 d (Ok (Found (m * w))) out
    list_told h out p =
        let f : length (packs ks) ≤ length d = omega (arith, list_bytes_lem) in
        told_answer n weighted t q s0 s1 d r.clear (list ks) (answer_list n weighted t q s0 s1 (sym el ∙ e)) (neither_test (le-ltb (length d) (length (packs ks)) f) refl)
        (Ok (Found (m * w))) out refl refl (sym list_bytes_lem) (p ∙ put_at_overlay d (packs ks) f)

  -- ---- before length n

  module _ (e : len ≡ n → ⊥) where
    not_end : prefix_length q ≡ n → ⊥
    not_end h = e (el ∙ h)

    pub ended_told : m < 1 → Told n weighted t q s0 s1 d (Ok Ended) d
    ended_told h =
        told_answer n weighted t q s0 s1 d r.clear ended (answer_ended n weighted t q s0 s1 not_end (omega (arith, kept_m)))
        (neither_test (le-ltb (length d) 0 (omega arith)) refl) (Ok Ended) d refl refl refl (sym (overlay_nil d))

    module _ (some : 1 ≤ m) where
      abbrev qs : List Bits
      qs = children ks

      pub too_many : 65535 < m → Told n weighted t q s0 s1 d (Err NoSpace) d
      too_many h =
          told_large n weighted t q s0 s1 d r.clear (next qs) (answer_next n weighted t q s0 s1 not_end (omega (arith, kept_m)))
          (or_right (ltb (length d) (length (query (prefix_length q) qs))) (ltb limit (length qs)) (lt-ltb limit (length qs) (omega (arith, next_count n weighted t q s0 s1 byte r (reaches_as weighted t) m em))))

      module _ (w : ℕ) (ew : w ≡ packed_length (suc len)) where
        next_bytes : length (query (prefix_length q) qs) ≡ 6 + 2 * m * w
        next_bytes = next_size_lem n weighted t q s0 s1 byte r (reaches_as weighted t) m em ∙ rw (ew, el)

        pub next_short : length d < 6 + 2 * m * w → Told n weighted t q s0 s1 d (Err NoSpace) d
        next_short h =
            told_large n weighted t q s0 s1 d r.clear (next qs) (answer_next n weighted t q s0 s1 not_end (omega (arith, kept_m)))
            (rw (lt-ltb (length d) (length (query (prefix_length q) qs)) (omega (arith, next_bytes))))

        pub children_bytes : length (packs qs) ≡ 2 * m * w
        children_bytes = children_size n weighted t q s0 s1 byte r (reaches_as weighted t) m em ∙ rw (ew, el)

        -- the two fields and then the children make the next query
        next_put : 6 + 2 * m * w ≤ length d → (o₁ out : List ℕ) → o₁ ≡ put_at d 0 (fields len (2 * m)) → out ≡ put_at o₁ 6 (packs qs)
            → out ≡ put_at d 0 (query (prefix_length q) qs)
        next_put h o₁ out p₁ p₂ =
            query_put (prefix_length q) (2 * m) qs (sym (next_count n weighted t q s0 s1 byte r (reaches_as weighted t) m em)) d 0 (omega (arith, next_bytes)) o₁ out (rw el at p₁) p₂

        pub next_told : m ≤ 65535 → 6 + 2 * m * w ≤ length d → (o₁ out : List ℕ) → o₁ ≡ put_at d 0 (fields len (2 * m)) → out ≡ put_at o₁ 6 (packs qs)
            → Told n weighted t q s0 s1 d (Ok (Next (6 + 2 * m * w))) out
        next_told few h o₁ out p₁ p₂ =
            let f : length (query (prefix_length q) qs) ≤ length d = omega (arith, next_bytes) in
            let within : length qs ≤ limit = omega (arith, next_count n weighted t q s0 s1 byte r (reaches_as weighted t) m em) in
            told_answer n weighted t q s0 s1 d r.clear (next qs) (answer_next n weighted t q s0 s1 not_end (omega (arith, kept_m)))
            (neither_test (le-ltb (length d) (length (query (prefix_length q) qs)) f) (le-ltb limit (length qs) within))
            (Ok (Next (6 + 2 * m * w))) out refl refl (sym next_bytes) (next_put h o₁ out p₁ p₂ ∙ put_at_overlay d (query (prefix_length q) qs) f)
