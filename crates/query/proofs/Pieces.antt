-- Packed strings one after the other, with a number each: what is written of those that are kept, and how a loop over them goes on.
use Prim.Native.Nat.{ℕ, zero, suc, ◌+◌, ◌-◌, ◌*◌, ◌≤◌, ◌<◌, min}
use native.Mathlib.Omega.{arith}
use mathlib.Core.Path.{◌≡◌, refl, sym, ap, ◌∙◌}
use mathlib.Core.Bool.{Bool, true, false}
use mathlib.Core.List.{List, [], ◌∷◌, ◌++◌, map, append_assoc}
use mathlib.Core.Logic.{◌⊎◌, ⊎_elim}
use denote.Ref.{Bor}
use Rattle.std.specs.Prelude.{Option, None, Some, MatchOption}
use Rattle.std.specs.Option.{unwrap_or}
use Rattle.std.specs.List.{slice_range}
use borrow.Author.Tests.{le-leb, lt-leb, leb-true, leb-false}
use lib.ListN.{length, take, drop, length-append, length-drop, length-map}
use lib.Seq.{length-take-le}
use lib.Dec.{leb}
use Rattle.numbers.specs.Numbers.{big, from_little}
use Rattle.places.specs.Places.{window, put_at}
use Rattle.numbers.proofs.Endian.{big_length}
use Rattle.places.proofs.Places.{window_inside, put_at_nil, put_at_outside, put_at_length, put_at_more, Grown, grown_room, grown_more}
use Rattle.bits.specs.Strings.{Bits, ◌▹◌}
use Rattle.bits.specs.Packing.{packed_length, pack, unpack}
use Rattle.query.specs.Query.{packs, query, parts}
use Rattle.query.specs.Prefix.{part}
use Rattle.query.specs.Written.{fitting, both_children}
use Rattle.query.proofs.Queries.{parts_length}
use Rattle.query.proofs.Parts.{peel, parts_step}
use Rattle.bits.proofs.Longer.{child_length_lem}

-- ---- one part

module _ (w from : ℕ) (d : List ℕ) where
  pub part_outside : length d < from + w → part w from d ≡ []
  unfolding part
  part_outside h = rw (lt-leb (from + w) (length d) h)

  module _ (room : from + w ≤ length d) where
    pub part_inside : part w from d ≡ take w (drop from d)
    unfolding part
    part_inside = rw (le-leb (from + w) (length d) room)

    pub part_length : length (take w (drop from d)) ≡ w
    part_length = let h : w ≤ length (drop from d) = rw (length-drop from d) (omega arith) in length-take-le w (drop from d) h

    pub part_size : length (part w from d) ≡ w
    part_size = rw part_inside part_length

  -- what was asked for between the two places, of which the second stays at the greatest number where it would pass it
  pub part_got : (end most : ℕ) → end ≡ min (from + w) most → length d < most → (r : Option (Bor (List ℕ)))
      → MatchOption r ((end < from) ⊎ (length d < end)) (λ x. (from ≤ end) × (end ≤ length d) × (x.now ≡ slice_range d from end) × (length x.now + from ≡ end))
      → (s none : Bor (List ℕ)) → s ≡ unwrap_or r none → none.now ≡ [] → from ≤ most → s.now ≡ part w from d
  part_got end most f g None m s none o e k = ap (λ s. s.now) o ∙ e ∙ sym (part_outside (⊎_elim (λ l. absurd (omega arith)) (λ l. omega arith) m))
  part_got end most f g (Some x) m s none o e k =
      let b : end - from ≡ w = omega (arith, m.1) in
      ap (λ s. s.now) o ∙ m.2 ∙ rw b (sym (part_inside (omega (arith, m.1))))

-- the next of m parts lies within, and so do those after it
pub next_room : (m w from most : ℕ) → 0 < m → from + m * w ≤ most → (from + w ≤ most) × (from + w + (m - 1) * w ≤ most)
next_room m w from most h room = let e = peel m w h in (omega arith, omega arith)

-- ---- what fits

module _ (out : List ℕ) (at : ℕ) (bytes : List ℕ) where
  pub fitting_inside : at + length bytes ≤ length out → fitting out at bytes ≡ bytes
  unfolding fitting
  fitting_inside h = rw (le-leb (at + length bytes) (length out) h)

  pub fitting_outside : length out < at + length bytes → fitting out at bytes ≡ []
  unfolding fitting
  fitting_outside h = rw (lt-leb (at + length bytes) (length out) h)

  -- what does not fit is not written, and the place does not move
  pub not_written : length out < at + length bytes → (out ≡ put_at out at bytes) × (at ≡ at + length (fitting out at bytes))
  not_written h = (sym (put_at_outside out at bytes h), rw (fitting_outside h) (omega arith))

  -- what fits is written, and the place after it is the end
  pub all_written : (end : ℕ) → end ≡ at + length bytes → end ≤ length out → (after : List ℕ) → after ≡ put_at out at bytes
      → (after ≡ put_at out at bytes) × (end ≡ at + length (fitting out at bytes))
  all_written end e h after f = let i : at + length bytes ≤ length out = omega arith in (f, rw (fitting_inside i) e)

-- nothing to write
pub none_written : (out : List ℕ) (at : ℕ) → (out ≡ put_at out at []) × (at ≡ at + length (fitting out at []))
none_written out at = (sym (put_at_nil out at), go (leb (at + 0) (length out)) refl)
  where
    go : (b : Bool) → leb (at + 0) (length out) ≡ b → at ≡ at + length (fitting out at [])
    go true e = rw (fitting_inside out at [] (leb-true (at + 0) (length out) e)) (omega arith)
    go false e = rw (fitting_outside out at [] (leb-false (at + 0) (length out) e)) (omega arith)

-- A loop that has room for the whole goes on after a part that is written where it fits.
pub grown_fitting : (d : List ℕ) (at : ℕ) (out : List ℕ) (here : ℕ) (x left whole : List ℕ) → Grown d at out here (x ++ left) whole
    → at + length whole ≤ length d → (out' : List ℕ) (here' : ℕ) → out' ≡ put_at out here x → here' ≡ here + length (fitting out here x)
    → Grown d at out' here' left whole
grown_fitting d at out here x left whole g room out' here' e f =
    let h : here + length x ≤ length out = grown_room d at out here x left whole g room in
    grown_more d at out here x left whole g room out' here' e (f ∙ rw (fitting_inside out here x h))

-- what is written into has its length still
pub grown_length : (d : List ℕ) (at : ℕ) (out : List ℕ) (here : ℕ) (left whole : List ℕ) → Grown d at out here left whole → length out ≡ length d
grown_length d at out here left whole g = ap length g.1 ∙ put_at_length d at g.0

-- ---- both children of a prefix, `size` bytes each

module _ (s : Bits) (size : ℕ) (e : size ≡ packed_length (length s + 1)) where
  pub both_length : length (both_children s) ≡ size + size
  both_length = length-append (pack (s ▹ false)) (pack (s ▹ true)) ∙ rw (child_length_lem s false, child_length_lem s true, e)

  -- one child put after the other
  pub both_put : (d : List ℕ) (at : ℕ) → at + size + size ≤ length d → (o₁ o₂ : List ℕ) → o₁ ≡ put_at d at (pack (s ▹ false))
      → o₂ ≡ put_at o₁ (at + size) (pack (s ▹ true)) → o₂ ≡ put_at d at (both_children s)
  both_put d at h o₁ o₂ e₁ e₂ =
      let l₀ : length (pack (s ▹ false)) ≡ size = child_length_lem s false ∙ sym e in
      let l₁ : length (pack (s ▹ true)) ≡ size = child_length_lem s true ∙ sym e in
      e₂ ∙ rw (e₁, ← l₀) (put_at_more d at (pack (s ▹ false)) (pack (s ▹ true)) (omega arith))

-- ---- strings and numbers from a place on

-- m strings of k bits each, packed
abbrev pub strings_at : ℕ → ℕ → ℕ → List ℕ → List Bits
strings_at k m at bytes = map (unpack k) (parts (packed_length k) m (drop at bytes))

pub strings_length : (k m from : ℕ) (d : List ℕ) → length (strings_at k m from d) ≡ m
strings_length k m from d = length-map (parts (packed_length k) m (drop from d)) (unpack k) ∙ parts_length (packed_length k) m (drop from d)

pub strings_none : (k m from : ℕ) (d : List ℕ) → m ≤ 0 → strings_at k m from d ≡ []
unfolding parts
strings_none k zero from d h = refl
strings_none k (suc m) from d h = absurd (omega arith)

pub strings_step : (k w : ℕ) → w ≡ packed_length k → (d : List ℕ) (m from : ℕ) → 0 < m
    → strings_at k m from d ≡ unpack k (take w (drop from d)) ∷ strings_at k (m - 1) (from + w) d
strings_step k w e d m from h = rw (e, parts_step (packed_length k) m from d h)

-- m numbers of 8 bytes each
abbrev pub numbers_at : ℕ → ℕ → List ℕ → List ℕ
numbers_at m at bytes = map from_little (parts 8 m (drop at bytes))

pub numbers_length : (m place : ℕ) (d : List ℕ) → length (numbers_at m place d) ≡ m
numbers_length m place d = length-map (parts 8 m (drop place d)) from_little ∙ parts_length 8 m (drop place d)

pub numbers_step : (m place : ℕ) (d : List ℕ) → 0 < m → place + 8 ≤ length d
    → numbers_at m place d ≡ from_little (window 8 place d) ∷ numbers_at (m - 1) (place + 8) d
numbers_step m place d h room = rw (parts_step 8 m place d h, window_inside 8 place d room)

-- ---- the kept strings

-- ---- a query: its fields, and after them its prefixes

-- the 6 bytes that begin a query for `count` prefixes of k + 1 bits
abbrev pub fields : ℕ → ℕ → List ℕ
fields k count = big 2 k ++ big 4 count

pub fields_length : (k count : ℕ) → length (fields k count) ≡ 6
fields_length k count = length-append (big 2 k) (big 4 count) ∙ rw (big_length 2 k, big_length 4 count)

pub query_fields : (k : ℕ) (qs : List Bits) → query k qs ≡ fields k (length qs) ++ packs qs
unfolding query
query_fields k qs = sym (append_assoc (big 2 k) (big 4 (length qs)) (packs qs))

pub query_size : (k : ℕ) (qs : List Bits) → length (query k qs) ≡ 6 + length (packs qs)
query_size k qs = ap length (query_fields k qs) ∙ length-append (fields k (length qs)) (packs qs) ∙ rw (fields_length k (length qs))

-- the fields put, and the prefixes after them, are the query put
pub query_put : (k count : ℕ) (qs : List Bits) → count ≡ length qs → (d : List ℕ) (at : ℕ) → at + length (query k qs) ≤ length d
    → (o₁ o₂ : List ℕ) → o₁ ≡ put_at d at (fields k count) → o₂ ≡ put_at o₁ (at + 6) (packs qs) → o₂ ≡ put_at d at (query k qs)
query_put k count qs c d at room o₁ o₂ e₁ e₂ =
    let l : length (fields k count) ≡ 6 = fields_length k count in
    let p : query k qs ≡ fields k count ++ packs qs = query_fields k qs ∙ rw c in
    e₂ ∙ rw (e₁, p, ← l) (put_at_more d at (fields k count) (packs qs) (omega (arith, query_size k qs)))
