-- What is written of packed strings, one after the other, that are kept: themselves, or both children of each.
use Prim.Native.Nat.{ℕ, ◌+◌, ◌-◌, ◌≤◌, ◌<◌}
use mathlib.Core.Path.{◌≡◌, refl, sym, ◌∙◌}
use mathlib.Core.Bool.{Bool, true, false, cond}
use mathlib.Core.List.{List, [], ◌∷◌, ◌++◌, append_assoc}
use lib.ListN.{length, take, drop}
use Rattle.bits.specs.Strings.{Bits, ◌▹◌}
use Rattle.bits.specs.Packing.{packed_length, pack, unpack}
use Rattle.query.specs.Query.{packs, children}
use Rattle.query.specs.Prefix.{part}
use Rattle.query.specs.Written.{both_children}
use Rattle.query.proofs.Pieces.{part_inside, strings_at, strings_none, strings_step}
use Rattle.kept.specs.Kept.{kept}
use Rattle.kept.proofs.Kept.{kept_first}

packs_first : (b : Bool) (s : Bits) (ss : List Bits) → packs (cond b (s ∷ ss) ss) ≡ cond b (pack s) [] ++ packs ss
unfolding packs
packs_first true s ss = refl
packs_first false s ss = refl

children_first : (b : Bool) (s : Bits) (ss : List Bits) → packs (children (cond b (s ∷ ss) ss)) ≡ cond b (both_children s) [] ++ packs (children ss)
unfolding packs
children_first true s ss = sym (append_assoc (pack (s ▹ false)) (pack (s ▹ true)) (packs (children ss)))
children_first false s ss = refl

-- what is written for kept strings: at the last length themselves, and before it both children of each
abbrev pub onward : Bool → List Bits → List Bits
onward last ss = cond last ss (children ss)

-- the same of one packed string of k bits
abbrev pub onward_bytes : Bool → ℕ → List ℕ → List ℕ
onward_bytes last k packed = cond last packed (both_children (unpack k packed))

-- those of m strings of k bits from a place on that have the numbers xs
module _ (passes : ℕ → Bool) (k : ℕ) (d : List ℕ) where
  abbrev pub kept_at : ℕ → ℕ → List ℕ → List Bits
  kept_at m from xs = kept passes (strings_at k m from d) xs

  module _ (m from : ℕ) (xs : List ℕ) (h : m ≤ 0) where
    pub list_none : packs (kept_at m from xs) ≡ []
    unfolding packs
    list_none = rw (strings_none k m from d h)

    pub children_none : packs (children (kept_at m from xs)) ≡ []
    unfolding packs
    children_none = rw (strings_none k m from d h)

    pub onward_none : (last : Bool) → packs (onward last (kept_at m from xs)) ≡ []
    onward_none true = list_none
    onward_none false = children_none

  -- the first of them, whose number is x; b tells whether that passes
  module _ (w : ℕ) (e : w ≡ packed_length k) (m from : ℕ) (h : 0 < m) (x : ℕ) (xs : List ℕ) (b : Bool) (f : b ≡ passes x) where
    abbrev first : List ℕ
    first = take w (drop from d)

    abbrev rest : List Bits
    rest = kept_at (m - 1) (from + w) xs

    kept_step : kept_at m from (x ∷ xs) ≡ cond b (unpack k first ∷ rest) rest
    kept_step = rw (strings_step k w e d m from h) (kept_first passes (unpack k first) (strings_at k (m - 1) (from + w) d) x xs b f)

    pub children_step : packs (children (kept_at m from (x ∷ xs))) ≡ cond b (both_children (unpack k first)) [] ++ packs (children rest)
    children_step = rw kept_step (children_first b (unpack k first) rest)

    pub list_step : from + w ≤ length d → pack (unpack k first) ≡ first → packs (kept_at m from (x ∷ xs)) ≡ cond b (part w from d) [] ++ packs rest
    list_step room p = rw kept_step (packs_first b (unpack k first) rest ∙ rw (p, part_inside w from d room))

    pub onward_step : (last : Bool) → from + w ≤ length d → pack (unpack k first) ≡ first
        → packs (onward last (kept_at m from (x ∷ xs))) ≡ cond b (onward_bytes last k (part w from d)) [] ++ packs (onward last rest)
    onward_step true room p = list_step room p
    onward_step false room p = children_step ∙ rw (part_inside w from d room)
