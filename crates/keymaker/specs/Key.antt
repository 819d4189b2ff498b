-- The call `make_key`: document 01, 'Keys and nodes' and 'Public share'; its weight: document 02, [1].
use Rattle.std.specs.Prelude.{ℕ, ◌≤◌, ◌≡◌, true, false, not, ◌||◌, List, [], ◌∷◌, ◌≢◌, ◌⊎◌, length, get_or, eqb, ℤ}
use Rattle.bits.specs.Packing.{packed_length, bits_of, unpack, spare_zero}
use Rattle.group.specs.Modular.{modulus}
use Rattle.signed.specs.SignedReading.{embed}
use Rattle.calls.specs.Bounds.{length_cause, expander_cause, space_cause}
use Rattle.calls.specs.Causes.{Cause, cause}
use Rattle.calls.specs.Outcome.{Outcome, judged, Exit, exit}
use Rattle.expander.specs.Expander.{choice_of, under}
use Rattle.expander.specs.declared.Expander.{Expander}
use Rattle.point.specs.Keys.{key_correction}
use Rattle.point.specs.Evaluation.{bit_of}
use Rattle.point.specs.PublicShare.{public_share, public_share_length}
use Rattle.point.specs.Instance.{scheme}

-- a bit of the packed string past the n-th is set
abbrev pub SpareBitSet : ℕ → List ℕ → Type 0
SpareBitSet n string = (i : ℕ) × (n ≤ i) × (get_or (bits_of string) i false ≡ true)

-- the causes: n outside its bounds; the expander not 1 or 2; the string or a seed of the wrong length; a spare bit set in the string; the public
-- share would not fit
abbrev pub key_causes : ℕ → ℕ → List ℕ → List ℕ → List ℕ → ℕ → List Cause
key_causes n e string seed0 seed1 room =
    length_cause n
    ∷ expander_cause e
    ∷ cause 4 ((length string ≢ packed_length n) ⊎ (length seed0 ≢ 16) ⊎ (length seed1 ≢ 16))
    (not (eqb (length string) (packed_length n)) || (not (eqb (length seed0) 16) || not (eqb (length seed1) 16)))
    ∷ cause 7 (SpareBitSet n string) (not (spare_zero n string))
    ∷ space_cause (public_share_length n) room
    ∷ []

-- the public share of the string with its weight w as a group number
unfoldable pub key_bytes : ℕ → ℤ → List ℕ → List ℕ → List ℕ → Expander → List ℕ
key_bytes n w string seed0 seed1 e = public_share n (key_correction (scheme e) (embed modulus w) (bit_of (unpack n string)) seed0 seed1)

-- the outcome
unfoldable pub key_outcome : ℕ → ℕ → ℤ → List ℕ → List ℕ → List ℕ → ℕ → Outcome
key_outcome n e w string seed0 seed1 room = judged (key_causes n e string seed0 seed1 room) (under (choice_of e) (key_bytes n w string seed0 seed1))

-- what the call returns, and the space that it is lent, at exit
abbrev pub key_exit : ℕ → ℕ → ℤ → List ℕ → List ℕ → List ℕ → List ℕ → Exit
key_exit n e w string seed0 seed1 area = exit (key_outcome n e w string seed0 seed1 (length area)) area
