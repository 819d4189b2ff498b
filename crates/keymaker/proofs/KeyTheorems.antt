-- `make_key` returns the number that is due, and what it writes passes a server's tests.
use mathlib.Core.Path.{◌≡◌, refl, sym, ◌∙◌}
use mathlib.Core.Bool.{Bool, true, not, true≢false, ◌||◌}
use mathlib.Core.List.{List}
use Prim.Native.Nat.{ℕ, ◌<◌}
use native.Mathlib.Omega.{arith}
use lib.ListN.{length, get_or}
use lib.Dec.{eqb}
use lib.IntN.{ℤ}
use Rattle.places.specs.Places.{Bytes}
use Rattle.bits.specs.Packing.{packed_length, unpack, spare_zero}
use Rattle.bits.proofs.Packed.{unpack_length}
use Rattle.bits.proofs.Spare.{spare_set}
use Rattle.calls.specs.Causes.{Due}
use Rattle.calls.proofs.Decisions.{failed, failed_test, differ, differ_test, either, either_test}
use Rattle.calls.proofs.Judged.{due, none, next, length_decided, expander_decided, space_decided}
use Rattle.expander.specs.Expander.{choice_of}
use Rattle.expander.specs.declared.Expander.{Expander}
use Rattle.std.specs.Prelude.{Option, Some, None}
use Rattle.expander.proofs.Chosen.{unknown}
use Rattle.group.specs.Modular.{p, modulus}
use Rattle.signed.specs.SignedReading.{embed}
use Rattle.signed.proofs.Embedding.{embed_below}
use Rattle.point.specs.PublicShare.{public_share_length, payloads_below, spare_bits_zero}
use Rattle.point.specs.Totals.{Report, Made, report_correction, report_public_share}
use Rattle.point.specs.Instance.{scheme}
use Rattle.point.proofs.Honest.{report_bytes, report_passes}
use Rattle.point.proofs.Instance.{scheme_lawful, p_fits}
use Rattle.keymaker.specs.Key.{key_causes, key_bytes, key_outcome}
use Rattle.keymaker.proofs.KeyCauses.{Ready, ready, key_accepted}

-- ---- the number is due

pub key_due : (n e : ℕ) (w : ℤ) (string seed0 seed1 : List ℕ) (room : ℕ)
    → Due (key_causes n e string seed0 seed1 room) (key_outcome n e w string seed0 seed1 room).number
unfolding key_outcome
key_due n e w string seed0 seed1 room =
    due
    (length_decided n
    (expander_decided e
    (next {b = a || (b || c)}
    (either a (b || c) (differ (length string) (packed_length n)) (either b c (differ (length seed0) 16) (differ (length seed1) 16)))
    (either_test a (b || c) (differ_test (length string) (packed_length n)) (either_test b c (differ_test (length seed0) 16) (differ_test (length seed1) 16)))
    (next {b = not (spare_zero n string)}
    (λ t. (spare_set n string).0 (failed (spare_zero n string) t))
    (λ h. failed_test ((spare_set n string).1 h))
    (space_decided (public_share_length n) room none)))))
    _
  where
    a : Bool
    a = not (eqb (length string) (packed_length n))

    b : Bool
    b = not (eqb (length seed0) 16)

    c : Bool
    c = not (eqb (length seed1) 16)

-- ---- what is written

-- the tests of causes 4, 6 and 7, for one public share
abbrev pub Passes : ℕ → List ℕ → Type 0
Passes n bytes = (length bytes ≡ public_share_length n) × (payloads_below p n bytes ≡ true) × (spare_bits_zero n bytes ≡ true)

pub bytes_pass : (n : ℕ) (w : ℤ) (string seed0 seed1 : List ℕ) → length string ≡ packed_length n → Bytes 16 seed0 → Bytes 16 seed1 → (x : Expander)
    → Passes n (key_bytes n w string seed0 seed1 x)
unfolding key_bytes report_public_share report_correction
bytes_pass n w string seed0 seed1 h h0 h1 x =
    let r : Report ℕ = record { string = unpack n string; seed0 = seed0; seed1 = seed1; weight = embed modulus w } in
    let m : Made (λ y. y < p) n r = record { bits = unpack_length n string h; in_group = embed_below modulus (omega arith) w; sized0 = h0; sized1 = h1 } in
    let q = report_passes (scheme x) (scheme_lawful x) p_fits n r m in
    ((report_bytes (scheme x) (scheme_lawful x) p_fits n r m).size, q.0, q.1)

-- what `make_key` writes when it returns 0
pub key_passes : (n e : ℕ) (w : ℤ) (string seed0 seed1 : List ℕ) (room : ℕ) → ((i : ℕ) → get_or seed0 i 0 < 256) → ((i : ℕ) → get_or seed1 i 0 < 256)
    → (key_outcome n e w string seed0 seed1 room).number ≡ 0 → Passes n (key_outcome n e w string seed0 seed1 room).written
key_passes n e w string seed0 seed1 room byte0 byte1 h = go (choice_of e) refl (ready n e w string seed0 seed1 room h)
  where
    go : (c : Option Expander) → choice_of e ≡ c → Ready n e w string seed0 seed1 room → Passes n (key_outcome n e w string seed0 seed1 room).written
    go (Some x) q r =
        rw (key_accepted n e w string seed0 seed1 room x q r)
        (bytes_pass n w string seed0 seed1 r.string_length (record { size = r.seed0_length; byte = byte0 }) (record { size = r.seed1_length; byte = byte1 }) x)
    go None q r = absurd (true≢false (sym r.expander ∙ unknown e q))
