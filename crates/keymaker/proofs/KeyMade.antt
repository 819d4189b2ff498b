-- The key maker succeeds for every string of 1 to 256 bits, every weight and any two seeds of 16 bytes, where there is room.
use mathlib.Core.Path.{◌≡◌, sym, ap, ◌∙◌}
use mathlib.Core.Bool.{true, not}
use mathlib.Core.List.{List}
use Prim.Native.Nat.{ℕ, ◌≤◌}
use borrow.Author.Tests.{le-ltb, eq-eqb}
use lib.ListN.{length}
use lib.IntN.{ℤ}
use Rattle.places.specs.Places.{Bytes}
use Rattle.bits.specs.Strings.{Bits}
use Rattle.bits.specs.Packing.{packed_length, pack, spare_zero}
use Rattle.bits.proofs.Packed.{pack_length, pack_spare_zero}
use Rattle.calls.specs.Outcome.{accepted}
use Rattle.calls.proofs.Decisions.{neither_test, in_bounds}
use Rattle.calls.proofs.Judged.{judged_accepted, ◌&◌}
use Rattle.expander.specs.Expander.{choice_of, under}
use Rattle.expander.specs.declared.Expander.{Expander}
use Rattle.std.specs.Prelude.{Option, Some}
use Rattle.expander.proofs.Chosen.{known}
use Rattle.point.specs.PublicShare.{public_share_length}
use Rattle.keymaker.specs.Key.{key_causes, key_bytes, key_outcome}
use Rattle.keymaker.proofs.KeyTheorems.{bytes_pass}

module _ (n number : ℕ) (e : Expander) (named : choice_of number ≡ Some e) (w : ℤ) (s : Bits) (seed0 seed1 : List ℕ) (bits : length s ≡ n) (sized0 : Bytes 16 seed0)
    (sized1 : Bytes 16 seed1) where
  packed_size : length (pack s) ≡ packed_length n
  packed_size = pack_length s ∙ ap packed_length bits

  pub key_made : 1 ≤ n → n ≤ 256 → (room : ℕ) → public_share_length n ≤ room
      → key_outcome n number w (pack s) seed0 seed1 room ≡ accepted (key_bytes n w (pack s) seed0 seed1 e)
  unfolding key_outcome
  key_made from to room fits =
      let spare : spare_zero n (pack s) ≡ true = ap (λ (m : ℕ). spare_zero m (pack s)) (sym bits) ∙ pack_spare_zero s in
      let lengths =
      neither_test (ap not (eq-eqb (length (pack s)) (packed_length n) packed_size))
      (neither_test (ap not (eq-eqb (length seed0) 16 sized0.size)) (ap not (eq-eqb (length seed1) 16 sized1.size))) in
      judged_accepted (key_causes n number (pack s) seed0 seed1 room) _
      (in_bounds 256 n from to & ap not (known number e named) & lengths & ap not spare & le-ltb room (public_share_length n) fits & tt)
      ∙ ap accepted (ap (λ (c : Option Expander). under c (key_bytes n w (pack s) seed0 seed1)) named)

  -- It has the length of a public share.
  pub made_length : length (key_bytes n w (pack s) seed0 seed1 e) ≡ public_share_length n
  made_length = (bytes_pass n w (pack s) seed0 seed1 packed_size sized0 sized1 e).0
