-- `keymaker::make_key` meets its contract. A refusal leaves the space as it was; else no cause applies, and the public share is written.
use mathlib.Core.Path.{sym, ap, ◌∙◌}
use mathlib.Core.List.{List}
use native.Mathlib.Omega.{arith}
use lib.ListN.{length}
use mir.Syntax.{w16}
use mir.ValLaws.{to_z-of_z}
use Rattle.places.specs.Places.{Bytes, overlay}
use Rattle.places.proofs.Places.{window_bytes, window_whole}
use Rattle.group.specs.Modular.{modulus}
use Rattle.signed.specs.SignedReading.{embed}
use Rattle.calls.proofs.Judged.{refused_with, accepted_with}
use Prim.Native.Nat.{ℕ}
use Rattle.keymaker.specs.Key.{key_causes, key_outcome}
use Rattle.keymaker.proofs.KeyCauses.{Ready, due_number, ready, key_accepted}
use Rattle.keymaker.proofs.KeyTheorems.{bytes_pass}
use Rattle.keymaker.proofs.KeyMaker.{key_same}
use Rattle.keymaker.proofs.make_key.Goals as goal
use Rattle.keymaker.proofs.make_key.Goals.{In_ok-e}

-- no cause applies
clear : (c : In_ok-e) → let a = c.args in Ready a.n a.expander a.weight a.string.now a.seed0.now a.seed1.now (length a.out.now)
clear c =
    let a = c.args in
    ready a.n a.expander a.weight a.string.now a.seed0.now a.seed1.now (length a.out.now) (due_number a.n a.expander a.weight a.string.now a.seed0.now a.seed1.now (length a.out.now) ∙ sym c.in_ok-e.ensures.number)

pub returns-in_err-e : goal.returns-in_err-e
unfolding key_outcome
returns-in_err-e c =
    let a = c.args in
    refused_with (key_causes a.n a.expander a.string.now a.seed0.now a.seed1.now (length a.out.now)) _ c.in_err-e.ensures.number _ c.from_residual.ensures.1
    _ a.out.now

pub overflow_cast-levels : goal.overflow_cast-levels
overflow_cast-levels c =
    let r = clear (goal.at.overflow_cast-levels c).In_ok-e in
    omega (arith, r.few)

pub write_key-requires : goal.write_key-requires
write_key-requires c =
    let a = c.args in
    let r = clear (goal.at.write_key-requires c).In_ok-e in (
      r.fits,
      rw c.read16.ensures (window_bytes 16 0 a.seed0.now (λ i. omega (arith, c.type_inv.seed0 i))),
      rw c.read16-2.ensures (window_bytes 16 0 a.seed1.now (λ i. omega (arith, c.type_inv.seed1 i))),
    )

pub returns : goal.returns
returns c =
    let a = c.args in
    let r = clear (goal.at.returns c).In_ok-e in
    let x = c.in_ok-e.e in
    let b0 : Bytes 16 a.seed0.now = record { size = r.seed0_length; byte = λ i. omega (arith, c.type_inv.seed0 i) } in
    let b1 : Bytes 16 a.seed1.now = record { size = r.seed1_length; byte = λ i. omega (arith, c.type_inv.seed1 i) } in
    rw (key_accepted a.n a.expander a.weight a.string.now a.seed0.now a.seed1.now (length a.out.now) x c.in_ok-e.ensures.chosen r)
    (accepted_with _ _
    (c.public_share_length.ensures ∙ sym (bytes_pass a.n a.weight a.string.now a.seed0.now a.seed1.now r.string_length b0 b1 x).0)
    (c.write_key.ensures
    ∙ ap (λ (v : List ℕ). overlay v a.out.now)
    (key_same x a.n _ a.string.now _ _ a.weight
    (c.from_signed.ensures.0 ∙ ap (embed modulus) (to_z-of_z w16 a.weight c.ranges.weight))
    (c.read16.ensures ∙ window_whole 16 a.seed0.now r.seed0_length) (c.read16-2.ensures ∙ window_whole 16 a.seed1.now r.seed1_length))))
