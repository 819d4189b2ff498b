-- `capi::one_block::write_block` meets its contract: at each return the tests that led there say which outcome is the call's.
use mathlib.Core.Path.{◌≡◌, refl, sym, ap, ◌∙◌}
use mathlib.Core.List.{List}
use lib.ListN.{length}
use Prim.Native.Nat.{ℕ}
use native.Mathlib.Omega.{arith}
use Rattle.std.proofs.Common.{Result, Ok, Err}
use Rattle.std.specs.Prelude.{IsErrAnd}
use Rattle.places.specs.Places.{put_at}
use Rattle.places.proofs.Places.{window_whole, overlay_nil, put_at_overlay}
use Rattle.calls.specs.Refusals.{number_of}
use Rattle.calls.specs.Outcome.{answered, exit, refused}
use Rattle.calls.specs.declared.Refusal.{Refusal}
use Rattle.calls.specs.declared.Refusal.TheVariants.{Expander, Lengths, NoSpace}
use Rattle.calls.proofs.Judged.{accepted_with}
use Rattle.expander.specs.Expander.{block_of}
use Rattle.expander.proofs.Sized.{block_length}
use Rattle.capi.proofs.Block.{unknown_expander, wrong_length, no_room_lem, all_well}
use Rattle.capi.proofs.one_block.write_block.Goals as goal

-- a refusal leaves the space as it was
refusing : (e : Refusal) (area : List ℕ) → answered (Err e) area ≡ exit (refused (number_of e)) area
refusing e area = rw (overlay_nil area) refl

-- the same of one that a `?` hands on
handing : (e : Refusal) (r : Result ℕ Refusal) → IsErrAnd r (λ f. f ≡ e) → (area : List ℕ) → answered r area ≡ exit (refused (number_of e)) area
handing e (Ok x) h area = absurd h
handing e (Err f) h area = ap (λ (x : Refusal). answered (Err x) area) h ∙ refusing e area

pub returns-in_err-e : goal.returns-in_err-e
returns-in_err-e c =
    let a = c.args in
    rw (unknown_expander a.expander a.seed.now a.j (length a.block.now) c.in_err-e.ensures)
    (handing Expander _ c.from_residual.ensures.1 a.block.now)

pub returns-then-seed-ne16 : goal.returns-then-seed-ne16
returns-then-seed-ne16 c =
    let a = c.args in
    rw (wrong_length a.expander a.seed.now a.j (length a.block.now) c.in_ok-e.e c.in_ok-e.ensures c.if-seed-ne16.true)
    (refusing Lengths a.block.now)

pub returns-then-block-lt16 : goal.returns-then-block-lt16
returns-then-block-lt16 c =
    let a = c.args in
    rw (no_room_lem a.expander a.seed.now a.j (length a.block.now) c.in_ok-e.e c.in_ok-e.ensures c.if-seed-ne16.false c.if-block-lt16.true)
    (refusing NoSpace a.block.now)

pub returns : goal.returns
returns c =
    let a = c.args in
    let x = c.in_ok-e.e in
    let whole = c.if-seed-ne16.false in
    let bytes = c.block-bytes.ensures ∙ ap (λ (s : List ℕ). block_of x s a.j) (c.read16.ensures ∙ window_whole 16 a.seed.now whole) in
    rw (all_well a.expander a.seed.now a.j (length a.block.now) x c.in_ok-e.ensures whole c.if-block-lt16.false)
    (accepted_with _ _
    (sym (block_length x a.seed.now a.j))
    (c.write16.ensures ∙ ap (put_at a.block.now 0) bytes
    ∙ put_at_overlay a.block.now (block_of x a.seed.now a.j) (omega (arith, block_length x a.seed.now a.j, c.if-block-lt16.false))))
