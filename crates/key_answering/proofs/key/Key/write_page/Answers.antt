-- `key_answering::page::Key::write_page` meets its contract.
use Prim.Native.Nat.{ℕ, ◌+◌, ◌≤◌}
use native.Mathlib.Omega.{arith}
use mathlib.Core.Path.{◌≡◌, sym, ◌∙◌}
use mathlib.Core.List.{List, ◌++◌}
use lib.ListN.{length, take}
use lib.Seq.{length-take-le}
use Rattle.places.proofs.Places.{Grown, grown_start, grown_room, grown_more, put_at_overlay}
use Rattle.bits.specs.Packing.{packed_length, unpack}
use Rattle.bits.proofs.Packed.{unpack_length}
use Rattle.expander.specs.declared.Expander.{Expander}
use Rattle.point.specs.PublicShare.{joined, control_bytes, read_correction}
use Rattle.fields.proofs.FieldChain.{Wrote, rest_room, rest_written}
use Rattle.key_answering.specs.KeyPage.{control_line, level_line, path_lines, page, page_space}
use Rattle.key_answering.proofs.Lengths.{page_most}
use Rattle.key_answering.proofs.key.Key.write_page.Goals as goal
use Rattle.key_answering.proofs.key.Key.write_page.Goals.{After-level_start-control, After-write_control-levels}

-- ---- the parts of the page
module _ (e : Expander) (n : ℕ) (string seed0 seed1 share : List ℕ) where
  abbrev control : List ℕ
  control = control_line (take (control_bytes n) share)

  abbrev levels : List ℕ
  levels = joined n (λ k. level_line k (read_correction n share k))

  abbrev path : List ℕ
  path = joined n (path_lines e n (unpack n string) seed0 seed1 share)

  abbrev whole : List ℕ
  whole = control ++ (levels ++ path)

  room : n ≤ 32 → length string ≡ packed_length n → (out : List ℕ) → page_space ≤ length out → 0 + length whole ≤ length out
  unfolding page
  room to sized out fits = omega (arith, fits, page_most e n (unpack n string) seed0 seed1 share (unpack_length n string sized) to)

  -- the control bytes are written, and then the levels
  first : (out : List ℕ) → 0 + length whole ≤ length out → (o : List ℕ) (p : ℕ) → Wrote out 0 control o p → Grown out 0 o p (levels ++ path) whole
  first out fits o p w = grown_more out 0 out 0 control (levels ++ path) whole (grown_start out 0 whole) fits o p w.1 w.0

  second : (out : List ℕ) → 0 + length whole ≤ length out → (o : List ℕ) (p : ℕ) → Wrote out 0 control o p → (o' : List ℕ) (p' : ℕ) → Wrote o p levels o' p'
      → Grown out 0 o' p' path whole
  second out fits o p w o' p' v = grown_more out 0 o p levels path whole (first out fits o p w) fits o' p' v.1 v.0

-- the control bytes end where the first level begins
begin : (c : After-level_start-control) → c.level_start-control.result ≡ control_bytes c.args.self.n
begin c = omega (arith, c.level_start-control.ensures)

control_wrote : (w : After-write_control-levels) → w.level_start-control.result ≡ control_bytes w.args.self.n → let a = w.args in
    Wrote a.out.now 0 (control a.self.e a.self.n a.self.string.now a.self.seed0 a.self.seed1 a.self.share.now) w.write_control-levels.new.out w.write_control-levels.result
control_wrote w is = let l = w.write_control-levels in rw (← is) (l.ensures.value, l.ensures.out_after)

-- ---- the needs
pub slice_bounds-write_control-end : goal.slice_bounds-write_control-end
slice_bounds-write_control-end c =
    sym (length-take-le c.level_start-control.result c.args.self.share.now (omega (arith, c.level_start-control.ensures, c.requires.whole)))

pub write_control-levels-requires : goal.write_control-levels-requires
write_control-levels-requires c =
    let a = c.args in
    let fits = room a.self.e a.self.n a.self.string.now a.self.seed0 a.self.seed1 a.self.share.now c.args.self.packed.0 c.args.self.packed.1 a.out.now c.requires.room in
    let all = whole a.self.e a.self.n a.self.string.now a.self.seed0 a.self.seed1 a.self.share.now in
    rw (begin (goal.at.write_control-levels-requires c).After-level_start-control)
    (grown_room a.out.now 0 a.out.now 0 (control a.self.e a.self.n a.self.string.now a.self.seed0 a.self.seed1 a.self.share.now) (levels a.self.e a.self.n a.self.string.now a.self.seed0 a.self.seed1 a.self.share.now ++ path a.self.e a.self.n a.self.string.now a.self.seed0 a.self.seed1 a.self.share.now) all (grown_start a.out.now 0 all) fits)

pub write_levels-path-requires : goal.write_levels-path-requires
write_levels-path-requires c =
    let a = c.args in
    let at = goal.at.write_levels-path-requires c in
    let fits = room a.self.e a.self.n a.self.string.now a.self.seed0 a.self.seed1 a.self.share.now c.args.self.packed.0 c.args.self.packed.1 a.out.now c.requires.room in
    grown_room a.out.now 0 _ _ (levels a.self.e a.self.n a.self.string.now a.self.seed0 a.self.seed1 a.self.share.now) (path a.self.e a.self.n a.self.string.now a.self.seed0 a.self.seed1 a.self.share.now) (whole a.self.e a.self.n a.self.string.now a.self.seed0 a.self.seed1 a.self.share.now)
    (first a.self.e a.self.n a.self.string.now a.self.seed0 a.self.seed1 a.self.share.now a.out.now fits _ _ (control_wrote at.After-write_control-levels (begin at.After-level_start-control))) fits

pub write_path-requires : goal.write_path-requires
write_path-requires c =
    let a = c.args in
    let at = goal.at.write_path-requires c in
    let fits = room a.self.e a.self.n a.self.string.now a.self.seed0 a.self.seed1 a.self.share.now c.args.self.packed.0 c.args.self.packed.1 a.out.now c.requires.room in
    let v = c.write_levels-path in
    record {
      room = rest_room a.out.now 0 (whole a.self.e a.self.n a.self.string.now a.self.seed0 a.self.seed1 a.self.share.now) fits _ _ (path a.self.e a.self.n a.self.string.now a.self.seed0 a.self.seed1 a.self.share.now)
          (second a.self.e a.self.n a.self.string.now a.self.seed0 a.self.seed1 a.self.share.now a.out.now fits _ _ (control_wrote at.After-write_control-levels (begin at.After-level_start-control)) _ _ (v.ensures.value, v.ensures.out_after));
    }

pub returns : goal.returns
unfolding page
returns c =
    let a = c.args in
    let at = goal.at.returns c in
    let fits = room a.self.e a.self.n a.self.string.now a.self.seed0 a.self.seed1 a.self.share.now c.args.self.packed.0 c.args.self.packed.1 a.out.now c.requires.room in
    let v = c.write_levels-path in
    let p = c.write_path in
    let all = rest_written a.out.now 0 (whole a.self.e a.self.n a.self.string.now a.self.seed0 a.self.seed1 a.self.share.now) fits _ _ (path a.self.e a.self.n a.self.string.now a.self.seed0 a.self.seed1 a.self.share.now)
    (second a.self.e a.self.n a.self.string.now a.self.seed0 a.self.seed1 a.self.share.now a.out.now fits _ _ (control_wrote at.After-write_control-levels (begin at.After-level_start-control)) _ _ (v.ensures.value, v.ensures.out_after)) _ _
    (p.ensures.value, p.ensures.out_after) in
    record { value = omega (arith, all.0); out_after = all.1 ∙ put_at_overlay a.out.now (whole a.self.e a.self.n a.self.string.now a.self.seed0 a.self.seed1 a.self.share.now) (omega (arith, fits)) }
