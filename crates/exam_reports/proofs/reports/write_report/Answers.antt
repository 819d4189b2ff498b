-- `exam_reports::reports::write_report` meets its contract: the key of what was read is that of the line.
use mathlib.Core.Path.{◌≡◌, sym, ap, ap₂, ◌∙◌}
use Prim.Native.Nat.{ℕ, ◌*◌}
use native.Mathlib.Omega.{arith}
use lib.ListN.{length, take}
use lib.Seq.{length-take-le}
use Rattle.places.specs.Places.{put_at}
use Rattle.bits.specs.Packing.{packed_length}
use Rattle.point.specs.PublicShare.{public_share_length}
use lib.IntN.{pos}
use Rattle.keymaker.specs.Key.{key_outcome}
use Rattle.exam_text.specs.Sheet.{Line}
use Rattle.exam_text.specs.Reader.{line_at}
use Rattle.exam_text.proofs.Values.{four_length}
use Rattle.exam_text.proofs.Placed.{Sound, stands_sound}
use Rattle.exam_reports.specs.SheetReports.{public_share_for}
use Rattle.exam_reports.proofs.LineKeys.{key_size, key_read}
use Rattle.exam_reports.proofs.reports.write_report.Goals as goal
use Rattle.exam_reports.proofs.reports.write_report.Goals.{After-public_share_length, After-read_line-line}

abbrev line : After-public_share_length → Line
line k = let a = k.args in line_at a.sheet.n a.at a.text.now

sound : (k : After-public_share_length) → Sound k.args.sheet.n (line k)
sound k = let a = k.args in stands_sound a.sheet.n a.at a.text.now k.requires.le_n.3

-- the key of what was read is that of the line
made : (k : After-public_share_length) → let r = k.read_line-line.result in let a = k.args in
    (key_outcome a.sheet.n a.sheet.expander (pos 1) (take k.packed_length-end.result r.string) r.seed0 r.seed1 (public_share_length a.sheet.n)).written
    ≡ public_share_for a.sheet.n a.sheet.expander (line k)
made k =
    key_read k.args.sheet.n k.args.sheet.expander _ (line k) _ _ _ k.requires.le_n.1 (sound k) (k.packed_length-end.ensures ∙ ap packed_length k.from.ensures) k.read_line-line.ensures.string k.read_line-line.ensures.seeds.0 k.read_line-line.ensures.seeds.1

-- its string is four bytes
four : (r : After-read_line-line) → length r.read_line-line.result.string ≡ 4
four r = ap length r.read_line-line.ensures.string ∙ four_length _

-- ---- the needs
pub overflow_mul-i : goal.overflow_mul-i
overflow_mul-i c = omega (arith, c.requires.i_in_bounds.0)

pub overflow_mul-i-2 : goal.overflow_mul-i-2
overflow_mul-i-2 c = omega (arith, c.requires.i_in_bounds.0)

pub slice_bounds-write_key-end : goal.slice_bounds-write_key-end
slice_bounds-write_key-end c =
    sym (length-take-le c.packed_length-end.result c.read_line-line.result.string
    (omega (arith, c.packed_length-end.ensures, c.from.ensures, c.requires.le_n.1, four (goal.at.slice_bounds-write_key-end c).After-read_line-line)))

pub overflow_mul-public_share_length : goal.overflow_mul-public_share_length
overflow_mul-public_share_length c = rw c.public_share_length.ensures (omega (arith, c.requires.i_in_bounds.2))

pub write_key-requires : goal.write_key-requires
write_key-requires c =
    let a = c.args in
    (rw c.public_share_length.ensures c.requires.i_in_bounds.2, ap length (made c) ∙ key_size a.sheet.n a.sheet.expander c.requires.le_n.0 c.requires.le_n.1 c.requires.le_n.2 (line c) (sound c))

pub returns : goal.returns
returns c =
    let a = c.args in
    record { seeds0_after = c.write16.ensures ∙ ap (put_at a.seeds0.now (16 * a.i)) c.read_line-line.ensures.seeds.0; seeds1_after = c.write16-2.ensures ∙ ap (put_at a.seeds1.now (16 * a.i)) c.read_line-line.ensures.seeds.1; shares_after = c.write_key.ensures ∙ ap₂ (put_at a.shares.now) (ap (λ (w : ℕ). w * a.i) c.public_share_length.ensures) (made (goal.at.returns c).After-public_share_length) }
