-- `key_answering::print_line` meets its contract.
use native.Mathlib.Omega.{arith}
use mathlib.Core.Path.{◌≡◌, sym, ap, ◌∙◌}
use lib.ListN.{length, take}
use Rattle.calls.specs.Outcome.{Exit}
use Rattle.bits.specs.Packing.{packed_length, unpack}
use Rattle.point.specs.PublicShare.{public_share_length}
use Rattle.exam_text.specs.Sheet.{Line}
use Rattle.exam_text.specs.Reader.{line_at}
use Rattle.exam_text.proofs.Placed.{Sound, stands_sound}
use Rattle.exam_lines.proofs.Inside.{area_left}
use Rattle.key_answering.specs.KeyPage.{page}
use Rattle.key_answering.specs.KeyAnswer.{line_page}
use Rattle.key_answering.proofs.LineKey.{packed_length_lem, share_length, page_read_lem, line_most}
use Rattle.key_answering.proofs.print_line.Goals as goal
use Rattle.key_answering.proofs.print_line.Goals.{After-packed_length-end, After-public_share_length-size, Start}

-- the line
abbrev line : Start → Line
line s = let a = s.args in line_at a.head.n a.head.place a.text.now

sound : (s : Start) → Sound s.args.head.n (line s)
sound s = let a = s.args in stands_sound a.head.n a.head.place a.text.now s.requires.le_n.3

-- its string is packed in as many bytes as it takes
packed : (c : After-packed_length-end) (s : Sound c.args.head.n (line_at c.args.head.n c.args.head.place c.args.text.now))
    → length (take c.packed_length-end.result c.read_line-line.result.string) ≡ packed_length c.args.head.n
packed c s =
    let a = c.args in
    let r = c.requires.le_n in
    packed_length_lem a.head.n a.head.expander a.e r.0 r.1 r.2 (line_at a.head.n a.head.place a.text.now) s _ _ c.packed_length-end.ensures c.read_line-line.ensures.string

-- ---- the public share
share : (p : After-public_share_length-size) (s : Sound p.args.head.n (line_at p.args.head.n p.args.head.place p.args.text.now))
    → length (take p.public_share_length-size.result p.make_key.new.out) ≡ public_share_length p.args.head.n
share p s =
    let a = p.args in
    let q = p.requires.le_n in
    let r = p.read_line-line.ensures in
    share_length a.head.n a.head.expander a.e q.0 q.1 q.2 (line_at a.head.n a.head.place a.text.now) s _ _ p.packed_length-end.ensures r.string _ _ a.share.now _ r.seeds.0 r.seeds.1
    p.requires.share_len.0 (area_left _ _ ∙ ap (λ (x : Exit). x.area) p.make_key.ensures) _ p.public_share_length-size.ensures

whole : (p : After-public_share_length-size) (s : Sound p.args.head.n (line_at p.args.head.n p.args.head.place p.args.text.now)) → let a = p.args in
    let l = p.read_line-line.result in
    page a.e a.head.n (unpack a.head.n (take p.packed_length-end.result l.string)) l.seed0 l.seed1 (take p.public_share_length-size.result p.make_key.new.out)
    ≡ line_page a.head.n (line_at a.head.n a.head.place a.text.now) a.e
whole p s =
    let a = p.args in
    let q = p.requires.le_n in
    let r = p.read_line-line.ensures in
    page_read_lem a.head.n a.head.expander a.e q.0 q.1 q.2 (line_at a.head.n a.head.place a.text.now) s _ _ p.packed_length-end.ensures r.string _ _ a.share.now _ r.seeds.0 r.seeds.1
    p.requires.share_len.0 (area_left _ _ ∙ ap (λ (x : Exit). x.area) p.make_key.ensures) _ p.public_share_length-size.ensures

-- ---- the needs
pub slice_bounds-packed-end : goal.slice_bounds-packed-end
slice_bounds-packed-end c =
    let at = goal.at.slice_bounds-packed-end c in
    c.packed_length-end.ensures ∙ sym (packed at.After-packed_length-end (sound at.Start))

pub slice_bounds-key-end-2 : goal.slice_bounds-key-end-2
slice_bounds-key-end-2 c =
    let at = goal.at.slice_bounds-key-end-2 c in
    c.public_share_length-size.ensures ∙ sym (share at.After-public_share_length-size (sound at.Start))

pub write_page-requires : goal.write_page-requires
write_page-requires c =
    let at = goal.at.write_page-requires c in
    let s = sound at.Start in
    record { whole = share at.After-public_share_length-size s; room = c.requires.share_len.1 }

pub returns : goal.returns
returns c =
    let a = c.args in
    let at = goal.at.returns c in
    let q = c.requires.le_n in
    let w = c.write_page in
    let is = whole at.After-public_share_length-size (sound at.Start) in
    let value : w.result ≡ length (line_page a.head.n (line at.Start) a.e) = w.ensures.value ∙ ap length is in
    record { value = (value, omega (arith, value, line_most a.head.n a.head.expander a.e q.0 q.1 q.2 (line at.Start) (sound at.Start))); out_after = rw (← is) w.ensures.out_after }
