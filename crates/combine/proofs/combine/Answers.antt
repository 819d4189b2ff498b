-- `combine::combine` meets its contract: where no cause of what is lent applies the query passes, and what is written is known by its size.
use Prim.Native.Nat.{ℕ, suc, ◌*◌, ◌≤◌, ◌<◌}
use native.Mathlib.Omega.{arith}
use mathlib.Core.Path.{◌≡◌, sym, ap, ◌∙◌}
use lib.ListN.{length, get_or}
use Rattle.bits.specs.Packing.{packed_length}
use Rattle.places.proofs.Places.{put_at_length}
use Rattle.query.specs.Query.{limit}
use Rattle.query.proofs.Check.{few_bytes}
use Rattle.query.proofs.Ready.{ready as query-ready}
use Rattle.combine.proofs.Ready.{Ready, ready}
use Rattle.combine.proofs.Outcome.{told_exit, told_lent}
use Rattle.combine.proofs.Told.{list_bytes_lem, list_short, list_told, ended_told, too_many, next_short, children_bytes, next_told}
use Rattle.combine.proofs.combine.Goals as goal
use Rattle.combine.proofs.combine.Goals.{After-count_kept-kept, After-packed_length-2, In_ok-check}

byte : (c : In_ok-check) (i : ℕ) → get_or c.args.query.now i 0 < 256
byte c i = omega (arith, c.shared_slice_known-1.given i)

all_well : (c : In_ok-check) → Ready c.args.n c.args.weighted c.args.t c.args.query.now c.args.share0.now c.args.share1.now
all_well c =
    let a = c.args in
    ready a.n a.weighted a.t a.query.now a.share0.now a.share1.now (sym c.in_ok-check.ensures)

-- how many are kept, and how long they are
few : (c : After-count_kept-kept) → c.count_kept-kept.result ≤ limit
few c =
    let a = c.args in
    let r : Ready a.n a.weighted a.t a.query.now a.share0.now a.share1.now =
    ready a.n a.weighted a.t a.query.now a.share0.now a.share1.now (sym c.in_ok-check.ensures) in
    omega (arith, c.count_kept-kept.ensures.1, r.first, (query-ready a.n a.query.now r.a_query_lem).not_more)

short : (c : After-count_kept-kept) → c.prefix_length-len.result ≤ 256
short c =
    let a = c.args in
    let r : Ready a.n a.weighted a.t a.query.now a.share0.now a.share1.now =
    ready a.n a.weighted a.t a.query.now a.share0.now a.share1.now (sym c.in_ok-check.ensures) in
    omega (arith, c.prefix_length-len.ensures.0, r.not_longer, (query-ready a.n a.query.now r.a_query_lem).not_longer)

-- the bytes of a child, and of all of them
child : (c : After-packed_length-2) → c.packed_length-2.result ≡ packed_length (suc c.prefix_length-len.result)
child c = c.packed_length-2.ensures ∙ ap packed_length (omega arith)

next_few : (c : After-packed_length-2) → 2 * c.count_kept-kept.result * c.packed_length-2.result ≤ 1073725440
next_few c =
    let a = c.args in
    let r : Ready a.n a.weighted a.t a.query.now a.share0.now a.share1.now =
    ready a.n a.weighted a.t a.query.now a.share0.now a.share1.now (sym c.in_ok-check.ensures) in
    let fits : c.prefix_length-len.result ≤ 256 =
    omega (arith, c.prefix_length-len.ensures.0, r.not_longer, (query-ready a.n a.query.now r.a_query_lem).not_longer) in
    few_bytes (2 * c.count_kept-kept.result) c.packed_length-2.result (omega (arith, c.if-kept-gt65535.false)) (omega (arith, fits, c.packed_length-2.ensures))

-- ---- the needs
pub returns-in_err-check : goal.returns-in_err-check
returns-in_err-check c =
    let a = c.args in
    told_exit a.n a.weighted a.t a.query.now a.share0.now a.share1.now a.out.now _ _
    (told_lent a.n a.weighted a.t a.query.now a.share0.now a.share1.now a.out.now _ c.in_err-check.ensures _ c.from_residual.ensures.1)

pub count_kept-kept-requires : goal.count_kept-kept-requires
count_kept-kept-requires c = let r = all_well (goal.at.count_kept-kept-requires c).In_ok-check in r.first ∙ sym r.second

pub overflow_mul-list_size : goal.overflow_mul-list_size
overflow_mul-list_size c =
    omega (arith, few_bytes c.count_kept-kept.result c.packed_length.result (few (goal.at.overflow_mul-list_size c).After-count_kept-kept) (omega (arith, short (goal.at.overflow_mul-list_size c).After-count_kept-kept, c.packed_length.ensures)))

pub returns-then-out-list_size : goal.returns-then-out-list_size
returns-then-out-list_size c =
    let a = c.args in
    told_exit a.n a.weighted a.t a.query.now a.share0.now a.share1.now a.out.now _ _
    (list_short a.n a.weighted a.t a.query.now a.share0.now a.share1.now a.out.now (byte (goal.at.returns-then-out-list_size c).In_ok-check) (all_well (goal.at.returns-then-out-list_size c).In_ok-check)
    c.count_kept-kept.result c.count_kept-kept.ensures.0 c.prefix_length-len.result c.prefix_length-len.ensures.0
    c.if-len-n.true c.packed_length.result c.packed_length.ensures c.if-out-list_size.true)

pub write_kept-requires : goal.write_kept-requires
write_kept-requires c =
    let a = c.args in
    let r = all_well (goal.at.write_kept-requires c).In_ok-check in
    let q = query-ready a.n a.query.now r.a_query_lem in
    let last : c.prefix_length-len.result ≡ a.n = omega arith in
    let size =
    list_bytes_lem a.n a.weighted a.t a.query.now a.share0.now a.share1.now a.out.now (byte (goal.at.write_kept-requires c).In_ok-check) (all_well (goal.at.write_kept-requires c).In_ok-check)
    c.count_kept-kept.result c.count_kept-kept.ensures.0 c.prefix_length-len.result c.prefix_length-len.ensures.0
    last c.packed_length.result c.packed_length.ensures in
    record { query_in_bounds = omega (arith, q.whole); query_bytes = byte (goal.at.write_kept-requires c).In_ok-check; spares = q.no_spares; share_lengths = (r.first, r.second); out_in_bounds = omega (arith, size) }

pub returns-then-len-n : goal.returns-then-len-n
returns-then-len-n c =
    let a = c.args in
    told_exit a.n a.weighted a.t a.query.now a.share0.now a.share1.now a.out.now _ _
    (list_told a.n a.weighted a.t a.query.now a.share0.now a.share1.now a.out.now (byte (goal.at.returns-then-len-n c).In_ok-check) (all_well (goal.at.returns-then-len-n c).In_ok-check)
    c.count_kept-kept.result c.count_kept-kept.ensures.0 c.prefix_length-len.result c.prefix_length-len.ensures.0
    c.if-len-n.true c.packed_length.result c.packed_length.ensures c.if-out-list_size.false _ c.write_kept.ensures)

pub returns-then-kept-lt1 : goal.returns-then-kept-lt1
returns-then-kept-lt1 c =
    let a = c.args in
    told_exit a.n a.weighted a.t a.query.now a.share0.now a.share1.now a.out.now _ _
    (ended_told a.n a.weighted a.t a.query.now a.share0.now a.share1.now a.out.now (byte (goal.at.returns-then-kept-lt1 c).In_ok-check) (all_well (goal.at.returns-then-kept-lt1 c).In_ok-check)
    c.count_kept-kept.result c.count_kept-kept.ensures.0 c.prefix_length-len.result c.prefix_length-len.ensures.0
    c.if-len-n.false c.if-kept-lt1.true)

pub returns-then-kept-gt65535 : goal.returns-then-kept-gt65535
returns-then-kept-gt65535 c =
    let a = c.args in
    told_exit a.n a.weighted a.t a.query.now a.share0.now a.share1.now a.out.now _ _
    (too_many a.n a.weighted a.t a.query.now a.share0.now a.share1.now a.out.now (byte (goal.at.returns-then-kept-gt65535 c).In_ok-check) (all_well (goal.at.returns-then-kept-gt65535 c).In_ok-check)
    c.count_kept-kept.result c.count_kept-kept.ensures.0 c.prefix_length-len.result c.prefix_length-len.ensures.0
    c.if-len-n.false c.if-kept-lt1.false c.if-kept-gt65535.true)

pub overflow_mul-next_size-2 : goal.overflow_mul-next_size-2
overflow_mul-next_size-2 c = omega (arith, next_few c)

pub overflow_add-next_size : goal.overflow_add-next_size
overflow_add-next_size c = omega (arith, next_few c)

pub returns-then-out-next_size : goal.returns-then-out-next_size
returns-then-out-next_size c =
    let a = c.args in
    told_exit a.n a.weighted a.t a.query.now a.share0.now a.share1.now a.out.now _ _
    (next_short a.n a.weighted a.t a.query.now a.share0.now a.share1.now a.out.now (byte (goal.at.returns-then-out-next_size c).In_ok-check) (all_well (goal.at.returns-then-out-next_size c).In_ok-check)
    c.count_kept-kept.result c.count_kept-kept.ensures.0 c.prefix_length-len.result c.prefix_length-len.ensures.0
    c.if-len-n.false c.if-kept-lt1.false c.packed_length-2.result (child (goal.at.returns-then-out-next_size c).After-packed_length-2) c.if-out-next_size.true)

pub write_kept-requires-2 : goal.write_kept-requires-2
write_kept-requires-2 c =
    let a = c.args in
    let r = all_well (goal.at.write_kept-requires-2 c).In_ok-check in
    let h = c.write_fields in
    let size =
    children_bytes a.n a.weighted a.t a.query.now a.share0.now a.share1.now a.out.now (byte (goal.at.write_kept-requires-2 c).In_ok-check) (all_well (goal.at.write_kept-requires-2 c).In_ok-check)
    c.count_kept-kept.result c.count_kept-kept.ensures.0 c.prefix_length-len.result c.prefix_length-len.ensures.0
    c.if-len-n.false c.if-kept-lt1.false c.packed_length-2.result (child (goal.at.write_kept-requires-2 c).After-packed_length-2) in record { query_bytes = byte (goal.at.write_kept-requires-2 c).In_ok-check; query_in_bounds = omega (arith, (query-ready a.n a.query.now r.a_query_lem).whole); spares = (query-ready a.n a.query.now r.a_query_lem).no_spares; share_lengths = (r.first, r.second); out_in_bounds = omega (arith, size, simp put_at_length at (ap length h.ensures)) }

pub returns : goal.returns
returns c =
    let a = c.args in
    told_exit a.n a.weighted a.t a.query.now a.share0.now a.share1.now a.out.now _ _
    (next_told a.n a.weighted a.t a.query.now a.share0.now a.share1.now a.out.now (byte (goal.at.returns c).In_ok-check) (all_well (goal.at.returns c).In_ok-check)
    c.count_kept-kept.result c.count_kept-kept.ensures.0 c.prefix_length-len.result c.prefix_length-len.ensures.0
    c.if-len-n.false c.if-kept-lt1.false c.packed_length-2.result (child (goal.at.returns c).After-packed_length-2) c.if-kept-gt65535.false c.if-out-next_size.false _ _
    c.write_fields.ensures c.write_kept-2.ensures)
