-- `query::is_query` meets its contract. Each test that fails is one of the definition's, after those that pass.
use native.Mathlib.Omega.{arith}
use Prim.Native.Nat.{◌*◌, ◌≤◌}
use mathlib.Core.Path.{sym, ap, ◌∙◌}
use mathlib.Core.List.{map}
use Rattle.bits.specs.Packing.{unpack}
use Rattle.query.specs.Query.{spares_zero, is_ascending}
use borrow.Author.Tests.{not-true, not-false}
use Rattle.query.proofs.Check.{few_bytes, whole_parts, Left, too_long, no_prefix, too_many, counted, other_length, spare_set, order_left}
use Rattle.query.proofs.is_query.Goals as goal
use Rattle.query.proofs.is_query.Goals.{After-packed_length-w}

-- the bytes of all prefixes can be counted
few : (c : After-packed_length-w) → c.prefix_count-count.result * c.packed_length-w.result ≤ 1073725440
few c = few_bytes c.prefix_count-count.result c.packed_length-w.result (omega arith) (omega arith)

-- the tests of length and count have passed
left : (c : After-packed_length-w)
    → Left c.args.n c.prefix_length-len.result
    c.prefix_count-count.result c.packed_length-w.result c.args.q.now
left c =
    let a = c.args in
    let len = c.prefix_length-len in
    let m = c.prefix_count-count in
    counted a.n len.result m.result a.q.now len.ensures.0 m.ensures.0 (omega arith) (omega arith) (omega arith)
    c.packed_length-w.result c.packed_length-w.ensures

pub returns-then-n-len : goal.returns-then-n-len
returns-then-n-len c =
    let a = c.args in
    let len = c.prefix_length-len in
    let m = c.prefix_count-count in
    sym (too_long a.n len.result m.result a.q.now len.ensures.0 m.ensures.0 (omega arith))

pub returns-then-count-lt1 : goal.returns-then-count-lt1
returns-then-count-lt1 c =
    let a = c.args in
    let len = c.prefix_length-len in
    let m = c.prefix_count-count in
    sym (no_prefix a.n len.result m.result a.q.now len.ensures.0 m.ensures.0 (omega arith) (omega arith))

pub returns-then-count-gt131070 : goal.returns-then-count-gt131070
returns-then-count-gt131070 c =
    let a = c.args in
    let len = c.prefix_length-len in
    let m = c.prefix_count-count in
    sym (too_many a.n len.result m.result a.q.now len.ensures.0 m.ensures.0 (omega arith) (omega arith) (omega arith))

pub overflow_mul-count : goal.overflow_mul-count
overflow_mul-count c = omega (arith, few c)

pub overflow_add-count : goal.overflow_add-count
overflow_add-count c = omega (arith, few c)

pub returns-then-q-count : goal.returns-then-q-count
returns-then-q-count c = sym (other_length (left (goal.at.returns-then-q-count c).After-packed_length-w) (λ e. omega arith))

pub returns-then-not-spares_zero : goal.returns-then-not-spares_zero
returns-then-not-spares_zero c =
    let a = c.args in
    let w = c.packed_length-w in
    let p = whole_parts c.prefix_length-len.result c.prefix_count-count.result w.result a.q.now w.ensures (omega arith) (omega arith) in
    sym (spare_set (left (goal.at.returns-then-not-spares_zero c).After-packed_length-w) (omega arith)
    (ap (spares_zero c.prefix_length-len.result) (sym p) ∙ sym c.spares_zero.ensures ∙ not-true _ c.if-not-spares_zero.true-raw))

pub in_order-requires : goal.in_order-requires
in_order-requires c = (omega arith, sym c.spares_zero.ensures ∙ not-false _ c.if-not-spares_zero.false-raw)

pub returns : goal.returns
returns c =
    let a = c.args in
    let len = c.prefix_length-len.result in
    let w = c.packed_length-w in
    let p = whole_parts len c.prefix_count-count.result w.result a.q.now w.ensures (omega arith) (omega arith) in
    c.in_order.ensures
    ∙ ap (λ ss. is_ascending (map (unpack len) ss)) p
    ∙ sym (order_left (left (goal.at.returns c).After-packed_length-w) (omega arith)
    (ap (spares_zero len) (sym p) ∙ sym c.spares_zero.ensures ∙ not-false _ c.if-not-spares_zero.false-raw))
