-- `report_sums::reports::Server::sums` meets its contract.
use mathlib.Core.Path.{◌≡◌, sym, ap, ◌∙◌}
use mathlib.Core.Bool.{true, false}
use mathlib.Core.List.{List}
use Prim.Native.Nat.{ℕ}
use native.Mathlib.Omega.{arith}
use Rattle.bits.specs.Packing.{bits_of}
use Rattle.group.specs.Modular.{field}
use Rattle.point.specs.Evaluation.{bit_of}
use Rattle.report_sums.specs.Reports.{counts, sum_where, lent_share, server_sum}
use Rattle.report_sums.proofs.Lent.{sum_none, sum_more}
use Rattle.report_sums.proofs.reports.Server.sums.Goals as goal
use Rattle.report_sums.proofs.reports.Server.sums.Goals.{Start, then-counts, else-counts}

-- a server's share of each report, at a packed prefix
abbrev part : Start → List ℕ → ℕ → ℕ
part s prefix = lent_share s.args.self.expander s.args.self.n s.args.self.server s.args.self.seeds.now s.args.self.public_shares.now (bit_of (bits_of prefix)) s.args.k

pub loop-i-init : goal.loop-i-init
loop-i-init c =
    let test = counts c.args.marks.now in
    let s = (goal.at.loop-i-init c).Start in
    record { first = sum_none test (part s c.args.first.now); second = sum_none test (part s c.args.second.now) }

pub loop-i-preserved : goal.loop-i-preserved
loop-i-preserved c =
    let test = counts c.args.marks.now in
    let s = (goal.at.loop-i-preserved c).Start in
    let l = c.loop-i in
    elim c.if-counts.branch [
      | then-counts w ↦
          let on : test l.i ≡ true = sym c.counts.ensures ∙ w.if-counts.true in
          record {
            first = sum_more test (part s c.args.first.now) l.i l.invariant.first (rw on (ap (λ (t : ℕ × ℕ). t.0) w.sums-is ∙ w.add.ensures.0 ∙ ap (field.add l.sums.0) w.lent_shares-lent.ensures.first_value));
            second = sum_more test (part s c.args.second.now) l.i l.invariant.second (rw on (ap (λ (t : ℕ × ℕ). t.1) w.sums-is ∙ w.add-then-counts.ensures.0 ∙ ap (field.add l.sums.1) w.lent_shares-lent.ensures.second_value));
          }
      | else-counts w ↦
          let off : test l.i ≡ false = sym c.counts.ensures ∙ w.if-counts.false in
          record {
            first = sum_more test (part s c.args.first.now) l.i l.invariant.first (rw off (ap (λ (t : ℕ × ℕ). t.0) w.sums-is));
            second = sum_more test (part s c.args.second.now) l.i l.invariant.second (rw off (ap (λ (t : ℕ × ℕ). t.1) w.sums-is));
          }
    ]

pub returns : goal.returns
unfolding server_sum
returns c =
    let test = counts c.args.marks.now in
    let s = (goal.at.returns c).Start in
    let whole : c.loop-i.i ≡ c.report_count-count.result = omega arith in
    let count = whole ∙ c.report_count-count.ensures in
    record {
      first_value = c.loop-i.invariant.first ∙ ap (λ (m : ℕ). sum_where field test m (part s c.args.first.now)) count;
      second_value = c.loop-i.invariant.second ∙ ap (λ (m : ℕ). sum_where field test m (part s c.args.second.now)) count;
    }
