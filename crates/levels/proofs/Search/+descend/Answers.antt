-- `Search::descend` meets its contract: each answer is what the level's lemma says of the totals just written.
use Prim.Native.Nat.{ℕ, ◌+◌, ◌*◌}
use native.Mathlib.Omega.{arith}
use mathlib.Core.Path.{sym, ap, ◌∙◌}
use lib.ListN.{length}
use Rattle.places.proofs.Places.{put_at_length}
use Rattle.levels.proofs.Turn.{Totalled, list_asked, at_last, at_end, not_next, next_asked, level_asked, at_next}
use Rattle.levels.proofs.Search.+descend.Goals as goal
use Rattle.levels.proofs.Search.+descend.Goals.{After-write_totals-kept}

-- the totals of the level are written
totalled : (t : ℕ) (c : After-write_totals-kept t) → let a = c.args in
    Totalled a.self.now a.k a.count a.from a.area.now (a.from + a.count * c.packed_length.result) c.write_totals-kept.new.area c.write_totals-kept.result
totalled t c = record {
  room_lem = c.requires.k_le_n.1;
  at = ap (λ (x : ℕ). c.args.from + c.args.count * x) c.packed_length.ensures;
  written = c.write_totals-kept.ensures.area_after;
  counted = c.write_totals-kept.ensures.value;
}

pub finish-requires : goal.finish-requires
finish-requires t c =
    let asked = list_asked (totalled t (goal.at.finish-requires t c).After-write_totals-kept) c.args.list.now c.requires.packed in
    record { in_bounds = asked.0; packed = asked.1.0; kept_value = asked.1.1 }

pub returns-then-k-n : goal.returns-then-k-n
returns-then-k-n t c =
    at_last (totalled t (goal.at.returns-then-k-n t c).After-write_totals-kept) c.args.list.now (omega (arith, c.if-k-n.true, c.n.ensures)) _ _ _ _ c.finish.ensures

pub returns-then-kept-eq0 : goal.returns-then-kept-eq0
returns-then-kept-eq0 t c = at_end (totalled t (goal.at.returns-then-kept-eq0 t c).After-write_totals-kept) c.args.list.now c.if-kept-eq0.true

pub returns-then-not-next_fits : goal.returns-then-not-next_fits
returns-then-not-next_fits t c =
    not_next (totalled t (goal.at.returns-then-not-next_fits t c).After-write_totals-kept) c.args.list.now
    (omega (arith, c.if-k-n.false, c.n.ensures, c.requires.k_le_n.0)) c.if-kept-eq0.false _ (ap length c.write_totals-kept.ensures.area_after ∙ put_at_length _ _ _)
    (sym c.next_fits.ensures ∙ c.if-not-next_fits.true)

pub write_next-requires-clause-kept_value : goal.write_next-requires-clause-kept_value
write_next-requires-clause-kept_value t c =
    (next_asked (totalled t (goal.at.write_next-requires-clause-kept_value t c).After-write_totals-kept) c.args.list.now
    (omega (arith, c.if-k-n.false, c.n.ensures, c.requires.k_le_n.0)) c.if-kept-eq0.false _ (ap length c.write_totals-kept.ensures.area_after ∙ put_at_length _ _ _)
    (sym c.next_fits.ensures ∙ c.if-not-next_fits.false) (omega arith)).1

pub descend-requires : goal.descend-requires
descend-requires t c = (
  omega (arith, c.if-k-n.false, c.n.ensures, c.requires.k_le_n.0, c.decreases),
  level_asked (totalled t (goal.at.descend-requires t c).After-write_totals-kept) c.args.list.now
      (omega (arith, c.if-k-n.false, c.n.ensures, c.requires.k_le_n.0)) c.if-kept-eq0.false _ (ap length c.write_totals-kept.ensures.area_after ∙ put_at_length _ _ _)
      (sym c.next_fits.ensures ∙ c.if-not-next_fits.false) _ c.write_next.ensures,
)

pub returns : goal.returns
returns t c =
    at_next (totalled t (goal.at.returns t c).After-write_totals-kept) c.args.list.now
    (omega (arith, c.if-k-n.false, c.n.ensures, c.requires.k_le_n.0)) c.if-kept-eq0.false _ (ap length c.write_totals-kept.ensures.area_after ∙ put_at_length _ _ _)
    (sym c.next_fits.ensures ∙ c.if-not-next_fits.false) _ c.write_next.ensures _ _ _ _ _ c.descend.ensures
