-- `exam_reports::reports::write_key` meets its contract: what the key maker writes into the part that it is lent is put at its place.
use Rattle.point.specs.PublicShare.{public_share_length}
use Rattle.std.proofs.Common.{◌≡◌, ◌∙◌, ℕ, List, refl, Result, Ok, Err}
use Rattle.calls.specs.Outcome.{Exit, answered}
use Rattle.calls.specs.declared.Refusal.{Refusal}
use lib.IntN.{pos}
use Rattle.keymaker.specs.Key.{key_outcome}
use Rattle.exam_reports.proofs.PiecesPut.{part_put}
use mathlib.Core.Path.{ap}
use Rattle.exam_reports.proofs.reports.write_key.Goals as goal

-- the space that a call leaves, whatever it returns
area_left : (r : Result ℕ Refusal) (area : List ℕ) → area ≡ (answered r area).area
area_left (Ok n) area = refl
area_left (Err e) area = refl

pub returns : goal.returns
returns c =
    let a = c.args in
    part_put a.shares.now a.at (public_share_length a.n) c.public_share_length.result
    (λ room. (key_outcome a.n a.expander (pos 1) a.string.now a.seed0.now a.seed1.now room).written)
    c.make_key.new.out c.public_share_length.ensures c.requires.0 c.requires.1 (area_left _ _ ∙ ap (λ (x : Exit). x.area) (rw c.from.ensures at c.make_key.ensures))
