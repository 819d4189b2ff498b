-- `levels::children::write_next` meets its contract: the two fields, and after them the children.
use Rattle.kept.specs.Kept.{reaches_by}
use Rattle.levels.proofs.Asking.{children_room, next_put}
use Rattle.levels.proofs.children.write_next.Goals as goal

pub write_children-requires-clause-at_in_bounds : goal.write_children-requires-clause-at_in_bounds
write_children-requires-clause-at_in_bounds c =
    let a = c.args in
    let v = a.level in
    children_room (reaches_by a.rule) v.k a.area.now v.count v.from v.place a.at a.kept c.requires.before.1 c.requires.before.2 c.requires.kept_value.0 c.requires.kept_value.1 _
    c.write_fields.ensures

pub returns : goal.returns
returns c =
    let a = c.args in
    let v = a.level in
    next_put (reaches_by a.rule) v.k a.area.now v.count v.from v.place a.at a.kept c.requires.before.1 c.requires.before.2 c.requires.kept_value.0 c.requires.kept_value.1 _
    c.write_fields.ensures _ c.write_children.ensures
