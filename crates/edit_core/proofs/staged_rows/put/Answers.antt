use Rattle.std.proofs.Common.{◌≡◌, ◌+◌, ◌∙◌, List, set, map, ap, add-one}
use Rattle.std.proofs.lemmas.List.{map-set}
use Rattle.std.specs.Arc.{arc_value}
use Rattle.solid_base.specs.declared.entities.Entity.{Entity}
use Rattle.edit_core.specs.Placing.{filled, put}
use Rattle.edit_core.proofs.Placing.{put_is}
use Rattle.edit_core.proofs.staged_rows.put.Goals as goal

pub returns : goal.returns
returns c =
    let rows = map arc_value c.args.items.now.items in
    let last : set (filled rows (c.args.place + 1)) c.args.place c.args.entity ≡ put rows c.args.place c.args.entity = rw add-one (put_is rows c.args.place c.args.entity) in
    map-set arc_value c.fill.new.items.items c.args.place c.in_ok-items.field-0
    ∙ ap (λ (more : List Entity). set more c.args.place (arc_value c.in_ok-items.field-0)) c.in_ok-fill.ensures
    ∙ ap (λ (e : Entity). set (filled rows (c.args.place + 1)) c.args.place e) c.in_ok-items.ensures.ok
    ∙ last
