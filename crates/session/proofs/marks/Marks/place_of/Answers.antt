use Rattle.std.proofs.Common.{sym, ap, ◌∙◌}
use Rattle.std.specs.List.{position}
use Rattle.session.specs.Marks.{is_named, mark_of}
use Rattle.session.proofs.Kept.{position-map}
use Rattle.session.proofs.marks.Marks.place_of.Goals as goal

pub returns : goal.returns
returns c =
    let name = c.args.name.now in
    c.place_in.ensures
    ∙ (ap (position (λ mark. is_named name (mark_of mark))) c.as_slice.ensures.value
    ∙ (sym (position-map (is_named name) mark_of c.self.inside.list.items) ∙ ap (position (is_named name)) c.self.view_is))
