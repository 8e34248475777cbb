use Rattle.std.proofs.Common.{map, sym, ap, ◌∙◌}
use Rattle.std.specs.List.{position}
use Rattle.session.specs.Marks.{is_named, mark_of, without}
use Rattle.session.proofs.Kept.{forgotten_at}
use Rattle.session.proofs.marks.Marks.forget.Goals as goal

pub returns-in-Some-clause-gone : goal.returns-in-Some-clause-gone
returns-in-Some-clause-gone c =
    let name = c.args.name.now in
    ap (map mark_of) c.remove.ensures.items
    ∙ (forgotten_at name c.self.inside.list.items c.in-Some.place (ap (position (is_named name)) c.self.view_is ∙ (sym c.place_of.ensures ∙ c.in-Some.is)) ∙ ap (without name) c.self.view_is)
