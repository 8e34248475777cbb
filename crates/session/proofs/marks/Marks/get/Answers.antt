use Rattle.std.proofs.Common.{Some, sym, ap, ◌∙◌}
use Rattle.std.specs.List.{position}
use Rattle.session.specs.Marks.{is_named, kept_at}
use Rattle.session.specs.declared.marks.Mark.{Mark}
use Rattle.session.proofs.Kept.{kept_nowhere, kept_there}
use Rattle.session.proofs.marks.Marks.get.Goals as goal

pub returns-in-Some : goal.returns-in-Some
returns-in-Some c =
    let name = c.args.name.now in
    let at = ap (position (is_named name)) c.self.view_is ∙ (sym c.place_of.ensures ∙ c.in-Some.is) in
    ap (λ (mark : Mark). Some mark.state) c.index.ensures ∙ (sym (kept_there name c.self.inside.list.items c.in-Some.place _ at) ∙ ap (kept_at name) c.self.view_is)

pub returns-in-None : goal.returns-in-None
returns-in-None c = sym (kept_nowhere c.args.name.now c.args.self.now (sym c.place_of.ensures ∙ c.in-None.is))
