use Rattle.std.proofs.Common.{refl, sym, ap, ◌∙◌}
use Rattle.std.specs.List.{position}
use Rattle.session.specs.Marks.{is_named, with_mark}
use Rattle.session.proofs.Kept.{kept_over}
use Rattle.session.proofs.marks.Marks.keep.Goals as goal

pub returns-in-Some-clause-ok : goal.returns-in-Some-clause-ok
returns-in-Some-clause-ok c =
    let name = c.args.name.now in
    kept_over name c.args.state c.self.inside.list.items c.in-Some.place _ c.in_ok-from_str.ensures.ok refl (ap (position (is_named name)) c.self.view_is ∙ (sym c.place_of.ensures ∙ c.in-Some.is)) ∙ ap (with_mark name c.args.state) c.self.view_is
