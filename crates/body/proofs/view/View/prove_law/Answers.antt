use Rattle.std.proofs.Common.{length, sym, ap, ◌∙◌}
use Rattle.std.proofs.lemmas.List.{length-map}
use Rattle.body.specs.Seen.{Seen}
use Rattle.body.specs.Sheet.{Sheet}
use Rattle.body.proofs.view.View.prove_law.Goals as goal

pub returns-clause-rows : goal.returns-clause-rows
returns-clause-rows c =
    let queries = c.self.inside.queries.items in
    ap (λ (s : Seen). length s.shown.rows) (sym c.self.view_is)
    ∙ length-map queries (λ (q : Sheet). q.rows) ∙ sym (length-map queries (λ (q : Sheet). q.terms))
    ∙ ap (λ (s : Seen). length s.params.queries) c.self.view_is
