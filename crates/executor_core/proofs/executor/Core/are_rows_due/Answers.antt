use Rattle.std.proofs.Common.{Bool, sym, ap, ◌∙◌}
use Rattle.executor_core.specs.Stands.{Stand, due_of}
use Rattle.executor_core.proofs.executor.Core.are_rows_due.Goals as goal

pub returns : goal.returns
returns c = λ due. (c.self.inside.due.items, ap (λ (s : Stand). s.due) (sym c.self.view_is) ∙ ap (λ (is : Bool). due_of is c.self.inside.due.items) due)
