use Rattle.std.proofs.Common.{take}
use Rattle.std.specs.List.{AllByRecursion}
use Rattle.body.specs.Steps.{HasShape}
use Rattle.session.specs.declared.marks.Mark.{Mark}
use Rattle.session.proofs.marks.Marks.prove_shapes.Given as goal

abbrev pub invariant-loop-mark : goal.invariant-loop-mark
invariant-loop-mark l = AllByRecursion (λ (mark : Mark). HasShape mark.state) (take l.mark-index l.mark-items)
