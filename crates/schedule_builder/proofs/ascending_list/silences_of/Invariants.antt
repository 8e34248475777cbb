use Rattle.schedule_builder.specs.Asked.{AreSilences}
use Rattle.schedule_builder.proofs.ascending_list.silences_of.Given as goal

abbrev pub invariant-loop-system : goal.invariant-loop-system
invariant-loop-system l = AreSilences l.system l.pairs l.lists.items
