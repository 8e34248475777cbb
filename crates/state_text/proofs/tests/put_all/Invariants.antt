use Rattle.archetype_store.specs.Layout.{AreAllHome}
use Rattle.state_text.proofs.tests.put_all.Given as goal

-- all columns are at home
abbrev pub invariant-loop-input : goal.invariant-loop-input
invariant-loop-input l = AreAllHome l.state.layout
