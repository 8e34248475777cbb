use Rattle.std.proofs.Common.{rules, map, ap, ◌∙◌}
use Rattle.std.proofs.lemmas.List.{take_all}
use Rattle.model.specs.state.Loaded.{row_given}
use Rattle.archetype_store.specs.Row.{component_of}
use Rattle.program.specs.Load.{given_of}
use Rattle.program.proofs.LoadedWorlds.{row-next}
use Rattle.program.proofs.world.row_of.Goals as goal

pub loop-value-preserved : goal.loop-value-preserved
loop-value-preserved c =
    row-next c.loop-value.value-index c.args.values.now _ (map component_of c.loop-value.row.items) (map component_of c.put_component.new.components.items) c.loop-value-test.true
    (search rules) c.loop-value.invariant c.in_ok-put_component.ensures

pub returns : goal.returns
returns c = c.loop-value.invariant ∙ ap (λ vs. row_given (map given_of vs)) (take_all c.loop-value.value-index c.args.values.now c.loop-value-test.false)
