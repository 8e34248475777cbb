use Rattle.std.proofs.Common.{rules, map, ap, ◌∙◌}
use Rattle.std.proofs.lemmas.List.{take_all}
use Rattle.model.specs.sessions.Inputs.{row_at_tick}
use Rattle.archetype_store.specs.Row.{component_of}
use Rattle.body.specs.Inputs.{given_by}
use Rattle.body.proofs.NewEntities.{row-next}
use Rattle.body.proofs.open_state.input.row_at.Goals as goal

pub loop-value-preserved : goal.loop-value-preserved
loop-value-preserved c =
    row-next c.args.tick c.loop-value.value-index c.args.values.now _ (map component_of c.loop-value.row.items) (map component_of c.put_component.new.components.items) c.loop-value-test.true
    (search rules) c.loop-value.invariant c.in_ok-put_component.ensures

pub returns : goal.returns
returns c = c.loop-value.invariant ∙ ap (λ vs. row_at_tick c.args.tick (map given_by vs)) (take_all c.loop-value.value-index c.args.values.now c.loop-value-test.false)
