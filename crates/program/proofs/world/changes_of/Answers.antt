use Rattle.std.proofs.Common.{◌<◌, length, map, ap, ◌∙◌, refl, arith}
use Rattle.std.proofs.lemmas.List.{get_or_default}
use Rattle.model.specs.state.State.{Slot}
use Rattle.model.specs.state.State.Status.{Living}
use Rattle.model.specs.state.Loaded.{row_given}
use Rattle.program.specs.Load.{given_of}
use Rattle.program.proofs.LoadedWorlds.{given-next, given-all}
use Rattle.program.proofs.world.changes_of.Goals as goal

pub loop-index-preserved : goal.loop-index-preserved
loop-index-preserved c =
    let row = c.in_ok-row_of.ensures ∙ ap (λ vs. row_given (map given_of vs)) c.as_slice.ensures.value in
    let low : c.loop-index.index < length c.args.ids.now = (let many = c.requires in let l = c.loop-index-test.true in omega arith) in
    given-next c.loop-index.index c.args.ids.now c.args.entities.now c.loop-index.changes.items c.push.new.self.items _ c.index-entities-index.result _ c.loop-index-test.true c.requires
    (get_or_default c.args.ids.now c.loop-index.index _ _ low) c.index-entities-index.is c.loop-index.invariant
    (record { entity = refl; row = row; left = λ slot. ap (λ r. (let s : Slot = record { generation = slot.generation; status = Living; row = r } in s)) row })
    c.in_ok-push.ensures.items

pub returns : goal.returns
returns c = given-all c.loop-index.index c.args.ids.now c.args.entities.now c.loop-index.changes.items c.loop-index-test.false c.requires c.loop-index.invariant
