-- What a recorded run leaves that is taken again agrees with what any run leaves.
use Rattle.std.proofs.Common.{List, map, Some}
use Rattle.model.specs.access.Access.{Params}
use Rattle.model.specs.state.State.{State}
use Rattle.model.specs.state.Agreement.{AgreesWithAll}
use Rattle.model.specs.shown.Outcome.{BodyMeaning}
use Rattle.model.specs.steps.Built.{IsBuilt}
use Rattle.model.specs.steps.Schedule.{Schedule, Recorded, recording}
use Rattle.model.specs.runs.Replays.{IsReplayed}
use Rattle.model.proofs.agreement.OneWithAll.{replayed_run_agrees}
use Rattle.kinds.specs.Components.{widths}
use Rattle.body.specs.Steps.{HasShape}
use Rattle.engine.specs.Meanings.{meanings, AllKeepWithin, HasMemories}
use Rattle.engine.proofs.RunAgreement.{state_of_schedule}
use Rattle.engine.proofs.BodiesWithin.{bodies_keep}

pub replay_agrees : {B : Type 0} (meaning : B → Params → BodyMeaning) (s : Schedule) (bodies : List B) (w : State) (r : Recorded) (deferred : State) → IsBuilt s → HasMemories s w → HasShape w →
    AllKeepWithin s (meanings meaning s (map Some bodies)) → IsReplayed (recording s r.sets) (meanings meaning s (map Some bodies)) w r.steps deferred → AgreesWithAll widths s (meanings meaning s (map Some bodies)) w 1 deferred
replay_agrees meaning s bodies w r deferred built has shape keep is =
    let means = meanings meaning s (map Some bodies) in
    replayed_run_agrees widths s means w r deferred built (bodies_keep s means keep) (state_of_schedule s w has shape) is
