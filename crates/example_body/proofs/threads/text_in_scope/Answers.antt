use Rattle.std.proofs.Common.{refl}
use denote.Param.Send.{sendable}
use Rattle.example_body.proofs.threads.text_in_scope.Goals as goal

-- the body, the line and the gate may be sent, and the gate shared
pub run-requires : goal.run-requires
run-requires g c = λ lifetimes.
    (search sendable depth 40, (search sendable depth 40, (search sendable depth 40, (search sendable depth 40, (refl, tt)))))
