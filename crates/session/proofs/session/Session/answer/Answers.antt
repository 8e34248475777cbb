use Rattle.std.proofs.Common.{refl}
use Rattle.requests.specs.Asked.{asked_of}
use denote.Param.Send.{sendable}
use Rattle.session.proofs.AnyMode.{answer_in, no_runs_of}
use Rattle.session.proofs.session.Session.answer.Goals as goal

pub run-requires : goal.run-requires
run-requires g c = λ lifetimes. (search sendable depth 40, (search sendable depth 40, (search sendable depth 40, (search sendable depth 40, (refl, tt)))))
