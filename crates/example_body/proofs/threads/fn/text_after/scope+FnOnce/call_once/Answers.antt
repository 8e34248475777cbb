use denote.Param.Send.{sendable}
use Rattle.example_body.proofs.threads.fn.text_after.scope+FnOnce.call_once.Goals as goal

-- the runtime and the body may be sent, and the runtime shared
pub scope-requires : goal.scope-requires
scope-requires g c = (search sendable depth 40, (search sendable depth 40, search sendable depth 40))
