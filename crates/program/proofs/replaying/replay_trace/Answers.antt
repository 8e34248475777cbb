use Rattle.std.proofs.Common.{List, map, Some, sym, subst, arith}
use Rattle.script.specs.declared.script_body.ScriptBody.{ScriptBody}
use Rattle.engine.specs.Meanings.{Suits}
use Rattle.program.specs.Setup.{script_suits}
use Rattle.program.proofs.Replays.{fitting-count}
use Rattle.program.proofs.Serving.{scripts-suit}
use Rattle.program.proofs.replaying.replay_trace.Goals as goal

-- the scripts suit the first state
pub replay_runs-requires : goal.replay_runs-requires
replay_runs-requires g c =
    subst (λ (scripts : List ScriptBody). Suits script_suits c.args.built.now (map Some scripts) c.in_ok-first.first) (sym c.as_mut_slice.ensures.value)
    (scripts-suit c.args.built.now c.args.bodies.items c.in_ok-world.world.state c.in_ok-first.first c.requires c.in_ok-first.ensures)

-- so many runs as have numbers of 32 bits
pub overflow_cast-len : goal.overflow_cast-len
overflow_cast-len g c =
    let within = fitting-count c.in_ok-traces.traces.items c.in_ok-traces.ensures.fitting in
    let length_is = c.in_ok-traces.traces.ok.0 in
    omega arith
