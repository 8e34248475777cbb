use Rattle.std.proofs.Common.{ℕ, pos, List, replicate, sym, ◌∙◌, ap}
use Rattle.kinds.specs.Res.{event_number}
use Rattle.model.specs.state.State.{Memory, register_count}
use Rattle.body.proofs.States.{zeros}
use Rattle.body.proofs.memory.Memory.with_readers.Goals as goal

pub returns : goal.returns
returns c = ap (λ (cursors : List ℕ). let m : Memory = record { last_run = 0; cursors = cursors; registers = replicate register_count (pos 0) } in m)
    (c.in_ok-zeros.ensures ∙ sym (zeros event_number c.args.reads.now))
