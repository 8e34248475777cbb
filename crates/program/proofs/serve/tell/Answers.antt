use Rattle.std.proofs.Common.{inl, inr, ◌∙◌, subst}
use Rattle.program.specs.Served.{HasGainedFront}
use Rattle.program.proofs.serve.tell.Goals as goal

-- what was told is the line of the fault
pub returns-in-Ok : goal.returns-in-Ok
returns-in-Ok g c =
    inl (c.status.ensures, subst (λ line. HasGainedFront (g.E.Write.contents c.args.faults.now, g.E.Write.contents c.tell_line.new.faults) line) (c.as_str.ensures.value ∙ c.in-Ok.ensures) c.tell_line.ensures)

-- or that an allocation failed
pub returns-in-Err : goal.returns-in-Err
returns-in-Err g c = inr (c.status-in-Err.ensures, c.tell_line-in-Err.ensures)
