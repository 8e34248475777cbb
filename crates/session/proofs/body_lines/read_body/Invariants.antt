use Rattle.session.specs.Body.{HaveRead}
use Rattle.session.proofs.body_lines.read_body.Given as goal

-- so many lines were read
abbrev pub invariant-loop-read : goal.invariant-loop-read
invariant-loop-read g l = HaveRead l.read (g.R.Read.remaining l.fn.requests) (g.R.Read.remaining l.requests) l.body.items l.known
