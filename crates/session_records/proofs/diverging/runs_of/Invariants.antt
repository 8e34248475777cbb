use Rattle.std.proofs.Common.{◌≡◌, flat_map}
use Rattle.session.specs.Records.{traces_in}
use Rattle.session_records.proofs.diverging.runs_of.Given as goal

-- the traces of the entries so far
abbrev pub invariant-loop-entry : goal.invariant-loop-entry
invariant-loop-entry l = l.runs.items ≡ flat_map (λ entry. traces_in entry.deed) l.yielded
