use Rattle.std.proofs.Common.{◌≡◌, map, Some}
use Rattle.engine.specs.Meanings.{AreFit}
use Rattle.program.specs.Setup.{meanings_of_scripts, script_suits}
use Rattle.session_records.proofs.Telling.{IsToldSoFar}
use Rattle.session_records.proofs.stories.story_of_record.Given as goal

-- the entries so far were taken again and told, by scripts that mean what they meant
abbrev pub invariant-loop-before : goal.invariant-loop-before
invariant-loop-before l = record {
  told : IsToldSoFar (meanings_of_scripts l.fn.session.engine.schedule l.fn.bodies) l.fn.asked l.fn.session l.session l.journal l.rest l.before l.story;
  schedule : l.session.engine.schedule ≡ l.fn.session.engine.schedule;
  fit : AreFit script_suits l.fn.session.engine.schedule (map Some l.bodies);
  meant : meanings_of_scripts l.fn.session.engine.schedule l.bodies ≡ meanings_of_scripts l.fn.session.engine.schedule l.fn.bodies;
}
