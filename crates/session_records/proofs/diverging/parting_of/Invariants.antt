use Rattle.std.proofs.Common.{◌≡◌, map, take, Some}
use Rattle.engine.specs.Meanings.{AreFit}
use Rattle.findings.proofs.Partings.{IsSoFar}
use Rattle.program.specs.Setup.{meanings_of_scripts, script_suits}
use Rattle.session.specs.Live.{state_in}
use Rattle.session_records.specs.Diverging.{AreRetaken, IsRetaken, meant}
use Rattle.session_records.proofs.diverging.parting_of.Given as goal

-- the entries so far are taken again, by scripts that mean what they meant, and what is told is so
abbrev pub invariant-loop-place : goal.invariant-loop-place
invariant-loop-place l = record {
  schedule : l.session.engine.schedule ≡ l.fn.one.session.engine.schedule;
  fit : AreFit script_suits l.fn.one.session.engine.schedule (map Some l.scripts);
  means : meanings_of_scripts l.fn.one.session.engine.schedule l.scripts ≡ meant l.fn.one;
  schedule_beside : l.session_beside.engine.schedule ≡ l.fn.other.session.engine.schedule;
  fit_beside : AreFit script_suits l.fn.other.session.engine.schedule (map Some l.scripts_beside);
  means_beside : meanings_of_scripts l.fn.other.session.engine.schedule l.scripts_beside ≡ meant l.fn.other;
  ran : AreRetaken (meant l.fn.one) l.fn.one.session (take l.place l.entries) l.session;
  ran_beside : AreRetaken (meant l.fn.other) l.fn.other.session (take l.place l.others) l.session_beside;
  told : IsSoFar (IsRetaken (meant l.fn.one)) (IsRetaken (meant l.fn.other)) state_in l.fn.one.session l.fn.other.session l.entries l.others l.place l.session l.session_beside l.told;
}
