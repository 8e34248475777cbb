use Rattle.std.proofs.Common.{rules}
use Rattle.body.specs.Steps.{store_of}
use Rattle.body.proofs.Outs.{none-out}
use Rattle.findings.proofs.worlds.worlds_of.Goals as goal

pub worlds_in-requires-clause-stands : goal.worlds_in-requires-clause-stands
worlds_in-requires-clause-stands g c κs within = record {
  suits = search rules;
  out = none-out (store_of c.into_open.result) c.into_open.ensures.home;
  deferred_for = search rules;
  nothing = search rules;
}
