use Rattle.body.proofs.Keeps.{keeps_untouched}
use Rattle.calls.proofs.BodiesWithin.{answered_keeps, refused_keeps, tallied_keeps}
use Rattle.calls.proofs.tests.bodies.TestBodyBody.fits.Goals as goal

pub returns-in-Answer-clause-keeps : goal.returns-in-Answer-clause-keeps
returns-in-Answer-clause-keeps c = λ yes. rw c.in-Answer.is (answered_keeps c.args.params.now _)

pub returns-then-writes_resource-clause-keeps : goal.returns-then-writes_resource-clause-keeps
returns-then-writes_resource-clause-keeps c = λ yes. rw c.in-Tally.is (tallied_keeps c.args.params.now)

pub returns-in-Refuse-clause-keeps : goal.returns-in-Refuse-clause-keeps
returns-in-Refuse-clause-keeps c = λ yes. rw c.in-Refuse.is (refused_keeps c.args.params.now)

pub returns-in-Watch-clause-keeps : goal.returns-in-Watch-clause-keeps
returns-in-Watch-clause-keeps c = λ yes. rw c.in-Watch.is (keeps_untouched c.args.params.now)

pub returns-in-Meet-clause-keeps : goal.returns-in-Meet-clause-keeps
returns-in-Meet-clause-keeps c = λ yes. rw c.in-Meet.is (keeps_untouched c.args.params.now)
