use Rattle.calls.proofs.tests.bodies.TestBodyBody.run.Goals as goal

pub returns-in-Follow-clause-same_meaning : goal.returns-in-Follow-clause-same_meaning
returns-in-Follow-clause-same_meaning c = rw c.in-Follow.is c.run.ensures.same_meaning

pub returns-in-Follow-clause-same_fit : goal.returns-in-Follow-clause-same_fit
returns-in-Follow-clause-same_fit c = rw c.in-Follow.is c.run.ensures.same_fit
