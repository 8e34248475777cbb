use Rattle.std.proofs.Common.{arith, ◌≤◌, length}
use Rattle.job_board.proofs.Stacks.{pigeonhole}
use Rattle.job_board.proofs.lead.Lead.prove_law.Goals as goal

pub returns-clause-counts : goal.returns-clause-counts
returns-clause-counts g c = let it = c.args.self.now in let few : length it.seat.me.0.free ≤ it.slots = pigeonhole it.slots it.seat.me.0.free it.stack.3 it.stack.4 in (omega (arith, it.counted.0, it.counted.2), omega (arith, it.counted.0, it.counted.1))
