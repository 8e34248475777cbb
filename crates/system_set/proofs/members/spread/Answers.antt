use Rattle.std.proofs.Common.{sym}
use Rattle.system_set.proofs.Reaching.{sound_at}
use Rattle.system_set.proofs.members.spread.Goals as goal

pub returns : goal.returns
returns c = sound_at c.args.pairs.now c.args.set c.args.marks.now c.args.place (record { first = 0; second = 0 }) c.requires.sound c.requires.known (sym c.if-not-leads.ensures)
