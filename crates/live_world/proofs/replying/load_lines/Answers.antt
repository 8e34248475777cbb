use Rattle.std.proofs.Common.{refl}
use Rattle.session.proofs.LoadReplies.{answered}
use Rattle.live_world.proofs.replying.load_lines.Goals as goal

pub returns : goal.returns
returns c = answered c.args.session.now c.args.load c.args.text.now c.args.text.now c.load.result c.load.new.self refl c.load.ensures
