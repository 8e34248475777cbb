use Rattle.number_set.proofs.Bits.{put_contains}
use Rattle.number_set.proofs.number_set.put.Goals as goal

pub returns : goal.returns
returns c = λ n. put_contains c.args.words.now c.args.number n c.requires
