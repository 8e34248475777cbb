use Rattle.std.proofs.Common.{refl}
use Rattle.script.proofs.operands.with_bit.Goals as goal

pub returns : goal.returns
returns c = refl
