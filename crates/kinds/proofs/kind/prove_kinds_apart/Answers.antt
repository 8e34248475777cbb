use Rattle.kinds.proofs.Names.{numbers_apart, names_apart}
use Rattle.kinds.proofs.Numbers.{number_below}
use Rattle.kinds.proofs.kind.prove_kinds_apart.Goals as goal

pub returns : goal.returns
returns c = record {
  below = number_below;
  numbers = numbers_apart;
  names = names_apart;
}
