use Rattle.explaining.proofs.Nearest.{near_of}
use Rattle.explaining.proofs.names.similar.Goals as goal

-- the nearest of the names
pub returns-then-nearest-most : goal.returns-then-nearest-most
returns-then-nearest-most c = near_of c.args.word.now c.args.names.now c.in_ok-nearest.nearest _ c.in_ok-nearest.ensures
