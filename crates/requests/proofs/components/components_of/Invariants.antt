use Rattle.std.proofs.Common.{◌-◌, length, map}
use Rattle.body.specs.Inputs.{given_by}
use Rattle.requests.proofs.ComponentTexts.{HasRead}
use Rattle.requests.proofs.components.components_of.Given as goal

-- the first of the words were read
abbrev pub invariant-loop-taken : goal.invariant-loop-taken
invariant-loop-taken l = HasRead (map (λ word. word.now) l.words) l.taken (map given_by l.values.items)

abbrev pub decreases-loop-taken : goal.decreases-loop-taken
decreases-loop-taken l = length l.words - l.taken
