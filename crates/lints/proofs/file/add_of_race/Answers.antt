use Rattle.std.proofs.Common.{◌≡◌, ◌<◌, ℕ, not, List, get_or, length}
use Rattle.std.proofs.lemmas.List.{get_or_default}
use Rattle.ambiguity_report.specs.declared.report.Pair.{Pair}
use Rattle.lints.specs.Collected.{Tested}
use Rattle.lints.specs.Lints.{IsOfRace}
use Rattle.lints.specs.declared.lint.Lint.TheVariants as lint
use Rattle.lints.proofs.Growing.{adds_at}
use Rattle.lints.proofs.file.add_of_race.Goals as goal

-- an element, by any other
same_at : (pairs : List Pair) (n : ℕ) (d : Pair) → n < length pairs → get_or pairs n d ≡ get_or pairs n (get_or pairs n d)
same_at pairs n d within = get_or_default pairs n d (get_or pairs n d) within

pub returns : goal.returns
unfolding IsOfRace
returns c = adds_at (λ pair. Tested (not pair.silenced) (lint.Race pair)) c.args.pairs.now c.args.number _ _ _ c.requires (same_at c.args.pairs.now c.args.number _ c.requires) c.in_ok-add_where.ensures
