use Rattle.std.proofs.Common.{ℕ, ◌<◌, length, rules}
use Rattle.std.proofs.lemmas.Bool.{both_ways}
use Rattle.ambiguity_report.specs.declared.races.Racer.{Racer}
use Rattle.ambiguity_report.specs.Races.{IsRace}
use Rattle.ambiguity_report.proofs.Settling.{settled_from, settled-apart}
use Rattle.ambiguity_report.proofs.report.is_settled.Goals as goal
use Rattle.ambiguity_report.proofs.report.is_settled.Goals.{Else-has_races}

-- nothing races with a system
apart : (c : Else-has_races) → (r : Racer) (n : ℕ) → n < length c.args.built.now.systems → IsRace c.args.built.now r n → ⊥
apart c r n known race = both_ways c.has_races.result c.if-has_races.false (c.has_races.ensures.1 (n, known, (r, race)))

pub returns-then-has_races : goal.returns-then-has_races
returns-then-has_races c = (
  (λ e. cc),
  (λ settled. let found = c.has_races.ensures.0 c.if-has_races.true in absurd (settled-apart c.args.built.now settled found.2.0 found.0 found.2.1)),
)

pub returns-then-not-has_spawners : goal.returns-then-not-has_spawners
returns-then-not-has_spawners c = (
  (λ e. settled_from c.args.built.now (apart (goal.at.returns-then-not-has_spawners c).Else-has_races)
      (λ n known spawns. absurd (both_ways c.has_spawners.result c.if-not-has_spawners.true (c.has_spawners.ensures.1 (n, known, spawns))))),
  (λ settled. search rules),
)

pub returns : goal.returns
returns c = (
  (λ e. settled_from c.args.built.now (apart (goal.at.returns c).Else-has_races) (λ n known spawns. c.is_unfiltered.ensures.0 e)),
  (λ settled.
      let found = c.has_spawners.ensures.0 c.if-not-has_spawners.false in
      c.is_unfiltered.ensures.1 (settled.unfiltered found.0 found.1 found.2)),
)
