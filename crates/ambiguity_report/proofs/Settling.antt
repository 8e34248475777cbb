-- When a schedule is settled.
use Rattle.std.proofs.Common.{ℕ, ◌<◌, ◌≡◌, ◌≢◌, ◌↔◌, inl, inr, length, Bool, true, false, sym, arith}
use Rattle.std.specs.Option.{is_some}
use Rattle.std.proofs.lemmas.Bool.{cases_lt, both_ways}
use Rattle.std.proofs.lemmas.Bool.Decides.{eqb_tells}
use Rattle.model.specs.steps.Schedule.{Schedule, params_of}
use Rattle.model.specs.steps.Ambiguity.{AmbiguousSystems, HasNoFilter, Settled}
use Rattle.model.proofs.serial.Conflicts.{conflict_swap}
use Rattle.ambiguity_report.specs.declared.races.Racer.{Racer}
use Rattle.ambiguity_report.specs.declared.races.Racer.TheVariants.{System, Condition}
use Rattle.ambiguity_report.specs.Races.{IsRace}

-- systems that race do so from either side
ambiguous_swap : (s : Schedule) (m n : ℕ) → AmbiguousSystems s m n → AmbiguousSystems s n m
ambiguous_swap s m n a = record {
  first_known = a.second_known;
  second_known = a.first_known;
  differ = λ e. a.differ (sym e);
  conflict = conflict_swap (params_of s m) (params_of s n) a.conflict;
  not_before = a.not_after;
  not_after = a.not_before;
}

-- a schedule is settled where nothing races with a system and, where one has commands, there is no filter
pub settled_from : (s : Schedule) → ((r : Racer) (n : ℕ) → n < length s.systems → IsRace s r n → ⊥) →
    ((n : ℕ) → n < length s.systems → is_some (params_of s n).spawns ≡ true → HasNoFilter s) → Settled s
settled_from s none unfiltered = record {
  systems = apart;
  conditions = λ c n a. none (Condition c) n a.system_known a;
  unfiltered = unfiltered;
}
  where
    apart : (m n : ℕ) → AmbiguousSystems s m n → ⊥
    apart m n a = elim (eqb_tells m n) [
      | inl same ↦ a.differ same.1
      | inr other ↦ elim (cases_lt m n) [
        | inl low ↦ none (System m) n a.second_known (low, a)
        | inr high ↦
            let differ : m ≢ n = other.1 in
            let low : n < m = omega arith in
            none (System n) m a.first_known (low, ambiguous_swap s m n a)
      ]
    ]

-- nothing races with a system of a settled schedule
pub settled-apart : (s : Schedule) → Settled s → (r : Racer) (n : ℕ) → IsRace s r n → ⊥
settled-apart s settled (System m) n race = settled.systems m n race.1
settled-apart s settled (Condition c) n race = settled.conditions c n race

-- what races with a system is a system or a condition
pub race_of_either : (s : Schedule) (n : ℕ) (below asked : Bool) → below ≡ false → (below ≡ true) ↔ ((m : ℕ) × IsRace s (System m) n) → (asked ≡ true) ↔ ((c : ℕ) × IsRace s (Condition c) n) →
    (asked ≡ true) ↔ ((r : Racer) × IsRace s r n)
race_of_either s n below asked none below_tells asked_tells = ((λ e. let found = asked_tells.0 e in (Condition found.0, found.1)), (λ found. either found.0 found.1))
  where
    either : (r : Racer) → IsRace s r n → asked ≡ true
    either (System m) race = absurd (both_ways below none (below_tells.1 (m, race)))
    either (Condition c) race = asked_tells.1 (c, race)
