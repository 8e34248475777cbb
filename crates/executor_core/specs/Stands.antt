-- What contracts see of a core, and the histories for which it stands. A history has the latest step first.
use Rattle.std.specs.Prelude.{ℕ, suc, ◌+◌, ◌*◌, ◌<◌, ◌≡◌, ◌↔◌, Bool, true, false, nat_lt, List, [], length, get_or, Option, Some, None, MatchOption, refl}
use Rattle.std.specs.Coded.{Coded, code_by, coded×, coded_list, coded_option, coded_ℕ}
use Rattle.number_set.specs.Members.{contains}
use Rattle.model.specs.declared.steps.Step.{Step}
use Rattle.model.specs.declared.steps.Step.TheVariants.{Cond, Start, Skip, Finish, Sync}
use Rattle.model.specs.access.Meeting.{Meet}
use Rattle.model.specs.steps.Schedule.{Schedule, recording, params_of, access_of}
use Rattle.model.specs.steps.Codes.{schedule_code}
use Rattle.model.specs.steps.Lawful.{IsLawful, begun, ended, was_asked, answered, synced, syncs_in, sets_at}

-- a schedule; the systems that have begun and that are over, the conditions that were asked and that answered yes, as sets of numbers; how
-- many sync points are done; how many systems at the front of the schedule order need no more be looked at; for each system and each
-- condition the systems that meet it, as sets of numbers; and the kind sets by which these rows are yet to be made, where they are due
pub record Stand : Type 0 where
  pub schedule : Schedule
  pub begun : List ℕ
  pub over : List ℕ
  pub asked : List ℕ
  pub yes : List ℕ
  pub done : ℕ
  pub from : ℕ
  pub met : List (List ℕ)
  pub clashed : List (List ℕ)
  pub due : Option (List ℕ)

-- it is stored as the tuple of its parts
abbrev pub stand_code : Coded Stand
stand_code = code_by (Schedule × (List ℕ × (List ℕ × (List ℕ × (List ℕ × (ℕ × (ℕ × (List (List ℕ) × (List (List ℕ) × Option (List ℕ))))))))))
    (coded× schedule_code (coded× (coded_list coded_ℕ) (coded× (coded_list coded_ℕ) (coded× (coded_list coded_ℕ) (coded× (coded_list coded_ℕ)
    (coded× coded_ℕ (coded× coded_ℕ (coded× (coded_list (coded_list coded_ℕ)) (coded× (coded_list (coded_list coded_ℕ)) (coded_option (coded_list coded_ℕ)))))))))))
    (λ s. (s.schedule, (s.begun, (s.over, (s.asked, (s.yes, (s.done, (s.from, (s.met, (s.clashed, s.due))))))))))
    (λ p. record {
      schedule = p.0;
      begun = p.1.0;
      over = p.1.1.0;
      asked = p.1.1.1.0;
      yes = p.1.1.1.1.0;
      done = p.1.1.1.1.1.0;
      from = p.1.1.1.1.1.1.0;
      met = p.1.1.1.1.1.1.1.0;
      clashed = p.1.1.1.1.1.1.1.1.0;
      due = p.1.1.1.1.1.1.1.1.1;
    }) (λ _. refl)

-- the systems that need no more be looked at have begun
abbrev pub IsPassed : Stand → Type 0
IsPassed core = (k : ℕ) → k < core.from → contains core.begun (get_or core.schedule.order k 0) ≡ true

-- the kind sets of rows that are due
abbrev pub due_of : Bool → List ℕ → Option (List ℕ)
due_of false sets = None
due_of true sets = Some sets

-- all that has begun is over
abbrev pub IsQuiet : Stand → Type 0
IsQuiet core = (m : ℕ) → contains core.begun m ≡ true → contains core.over m ≡ true

-- the row of a system holds another exactly where it meets the system, by the kind sets that may be there: unless it is due
abbrev pub MeetsAmong : Stand → Option (List ℕ) → ℕ → ℕ → Type 0
MeetsAmong core there n m = core.due ≡ None → (contains (get_or core.met n []) m ≡ true)
    ↔ ((m < length core.schedule.systems) × Meet there (params_of core.schedule m) (params_of core.schedule n))

-- so the row of a condition
abbrev pub ClashesAmong : Stand → Option (List ℕ) → ℕ → ℕ → Type 0
ClashesAmong core there c m = core.due ≡ None → (contains (get_or core.clashed c []) m ≡ true)
    ↔ ((m < length core.schedule.systems) × Meet there (params_of core.schedule m) (access_of core.schedule c))

-- the same by the kind sets recorded last
abbrev pub MeetsBy : Stand → Option (List (List ℕ)) → List Step → ℕ → ℕ → Type 0
MeetsBy core sets h n m = MeetsAmong core (sets_at (recording core.schedule sets) h) n m

abbrev pub ClashesBy : Stand → Option (List (List ℕ)) → List Step → ℕ → ℕ → Type 0
ClashesBy core sets h c m = ClashesAmong core (sets_at (recording core.schedule sets) h) c m

-- rows are due only where nothing runs, by the kind sets recorded last
abbrev pub IsDueBy : Stand → Option (List (List ℕ)) → List Step → Type 0
IsDueBy core sets h = (there : List ℕ) → core.due ≡ Some there → IsQuiet core × (sets_at (recording core.schedule sets) h ≡ Some there)

-- kind sets are recorded at the opening and after each sync point, or nowhere
abbrev pub AreListed : Option (List (List ℕ)) → List Step → Type 0
AreListed sets h = MatchOption sets (Unit {0}) (λ lists. length lists ≡ suc (syncs_in h))

-- a step that is no sync point, or one of a run that records no kind sets
abbrev pub IsPlainStep : Option (List (List ℕ)) → Step → Type 0
IsPlainStep sets (Sync k) = sets ≡ None
IsPlainStep sets (Cond c answer) = Unit {0}
IsPlainStep sets (Start n) = Unit {0}
IsPlainStep sets (Skip n) = Unit {0}
IsPlainStep sets (Finish n) = Unit {0}

-- a core stands for a lawful history of a run that records these kind sets: its systems have begun and ended, its conditions were asked and
-- answered yes, its sync points are done and its systems meet, as the core says
pub record Stands (core : Stand) (sets : Option (List (List ℕ))) (h : List Step) : Type 0 where
  pub lawful : IsLawful (recording core.schedule sets) h
  pub begins : (n : ℕ) → begun h n ≡ contains core.begun n
  pub ends : (n : ℕ) → ended h n ≡ contains core.over n
  pub asks : (c : ℕ) → was_asked h c ≡ contains core.asked c
  pub yeses : (c : ℕ) → answered h c true ≡ contains core.yes c
  pub syncs : (k : ℕ) → synced h k ≡ nat_lt k core.done
  pub passed : IsPassed core
  pub meets : (n m : ℕ) → MeetsBy core sets h n m
  pub clashes : (c m : ℕ) → ClashesBy core sets h c m
  pub due : IsDueBy core sets h
  pub listed : AreListed sets h

-- the rows of a core are those by these kind sets, or due by them: the systems that meet each system, and each condition
pub record AreMeetings (core : Stand) (sets : List ℕ) : Type 0 where
  pub meets : (n m : ℕ) → MeetsAmong core (Some sets) n m
  pub clashes : (c m : ℕ) → ClashesAmong core (Some sets) c m
  pub due : (there : List ℕ) → core.due ≡ Some there → Some sets ≡ Some there

-- a core has accepted nothing
pub record IsCleared (core : Stand) : Type 0 where
  pub begun : (n : ℕ) → contains core.begun n ≡ false
  pub over : (n : ℕ) → contains core.over n ≡ false
  pub asked : (c : ℕ) → contains core.asked c ≡ false
  pub yes : (c : ℕ) → contains core.yes c ≡ false
  pub done : core.done ≡ 0
  pub from : core.from ≡ 0

-- how many steps a lawful history has at most
abbrev pub room : Schedule → ℕ
room s = length s.conditions + 2 * length s.systems + s.syncs
