-- What the bodies of the systems of a schedule mean, and which of them fit.
use Rattle.std.specs.Prelude.{ℕ, ◌<◌, ◌≡◌, ◌≢◌, ◌⊎◌, Bool, true, false, List, [], ◌∷◌, length, get_or, Option, Some, None, Err}
use Rattle.model.specs.access.Access.{Params}
use Rattle.model.specs.shown.Outcome.{BodyMeaning}
use Rattle.model.specs.state.State.{State}
use Rattle.model.specs.steps.Schedule.{ScheduledSystem, Schedule, params_of, access_of}
use Rattle.model.specs.runs.RunState.{body_of, memory_of_condition, memory_of_system}
use Rattle.body.specs.Keeps.{KeepsWithin}

-- what a body means for these parameters. Where there is none it refuses
abbrev pub meaning_of : {B : Type 0} → (B → Params → BodyMeaning) → Params → Option B → BodyMeaning
meaning_of meaning params None = λ shown. Err 0
meaning_of meaning params (Some body) = meaning body params

-- what bodies mean, each for the parameters of its system
abbrev pub meanings_of : {B : Type 0} → (B → Params → BodyMeaning) → List ScheduledSystem → List (Option B) → List BodyMeaning
meanings_of meaning [] slots = []
meanings_of meaning (system ∷ systems) [] = []
meanings_of meaning (system ∷ systems) (slot ∷ slots) = meaning_of meaning system.params slot ∷ meanings_of meaning systems slots

-- what the bodies of the systems of a schedule mean
abbrev pub meanings : {B : Type 0} → (B → Params → BodyMeaning) → Schedule → List (Option B) → List BodyMeaning
meanings meaning s slots = meanings_of meaning s.systems slots

-- the body of a system
abbrev pub body_at : {B : Type 0} → List (Option B) → ℕ → Option B
body_at slots n = get_or slots n None

-- whether there is a body, and it fits these parameters
abbrev pub body_fits : {B : Type 0} → (B → Params → Bool) → Option B → Params → Bool
body_fits fits None params = false
body_fits fits (Some body) params = fits body params

-- whether the body of a system fits its parameters
abbrev pub fits_at : {B : Type 0} → (B → Params → Bool) → Schedule → List (Option B) → ℕ → Bool
fits_at fits s slots n = body_fits fits (body_at slots n) (params_of s n)

-- each of these keeps within the parameters of its system
abbrev pub AllKeepWithin : Schedule → List BodyMeaning → Type 0
AllKeepWithin s bodies = (n : ℕ) → n < length s.systems → KeepsWithin (params_of s n) (body_of bodies n)

-- the memories of a state are those of a schedule: one for each system and each condition, with a cursor for each of its event readers
pub record HasMemories (s : Schedule) (state : State) : Type 0 where
  pub systems : length state.systems ≡ length s.systems
  pub conditions : length state.conditions ≡ length s.conditions
  pub system_readers : (n : ℕ) → n < length s.systems → length (memory_of_system state n).cursors ≡ length (params_of s n).reads
  pub condition_readers : (c : ℕ) → c < length s.conditions → length (memory_of_condition state c).cursors ≡ length (access_of s c).reads

-- they are not: the number of systems or conditions differs, or that of the cursors of one
abbrev pub LacksMemories : Schedule → State → Type 0
LacksMemories s state = (length state.systems ≢ length s.systems)
    ⊎ ((length state.conditions ≢ length s.conditions)
    ⊎ (((n : ℕ) × (n < length s.systems) × (length (memory_of_system state n).cursors ≢ length (params_of s n).reads))
    ⊎ ((c : ℕ) × (c < length s.conditions) × (length (memory_of_condition state c).cursors ≢ length (access_of s c).reads))))

-- the numbers of bodies, of memories or of a memory's cursors are not those of the schedule
abbrev pub Miscounts : {B : Type 0} → Schedule → List (Option B) → State → Type 0
Miscounts s slots state = (length slots ≢ length s.systems) ⊎ LacksMemories s state

-- a body and a memory for each system, a memory for each condition, and each body fits
pub record Suits {B : Type 0} (fits : B → Params → Bool) (s : Schedule) (slots : List (Option B)) (state : State) : Type 0 where
  pub body_count : length slots ≡ length s.systems
  pub memories : HasMemories s state
  pub fit : (n : ℕ) → n < length s.systems → fits_at fits s slots n ≡ true

-- there is a body for each system, and each fits
pub record AreFit {B : Type 0} (fits : B → Params → Bool) (s : Schedule) (slots : List (Option B)) : Type 0 where
  pub body_count : length slots ≡ length s.systems
  pub fit : (n : ℕ) → n < length s.systems → fits_at fits s slots n ≡ true

-- the least system whose body doesn't fit, where the numbers are right
pub record IsFirstMisfit {B : Type 0} (fits : B → Params → Bool) (s : Schedule) (slots : List (Option B)) (state : State) (n : ℕ) : Type 0 where
  pub body_count : length slots ≡ length s.systems
  pub memories : HasMemories s state
  pub known : n < length s.systems
  pub misfit : fits_at fits s slots n ≡ false
  pub least : (m : ℕ) → m < n → fits_at fits s slots m ≡ true
