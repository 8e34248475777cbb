-- The components as words: their fields in order.
use Rattle.std.specs.Prelude.{◌≡◌, ℕ, zero, suc, ℤ, pos, List, [], ◌∷◌, length, slice_index, slice_index_or, refl}
use Rattle.std.proofs.Common.{subst}
use Rattle.kinds.specs.declared.types.Position.{Position}
use Rattle.kinds.specs.declared.types.Velocity.{Velocity}
use Rattle.kinds.specs.declared.types.Health.{Health}
use Rattle.kinds.specs.declared.types.Damage.{Damage}
use Rattle.kinds.specs.declared.types.Team.{Team}
use Rattle.kinds.specs.declared.types.Timer.{Timer}
use Rattle.kinds.specs.declared.types.Score.{Score}
use Rattle.kinds.specs.declared.types.Energy.{Energy}
use Rattle.kinds.specs.declared.types.Charge.{Charge}
use Rattle.kinds.specs.declared.types.Target.{Target}
use Rattle.kinds.specs.declared.types.Frozen.{Frozen}
use Rattle.kinds.specs.declared.types.Hidden.{Hidden}
use Rattle.kinds.specs.declared.types.Home.{Home}
use Rattle.kinds.specs.declared.types.Mass.{Mass}
use Rattle.kinds.specs.declared.types.Armor.{Armor}
use Rattle.kinds.specs.declared.types.Range.{Range}
use Rattle.kinds.specs.declared.types.Level.{Level}
use Rattle.kinds.specs.declared.types.Rank.{Rank}
use Rattle.kinds.specs.declared.types.Sleeping.{Sleeping}
use Rattle.kinds.specs.declared.types.Marked.{Marked}

-- how many words a component of each kind has, by number; none where no kind has the number
abbrev pub widths : ℕ → ℕ
widths number = slice_index (2 ∷ 2 ∷ 1 ∷ 1 ∷ 1 ∷ 1 ∷ 1 ∷ 1 ∷ 1 ∷ 1 ∷ 0 ∷ 0 ∷ 2 ∷ 1 ∷ 1 ∷ 1 ∷ 1 ∷ 1 ∷ 0 ∷ 0 ∷ []) number

-- the word at a place, 0 past the end
abbrev pub word_at : List ℤ → ℕ → ℤ
word_at words i = slice_index_or words i (pos 0)

abbrev pub position_words : Position → List ℤ
position_words c = c.x ∷ c.y ∷ []

abbrev pub position_of : List ℤ → Position
position_of words = record { x = word_at words 0; y = word_at words 1 }

abbrev pub velocity_words : Velocity → List ℤ
velocity_words c = c.x ∷ c.y ∷ []

abbrev pub velocity_of : List ℤ → Velocity
velocity_of words = record { x = word_at words 0; y = word_at words 1 }

abbrev pub health_words : Health → List ℤ
health_words c = c.v ∷ []

abbrev pub health_of : List ℤ → Health
health_of words = record { v = word_at words 0 }

abbrev pub damage_words : Damage → List ℤ
damage_words c = c.v ∷ []

abbrev pub damage_of : List ℤ → Damage
damage_of words = record { v = word_at words 0 }

abbrev pub team_words : Team → List ℤ
team_words c = c.v ∷ []

abbrev pub team_of : List ℤ → Team
team_of words = record { v = word_at words 0 }

abbrev pub timer_words : Timer → List ℤ
timer_words c = c.v ∷ []

abbrev pub timer_of : List ℤ → Timer
timer_of words = record { v = word_at words 0 }

abbrev pub score_words : Score → List ℤ
score_words c = c.v ∷ []

abbrev pub score_of : List ℤ → Score
score_of words = record { v = word_at words 0 }

abbrev pub energy_words : Energy → List ℤ
energy_words c = c.v ∷ []

abbrev pub energy_of : List ℤ → Energy
energy_of words = record { v = word_at words 0 }

abbrev pub charge_words : Charge → List ℤ
charge_words c = c.v ∷ []

abbrev pub charge_of : List ℤ → Charge
charge_of words = record { v = word_at words 0 }

abbrev pub target_words : Target → List ℤ
target_words c = c.v ∷ []

abbrev pub target_of : List ℤ → Target
target_of words = record { v = word_at words 0 }

abbrev pub frozen_words : Frozen → List ℤ
frozen_words c = []

abbrev pub frozen_of : List ℤ → Frozen
frozen_of words = record {}

abbrev pub hidden_words : Hidden → List ℤ
hidden_words c = []

abbrev pub hidden_of : List ℤ → Hidden
hidden_of words = record {}

abbrev pub home_words : Home → List ℤ
home_words c = c.x ∷ c.y ∷ []

abbrev pub home_of : List ℤ → Home
home_of words = record { x = word_at words 0; y = word_at words 1 }

abbrev pub mass_words : Mass → List ℤ
mass_words c = c.v ∷ []

abbrev pub mass_of : List ℤ → Mass
mass_of words = record { v = word_at words 0 }

abbrev pub armor_words : Armor → List ℤ
armor_words c = c.v ∷ []

abbrev pub armor_of : List ℤ → Armor
armor_of words = record { v = word_at words 0 }

abbrev pub range_words : Range → List ℤ
range_words c = c.v ∷ []

abbrev pub range_of : List ℤ → Range
range_of words = record { v = word_at words 0 }

abbrev pub level_words : Level → List ℤ
level_words c = c.v ∷ []

abbrev pub level_of : List ℤ → Level
level_of words = record { v = word_at words 0 }

abbrev pub rank_words : Rank → List ℤ
rank_words c = c.v ∷ []

abbrev pub rank_of : List ℤ → Rank
rank_of words = record { v = word_at words 0 }

abbrev pub sleeping_words : Sleeping → List ℤ
sleeping_words c = []

abbrev pub sleeping_of : List ℤ → Sleeping
sleeping_of words = record {}

abbrev pub marked_words : Marked → List ℤ
marked_words c = []

abbrev pub marked_of : List ℤ → Marked
marked_of words = record {}

-- ---- lists of a known length

abbrev pub IsNotNone : ℕ → Type 0
IsNotNone zero = ⊥
IsNotNone _ = Unit {0}

abbrev pub IsNotOne : ℕ → Type 0
IsNotOne (suc zero) = ⊥
IsNotOne _ = Unit {0}

abbrev pub IsNotTwo : ℕ → Type 0
IsNotTwo (suc (suc zero)) = ⊥
IsNotTwo _ = Unit {0}

-- a list of no word is the empty one
pub no_words : (words : List ℤ) → length words ≡ 0 → [] ≡ words
no_words [] h = refl
no_words (x ∷ more) h = absurd (subst IsNotNone h tt)

-- a list of one word is made of it
pub one_word : (words : List ℤ) → length words ≡ 1 → word_at words 0 ∷ [] ≡ words
one_word [] h = absurd (subst IsNotOne h tt)
one_word (x ∷ []) h = refl
one_word (x ∷ y ∷ more) h = absurd (subst IsNotOne h tt)

-- a list of two words is made of them
pub two_words : (words : List ℤ) → length words ≡ 2 → word_at words 0 ∷ word_at words 1 ∷ [] ≡ words
two_words [] h = absurd (subst IsNotTwo h tt)
two_words (x ∷ []) h = absurd (subst IsNotTwo h tt)
two_words (x ∷ y ∷ []) h = refl
two_words (x ∷ y ∷ z ∷ more) h = absurd (subst IsNotTwo h tt)
