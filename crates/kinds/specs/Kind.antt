-- The number and the name of each kind.
use Rattle.std.specs.Prelude.{◌≡◌, ℕ, zero, suc, ◌+◌, ◌<◌, List, [], ◌∷◌, get_or, codes, refl}
use Rattle.kinds.specs.declared.kind.Kind.{Kind}
use Rattle.kinds.specs.declared.kind.Kind.TheVariants.{Position, Velocity, Health, Damage, Team, Timer, Score, Energy, Charge, Target, Frozen, Hidden, Home, Mass, Armor, Range, Level, Rank, Sleeping, Marked}

-- how many kinds there are
abbrev pub kind_count : ℕ
kind_count = 20

-- the number of a kind
abbrev pub kind_number : Kind → ℕ
kind_number Position = 0
kind_number Velocity = 1
kind_number Health = 2
kind_number Damage = 3
kind_number Team = 4
kind_number Timer = 5
kind_number Score = 6
kind_number Energy = 7
kind_number Charge = 8
kind_number Target = 9
kind_number Frozen = 10
kind_number Hidden = 11
kind_number Home = 12
kind_number Mass = 13
kind_number Armor = 14
kind_number Range = 15
kind_number Level = 16
kind_number Rank = 17
kind_number Sleeping = 18
kind_number Marked = 19

-- the name of a kind
abbrev pub kind_name : Kind → List ℕ
kind_name Position = codes "Position"
kind_name Velocity = codes "Velocity"
kind_name Health = codes "Health"
kind_name Damage = codes "Damage"
kind_name Team = codes "Team"
kind_name Timer = codes "Timer"
kind_name Score = codes "Score"
kind_name Energy = codes "Energy"
kind_name Charge = codes "Charge"
kind_name Target = codes "Target"
kind_name Frozen = codes "Frozen"
kind_name Hidden = codes "Hidden"
kind_name Home = codes "Home"
kind_name Mass = codes "Mass"
kind_name Armor = codes "Armor"
kind_name Range = codes "Range"
kind_name Level = codes "Level"
kind_name Rank = codes "Rank"
kind_name Sleeping = codes "Sleeping"
kind_name Marked = codes "Marked"

-- the word names the kind
abbrev pub IsKind : Kind → List ℕ → Type 0
IsKind kind word = word ≡ kind_name kind

-- the name of the kind of a number; nothing where no kind has it
abbrev pub name_of_kind : ℕ → List ℕ
name_of_kind number = get_or (kind_name Position ∷ kind_name Velocity ∷ kind_name Health ∷ kind_name Damage ∷ kind_name Team ∷ kind_name Timer ∷ kind_name Score ∷ kind_name Energy ∷ kind_name Charge ∷ kind_name Target ∷ kind_name Frozen ∷ kind_name Hidden ∷ kind_name Home ∷ kind_name Mass ∷ kind_name Armor ∷ kind_name Range ∷ kind_name Level ∷ kind_name Rank ∷ kind_name Sleeping ∷ kind_name Marked ∷ []) number []

-- so many numbers from one on
abbrev pub numbers_from : ℕ → ℕ → List ℕ
numbers_from first zero = []
numbers_from first (suc count) = first ∷ numbers_from (1 + first) count

-- each kind has a number below their count
abbrev pub NumbersAreBelow : Type 0
NumbersAreBelow = (kind : Kind) → kind_number kind < kind_count

-- no two kinds have one number
abbrev pub NumbersAreApart : Type 0
NumbersAreApart = (kind other : Kind) → kind_number kind ≡ kind_number other → kind ≡ other

-- no two kinds have one name
abbrev pub NamesAreApart : Type 0
NamesAreApart = (kind other : Kind) → kind_name kind ≡ kind_name other → kind ≡ other
