-- The words of what an instruction takes values from and writes, and of whom a command is about.
use Rattle.std.specs.Prelude.{◌≡◌, ℕ, ◌*◌, ◌%◌, ◌^◌, true, false, List, [], ◌∷◌, ◌++◌, codes, bit_or}
use Rattle.kinds.specs.Kind.{kind_name, kind_number}
use Rattle.kinds.specs.Res.{IsRes, res_number}
use Rattle.parsing.specs.Integer.{IsInteger, IsNumber}
use Rattle.script.specs.declared.operands.Axis.{Axis}
use Rattle.script.specs.declared.operands.Axis.TheVariants.{X, Y, V}
use Rattle.script.specs.declared.operands.Field.{Field}
use Rattle.script.specs.declared.operands.Target.{Target}
use Rattle.script.specs.declared.operands.Target.TheVariants as target
use Rattle.script.specs.declared.operands.Source.{Source}
use Rattle.script.specs.declared.operands.Source.TheVariants as source
use Rattle.script.specs.declared.operands.Mentions.{Mentions}
use Rattle.script.specs.declared.operands.Subject.{Subject}
use Rattle.script.specs.declared.operands.Subject.TheVariants.{Row, Granted}
use Rattle.script.specs.declared.operands.Values.{Values}
use Rattle.script.specs.declared.operands.Values.TheVariants.{Empty, One, Two, Many}

-- the letter of a field within its kind
abbrev pub axis_name : Axis → List ℕ
axis_name X = codes "x"
axis_name Y = codes "y"
axis_name V = codes "v"

abbrev pub IsAxis : Axis → List ℕ → Type 0
IsAxis axis word = word ≡ axis_name axis

-- a field: the name of its kind, a point, its letter
abbrev pub IsField : Field → List ℕ → Type 0
IsField field word = word ≡ kind_name field.kind ++ (46 ∷ axis_name field.axis)

-- a register: an r and its number
abbrev pub IsRegister : ℕ → List ℕ → Type 0
IsRegister n word = (digits : List ℕ) × IsNumber n digits × (word ≡ 114 ∷ digits)

-- a target: a register, a field, or a resource's name
abbrev pub IsTarget : Target → List ℕ → Type 0
IsTarget (target.Register n) word = IsRegister n word
IsTarget (target.Field field) word = IsField field word
IsTarget (target.Resource resource) word = IsRes resource word

-- a source: an integer, a register, a field, a resource's name, or `event`
abbrev pub IsSource : Source → List ℕ → Type 0
IsSource (source.Integer z) word = IsInteger z word
IsSource (source.Register n) word = IsRegister n word
IsSource (source.Field field) word = IsField field word
IsSource (source.Resource resource) word = IsRes resource word
IsSource source.Event word = word ≡ codes "event"

-- a slot: a g and its number
abbrev pub IsSlot : ℕ → List ℕ → Type 0
IsSlot n word = (digits : List ℕ) × IsNumber n digits × (word ≡ 103 ∷ digits)

-- whom a command is about: `row`, or a slot
abbrev pub IsSubject : Subject → List ℕ → Type 0
IsSubject Row word = word ≡ codes "row"
IsSubject (Granted n) word = IsSlot n word

-- the words of sources
abbrev pub AreSources : List Source → List (List ℕ) → Type 0
AreSources [] [] = Unit {0}
AreSources (s ∷ sources) (word ∷ words) = IsSource s word × AreSources sources words
AreSources _ _ = ⊥

-- the word with the bit of a number
abbrev pub with_bit : ℕ → ℕ → ℕ
with_bit word number = bit_or word (1 * 2 ^ number % 2 ^ 64)

-- what is named, with one source more: the kind of a field, a resource, or the event
abbrev pub with_source : Mentions → Source → Mentions
with_source named (source.Integer z) = named
with_source named (source.Register n) = named
with_source named (source.Field field) = record { kinds = with_bit named.kinds (kind_number field.kind); resources = named.resources; event = named.event }
with_source named (source.Resource resource) = record { kinds = named.kinds; resources = with_bit named.resources (res_number resource); event = named.event }
with_source named source.Event = record { kinds = named.kinds; resources = named.resources; event = true }

-- with more sources, one after the other
abbrev pub with_sources : Mentions → List Source → Mentions
with_sources named [] = named
with_sources named (s ∷ sources) = with_sources (with_source named s) sources

-- what sources name
abbrev pub named_by : List Source → Mentions
named_by sources = with_sources (record { kinds = 0; resources = 0; event = false }) sources

-- words that spell sources, which name this
abbrev pub IsNamedBy : Mentions → List (List ℕ) → Type 0
IsNamedBy named words = (sources : List Source) × AreSources sources words × (named ≡ named_by sources)

-- the values of a component: any number of sources. Of more than two it is kept what they name
abbrev pub AreValues : Values → List (List ℕ) → Type 0
AreValues Empty [] = Unit {0}
AreValues (One value) (word ∷ []) = IsSource value word
AreValues (Two first second) (word ∷ other ∷ []) = IsSource first word × IsSource second other
AreValues (Many named) (word ∷ other ∷ third ∷ words) = IsNamedBy named (word ∷ other ∷ third ∷ words)
AreValues values _ = ⊥
