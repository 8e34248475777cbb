-- What the instructions of a block skip.
use Rattle.std.specs.Prelude.{ℕ, ◌≡◌, ◌<◌, ◌+◌, ◌-◌, ◌==◌, nat_le, nat_lt, int_lt, Bool, true, false, not, ◌&&◌, List, get_or, Option, Some, None}
use Rattle.std.specs.Ordering.{int_eq}
use Rattle.kinds.specs.Kind.{kind_number}
use Rattle.kinds.specs.Res.{res_number}
use Rattle.script.specs.declared.instruction.Instruction.{Instruction}
use Rattle.script.specs.declared.instruction.Instruction.TheVariants.{Compare, Has, Despawn}
use Rattle.script.specs.declared.instruction.Relation.{Relation}
use Rattle.script.specs.declared.instruction.Relation.TheVariants.{Less, Equal, Greater}
use Rattle.script.specs.declared.operands.Axis.{Axis}
use Rattle.script.specs.declared.operands.Axis.TheVariants.{X, Y, V}
use Rattle.script.specs.declared.operands.Field.{Field}
use Rattle.script.specs.declared.operands.Source.{Source}
use Rattle.script.specs.declared.operands.Source.TheVariants as source
use Rattle.script.specs.declared.operands.Subject.TheVariants.{Row}

-- the instruction at a place
abbrev pub instruction_at : List Instruction → ℕ → Instruction
instruction_at code place = get_or code place (Despawn Row)

-- how many of the next an instruction skips where its test holds
abbrev pub skip_of : Instruction → Option ℕ
skip_of (Compare relation left right passed) = Some passed
skip_of (Has kind passed) = Some passed
skip_of _ = None

abbrev pub skip_at : List Instruction → ℕ → Option ℕ
skip_at code place = skip_of (instruction_at code place)

-- ---- skips that cross

-- the second stands amid what the first skips, and what it skips itself ends behind that
abbrev pub crossing : ℕ → Option ℕ → ℕ → Option ℕ → Bool
crossing first (Some passed) second (Some other) = nat_lt first second && (nat_le second (first + passed) && nat_lt (first + passed) (second + other))
crossing first _ second _ = false

-- ---- what is never done

-- both are one letter, and one value whatever the state is
abbrev pub is_same_axis : Axis → Axis → Bool
is_same_axis X X = true
is_same_axis Y Y = true
is_same_axis V V = true
is_same_axis _ _ = false

abbrev pub is_same_field : Field → Field → Bool
is_same_field field other = kind_number field.kind == kind_number other.kind && is_same_axis field.axis other.axis

abbrev pub is_same : Source → Source → Bool
is_same (source.Integer value) (source.Integer other) = int_eq value other
is_same (source.Register number) (source.Register other) = number == other
is_same (source.Field field) (source.Field other) = is_same_field field other
is_same (source.Resource res) (source.Resource other) = res_number res == res_number other
is_same source.Event source.Event = true
is_same _ _ = false

-- a test holds in every state: of two integers, or of one value with itself
abbrev pub is_less : Source → Source → Bool
is_less (source.Integer value) (source.Integer other) = int_lt value other
is_less _ _ = false

abbrev pub holds_always : Relation → Source → Source → Bool
holds_always Less left right = is_less left right
holds_always Equal left right = is_same left right
holds_always Greater left right = is_less right left

abbrev pub skips_always : Instruction → Bool
skips_always (Compare relation left right passed) = holds_always relation left right
skips_always _ = false

-- the skips of two instructions cross, and the second is a test: what always skips only ends a way of a choice
abbrev pub crosses : List Instruction → ℕ → ℕ → Bool
crosses code first second = crossing first (skip_at code first) second (skip_at code second) && not (skips_always (instruction_at code second))

-- where an instruction skips it goes on at a place
abbrev pub leads : ℕ → Option ℕ → ℕ → Bool
leads from None to = false
leads from (Some passed) to = from + 1 + passed == to

abbrev pub leads_to : List Instruction → ℕ → ℕ → Bool
leads_to code from to = leads from (skip_at code from) to

-- an instruction is never done: the one before it always skips it, and none of those before it leads there
pub record IsUnreachable (code : List Instruction) (place : ℕ) : Type 0 where
  pub behind : 0 < place
  pub skipped : skips_always (instruction_at code (place - 1)) ≡ true
  pub apart : (from : ℕ) → from < place → leads_to code from place ≡ false
