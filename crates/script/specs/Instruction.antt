-- The text of an instruction: words with spaces between.
use Rattle.std.specs.Prelude.{◌≡◌, ◌≢◌, ℕ, ◌<◌, List, [], ◌∷◌, codes}
use Rattle.kinds.specs.Kind.{IsKind}
use Rattle.kinds.specs.Res.{IsEvent}
use Rattle.parsing.specs.Integer.{IsNumber}
use Rattle.parsing.specs.Words.{ByWords}
use Rattle.script.specs.declared.instruction.Operation.{Operation}
use Rattle.script.specs.declared.instruction.Operation.TheVariants.{Set, Add, Sub, Mul, Min, Max}
use Rattle.script.specs.declared.instruction.Relation.{Relation}
use Rattle.script.specs.declared.instruction.Relation.TheVariants.{Less, Equal, Greater}
use Rattle.script.specs.declared.instruction.Instruction.{Instruction}
use Rattle.script.specs.declared.instruction.Instruction.TheVariants.{Change, Compare, Has, Emit, Spawn, Insert, Remove, Despawn}
use Rattle.script.specs.Operands.{IsTarget, IsSource, IsSlot, IsSubject, AreValues}

-- the word of an operation
abbrev pub operation_name : Operation → List ℕ
operation_name Set = codes "set"
operation_name Add = codes "add"
operation_name Sub = codes "sub"
operation_name Mul = codes "mul"
operation_name Min = codes "min"
operation_name Max = codes "max"

abbrev pub IsOperation : Operation → List ℕ → Type 0
IsOperation operation word = word ≡ operation_name operation

-- the word of a relation
abbrev pub relation_name : Relation → List ℕ
relation_name Less = codes "less"
relation_name Equal = codes "equal"
relation_name Greater = codes "greater"

abbrev pub IsRelation : Relation → List ℕ → Type 0
IsRelation relation word = word ≡ relation_name relation

-- how many instructions are passed over: one at the least
abbrev pub IsCount : ℕ → List ℕ → Type 0
IsCount n word = IsNumber n word × (0 < n)

-- the words of an instruction: operation, target, source; relation, two sources, a count; `has`, a kind, a count; `emit`, an event kind, a source;
-- `spawn`, a slot; `insert`, a subject, a kind, values; `remove`, a subject, a kind; `despawn`, a subject
abbrev pub AreInstruction : Instruction → List (List ℕ) → Type 0
AreInstruction (Change operation target source) (first ∷ second ∷ third ∷ []) = IsOperation operation first × IsTarget target second × IsSource source third
AreInstruction (Compare relation left right passed) (first ∷ second ∷ third ∷ fourth ∷ []) = IsRelation relation first × IsSource left second × IsSource right third × IsCount passed fourth
AreInstruction (Has kind passed) (first ∷ second ∷ third ∷ []) = (first ≡ codes "has") × IsKind kind second × IsCount passed third
AreInstruction (Emit event source) (first ∷ second ∷ third ∷ []) = (first ≡ codes "emit") × IsEvent event second × IsSource source third
AreInstruction (Spawn slot) (first ∷ second ∷ []) = (first ≡ codes "spawn") × IsSlot slot second
AreInstruction (Insert subject kind values) (first ∷ second ∷ third ∷ words) = (first ≡ codes "insert") × IsSubject subject second × IsKind kind third × AreValues values words
AreInstruction (Remove subject kind) (first ∷ second ∷ third ∷ []) = (first ≡ codes "remove") × IsSubject subject second × IsKind kind third
AreInstruction (Despawn subject) (first ∷ second ∷ []) = (first ≡ codes "despawn") × IsSubject subject second
AreInstruction i _ = ⊥

-- the first of three words or more is not `insert`
abbrev pub IsNoInsert : List (List ℕ) → Type 0
IsNoInsert (first ∷ second ∷ third ∷ words) = first ≢ codes "insert"
IsNoInsert _ = Unit {0}

-- the text is that of an instruction
abbrev pub IsInstruction : Instruction → List ℕ → Type 0
IsInstruction i text = ByWords AreInstruction i text
