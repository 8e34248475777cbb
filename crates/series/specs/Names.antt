-- The names of series.
use Rattle.std.specs.Prelude.{◌≡◌, ◌==◌, ℕ, Bool, true, false, List, [], ◌∷◌, ◌++◌, codes, None}
use Rattle.std.specs.List.{list_any}
use Rattle.kinds.specs.Components.{widths}
use Rattle.kinds.specs.Kind.{kind_number}
use Rattle.kinds.specs.Res.{IsRes}
use Rattle.model.specs.access.Query.{Term, is_filter}
use Rattle.model.specs.access.QueryFaults.{query_fault}
use Rattle.parsing.specs.Reads.{SpellsNone}
use Rattle.query.specs.Grammar.{IsQuery}
use Rattle.script.specs.Operands.{IsField}
use Rattle.script.specs.declared.operands.Axis.{Axis}
use Rattle.script.specs.declared.operands.Axis.TheVariants.{X, Y, V}
use Rattle.script.specs.declared.operands.Field.{Field}
use Rattle.series.specs.declared.reading.NameFault.{NameFault}
use Rattle.series.specs.declared.reading.NameFault.TheVariants.{Memory}
use Rattle.series.specs.declared.series.Series.{Series}
use Rattle.series.specs.declared.series.Series.TheVariants.{Resource, Count, Sum}

-- whether the components of so many fields have one of this letter
abbrev pub width_has : ℕ → Axis → Bool
width_has width X = width == 2
width_has width Y = width == 2
width_has width V = width == 1

-- whether the components of the kind have the field
abbrev pub has_axis : Field → Bool
has_axis field = width_has (widths (kind_number field.kind)) field.axis

-- a text in parentheses behind a word
abbrev pub IsWithin : List ℕ → List ℕ → List ℕ → Type 0
IsWithin word within text = text ≡ word ++ (within ++ 41 ∷ [])

-- the text is that of a query without fault, which asks for nothing that is new
pub record IsCounted (query : List Term) (text : List ℕ) : Type 0 where
  pub spelled : IsQuery query text
  pub sound : query_fault query ≡ None
  pub old : list_any is_filter query ≡ false

-- the text is that of a field which the kind has
pub record IsSummed (field : Field) (text : List ℕ) : Type 0 where
  pub spelled : IsField field text
  pub there : has_axis field ≡ true

-- the text is that of no such query; of no such field
abbrev pub CountsNone : List ℕ → Type 0
CountsNone text = (query : List Term) → IsCounted query text → ⊥

abbrev pub SumsNone : List ℕ → Type 0
SumsNone text = (field : Field) → IsSummed field text → ⊥

-- it is no text in parentheses behind a word
abbrev pub HasNone : List ℕ → List ℕ → Type 0
HasNone word text = (within : List ℕ) → IsWithin word within text → ⊥

-- the text is the name of a series
abbrev pub IsSeries : Series → List ℕ → Type 0
IsSeries (Resource res) text = IsRes res text
IsSeries (Count query) text = (within : List ℕ) × IsCounted query within × IsWithin (codes "count(") within text
IsSeries (Sum field) text = (within : List ℕ) × IsSummed field within × IsWithin (codes "sum(") within text

-- what a fault says, unless it is that an allocation failed
abbrev pub UnlessMemory : NameFault → Type 0 → Type 0
UnlessMemory Memory Says = Unit {0}
UnlessMemory fault Says = Says

-- the text is the name of no series, unless an allocation failed
abbrev pub IsMisnamed : List ℕ → NameFault → Type 0
IsMisnamed text fault = UnlessMemory fault (SpellsNone IsSeries text)
