-- The words of fields: a kind's name, a point and a letter.
use Rattle.std.proofs.Common.{◌≡◌, ◌≢◌, ℕ, suc, ◌<◌, Bool, true, false, inl, inr, List, [], ◌∷◌, ◌++◌, length, get_or, cond, eqb, refl, ap, ap₂, ◌∙◌, arith}
use Rattle.std.proofs.lemmas.Bool.{cases_Bool}
use Rattle.std.specs.List.{before_first, after_first}
use Rattle.parsing.specs.Reads.{SpellsNone, SpellsOnly}
use Rattle.kinds.specs.declared.kind.Kind.{Kind}
use Rattle.kinds.specs.declared.kind.Kind.TheVariants.{Position, Velocity, Health, Damage, Team, Timer, Score, Energy, Charge, Target, Frozen, Hidden, Home, Mass, Armor, Range, Level, Rank, Sleeping, Marked}
use Rattle.kinds.specs.Kind.{kind_name, IsKind}
use Rattle.kinds.specs.declared.res.Res.{Res}
use Rattle.kinds.specs.declared.res.Res.TheVariants as res
use Rattle.kinds.specs.Res.{res_name, IsRes}
use Rattle.script.specs.declared.operands.Axis.{Axis}
use Rattle.script.specs.declared.operands.Field.{Field}
use Rattle.script.specs.declared.operands.Target.{Target as ATarget}
use Rattle.script.specs.declared.operands.Target.TheVariants as target
use Rattle.script.specs.Operands.{axis_name, IsAxis, IsField, IsRegister, IsTarget}

-- what stands before the first point of a word, and after it
abbrev pub front : List ℕ → List ℕ
front word = before_first (λ b. eqb b 46) word

abbrev pub rest : List ℕ → List ℕ
rest word = after_first (λ b. eqb b 46) word

-- no kind's name has a point: it ends at the first
cut_at : (kind : Kind) (letters : List ℕ) → (front (kind_name kind ++ 46 ∷ letters) ≡ kind_name kind) × (rest (kind_name kind ++ 46 ∷ letters) ≡ letters)
cut_at Position letters = (refl, refl)
cut_at Velocity letters = (refl, refl)
cut_at Health letters = (refl, refl)
cut_at Damage letters = (refl, refl)
cut_at Team letters = (refl, refl)
cut_at Timer letters = (refl, refl)
cut_at Score letters = (refl, refl)
cut_at Energy letters = (refl, refl)
cut_at Charge letters = (refl, refl)
cut_at Target letters = (refl, refl)
cut_at Frozen letters = (refl, refl)
cut_at Hidden letters = (refl, refl)
cut_at Home letters = (refl, refl)
cut_at Mass letters = (refl, refl)
cut_at Armor letters = (refl, refl)
cut_at Range letters = (refl, refl)
cut_at Level letters = (refl, refl)
cut_at Rank letters = (refl, refl)
cut_at Sleeping letters = (refl, refl)
cut_at Marked letters = (refl, refl)

-- the parts of a word that spells a field are the names of its kind and of its letter
kind_of : (word : List ℕ) (field : Field) → IsField field word → IsKind field.kind (front word)
kind_of word field spelled = ap front spelled ∙ (cut_at field.kind (axis_name field.axis)).0

axis_of : (word : List ℕ) (field : Field) → IsField field word → IsAxis field.axis (rest word)
axis_of word field spelled = ap rest spelled ∙ (cut_at field.kind (axis_name field.axis)).1

abbrev field_with : Kind → Axis → Field
field_with kind axis = record { kind = kind; axis = axis }

-- a word whose parts spell a kind and a letter spells their field, and no other
pub only_field : (word before after : List ℕ) (kind : Kind) (axis : Axis) → word ≡ before ++ 46 ∷ after → before ≡ front word → after ≡ rest word
    → SpellsOnly IsKind before kind → SpellsOnly IsAxis after axis → SpellsOnly IsField word (field_with kind axis)
only_field word before after kind axis whole before-is after-is named lettered = (
  whole ∙ ap₂ (λ xs ys. xs ++ 46 ∷ ys) named.0 lettered.0,
  λ field spelled. ap₂ field_with (named.1 field.kind (before-is ∙ kind_of word field spelled)) (lettered.1 field.axis (after-is ∙ axis_of word field spelled)),
)

-- a word whose first part names no kind, or whose second is no letter, spells no field
pub no_kind : (word before : List ℕ) → before ≡ front word → SpellsNone IsKind before → SpellsNone IsField word
no_kind word before before-is none field spelled = none field.kind (before-is ∙ kind_of word field spelled)

pub no_axis : (word after : List ℕ) → after ≡ rest word → SpellsNone IsAxis after → SpellsNone IsField word
no_axis word after after-is none field spelled = none field.axis (after-is ∙ axis_of word field spelled)

-- a point stands where it was put
at_point : (xs ys : List ℕ) → ((i : ℕ) → i < length (xs ++ 46 ∷ ys) → get_or (xs ++ 46 ∷ ys) i 0 ≢ 46) → ⊥
at_point [] ys none = none 0 (omega arith) refl
at_point (x ∷ xs) ys none = at_point xs ys (λ i below. none (suc i) (omega arith))

-- nor does one without a point
pub no_point : (word : List ℕ) → ((i : ℕ) → i < length word → get_or word i 0 ≢ 46) → SpellsNone IsField word
no_point word none field spelled = at_point (kind_name field.kind) (axis_name field.axis) (rw spelled at none)

-- ---- targets

-- whether a word has a point, and whether it begins as a register does
abbrev has_point : List ℕ → Bool
has_point [] = false
has_point (c ∷ cs) = cond (eqb c 46) true (has_point cs)

abbrev begins : List ℕ → Bool
begins [] = false
begins (c ∷ cs) = eqb c 114

pointed : (xs ys : List ℕ) → has_point (xs ++ 46 ∷ ys) ≡ true
pointed [] ys = refl
pointed (x ∷ xs) ys = elim (cases_Bool (eqb x 46)) [
  | inl e ↦ rw e refl
  | inr e ↦ rw e (pointed xs ys)
]

-- no field and no resource is spelled as a register is, and no resource as a field is
field_begins : (kind : Kind) (letters : List ℕ) → begins (kind_name kind ++ 46 ∷ letters) ≡ false
field_begins Position letters = refl
field_begins Velocity letters = refl
field_begins Health letters = refl
field_begins Damage letters = refl
field_begins Team letters = refl
field_begins Timer letters = refl
field_begins Score letters = refl
field_begins Energy letters = refl
field_begins Charge letters = refl
field_begins Target letters = refl
field_begins Frozen letters = refl
field_begins Hidden letters = refl
field_begins Home letters = refl
field_begins Mass letters = refl
field_begins Armor letters = refl
field_begins Range letters = refl
field_begins Level letters = refl
field_begins Rank letters = refl
field_begins Sleeping letters = refl
field_begins Marked letters = refl

resource_is : (resource : Res) → (begins (res_name resource) ≡ false) × (has_point (res_name resource) ≡ false)
resource_is res.Round = (refl, refl)
resource_is res.Gravity = (refl, refl)
resource_is res.Total = (refl, refl)
resource_is res.Seed = (refl, refl)
resource_is res.Limit = (refl, refl)
resource_is res.Alarm = (refl, refl)
resource_is res.Mode = (refl, refl)
resource_is res.Step = (refl, refl)

register_or_field : (word : List ℕ) (n : ℕ) (field : Field) → IsRegister n word → IsField field word → ⊥
register_or_field word n field numbered spelled =
    let one : begins word ≡ true = ap begins numbered.2 in
    let other : begins word ≡ false = ap begins spelled ∙ field_begins field.kind (axis_name field.axis) in
    cc

register_or_resource : (word : List ℕ) (n : ℕ) (resource : Res) → IsRegister n word → IsRes resource word → ⊥
register_or_resource word n resource numbered spelled =
    let one : begins word ≡ true = ap begins numbered.2 in
    let other : begins word ≡ false = ap begins spelled ∙ (resource_is resource).0 in
    cc

field_or_resource : (word : List ℕ) (field : Field) (resource : Res) → IsField field word → IsRes resource word → ⊥
field_or_resource word field resource spelled named =
    let one : has_point word ≡ true = ap has_point spelled ∙ pointed (kind_name field.kind) (axis_name field.axis) in
    let other : has_point word ≡ false = ap has_point named ∙ (resource_is resource).1 in
    cc

-- a word that spells one register, or resource, or field, spells no other target
pub only_register : (word : List ℕ) (n : ℕ) → SpellsOnly IsRegister word n → (t : ATarget) → IsTarget t word → t ≡ target.Register n
only_register word n only (target.Register m) spelled = ap target.Register (only.1 m spelled)
only_register word n only (target.Field field) spelled = absurd (register_or_field word n field only.0 spelled)
only_register word n only (target.Resource resource) spelled = absurd (register_or_resource word n resource only.0 spelled)

pub only_resource : (word : List ℕ) (resource : Res) → SpellsOnly IsRes word resource → (t : ATarget) → IsTarget t word → t ≡ target.Resource resource
only_resource word resource only (target.Register m) spelled = absurd (register_or_resource word m resource spelled only.0)
only_resource word resource only (target.Field field) spelled = absurd (field_or_resource word field resource spelled only.0)
only_resource word resource only (target.Resource other) spelled = ap target.Resource (only.1 other spelled)

pub only_one_field : (word : List ℕ) (field : Field) → SpellsOnly IsField word field → (t : ATarget) → IsTarget t word → t ≡ target.Field field
only_one_field word field only (target.Register m) spelled = absurd (register_or_field word m field spelled only.0)
only_one_field word field only (target.Field other) spelled = ap target.Field (only.1 other spelled)
only_one_field word field only (target.Resource resource) spelled = absurd (field_or_resource word field resource only.0 spelled)
