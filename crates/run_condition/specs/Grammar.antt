-- The text of a condition: a word, and behind it, but for `run_once`, brackets with something inside. Spaces may stand round
-- brackets and commas, and at either end.
use Rattle.std.specs.Prelude.{◌≡◌, ℕ, ℤ, Bool, false, ◌||◌, ◌==◌, ◌-◌, ◌<◌, List, [], ◌∷◌, ◌++◌, Option, None, Some}
use Rattle.std.specs.List.{AllByRecursion}
use Rattle.model.specs.access.Condition.{Condition}
use Rattle.kinds.specs.declared.res.Res.{Res}
use Rattle.kinds.specs.Res.{IsRes, IsEvent, res_number, event_number}
use Rattle.parsing.specs.Integer.{IsInteger}
use Rattle.parsing.specs.Reads.{SpellsSeen}
use Rattle.parsing.specs.Words.{AreSpaces, AreWordsOf, Lacks}
use Rattle.parsing.specs.Parts.{ArePartsOf}
use Rattle.query.specs.Grammar.{IsQuery}
use Rattle.run_condition.specs.declared.word.Word.{Word}
use Rattle.run_condition.specs.declared.word.Word.TheVariants as word
use Rattle.run_condition.specs.Word.{word_text}

-- ---- a word, with or without brackets

-- a bracket (40, 41) or a comma (44)
abbrev pub is_mark : ℕ → Bool
is_mark b = b == 40 || b == 41 || b == 44

-- no bracket and no comma
abbrev pub ArePlain : List ℕ → Type 0
ArePlain text = AllByRecursion (λ b. is_mark b ≡ false) text

-- one word, without bracket or comma, and spaces round it
abbrev pub IsName : List ℕ → List ℕ → Type 0
IsName name text = AreWordsOf (name ∷ []) text × ArePlain text

-- a word alone, or a word and brackets with something inside
abbrev pub HasShape : List ℕ → Option (List ℕ) → List ℕ → Type 0
HasShape name None text = IsName name text
HasShape name (Some inside) text =
    (head : List ℕ) × (tail : List ℕ) × IsName name head × AreSpaces tail × (text ≡ head ++ 40 ∷ (inside ++ 41 ∷ tail))

-- a text whose word and inside are as asked
abbrev pub IsText : (Word → Option (List ℕ) → Type 0) → List ℕ → Type 0
IsText Made text = (w : Word) × (inside : Option (List ℕ)) × HasShape (word_text w) inside text × Made w inside

-- two texts with a comma between
abbrev pub AreTwo : (List ℕ → Type 0) → (List ℕ → Type 0) → List ℕ → Type 0
AreTwo Left Right text = (left : List ℕ) × (right : List ℕ) × Left left × Right right × (text ≡ left ++ 44 ∷ right)

-- ---- what stands inside of the brackets of a condition that holds no other

-- a text of one word, which spells a value
abbrev pub ByWord : {A : Type 0} → (A → List ℕ → Type 0) → A → List ℕ → Type 0
ByWord Spells x text = (word : List ℕ) × AreWordsOf (word ∷ []) text × Spells x word

-- a resource and an integer
abbrev pub AreResAndInteger : Res × ℤ → List ℕ → Type 0
AreResAndInteger v text =
    (left : List ℕ) × (right : List ℕ) × ArePartsOf (left ∷ right ∷ []) text × ByWord IsRes v.0 left × ByWord IsInteger v.1 right

-- a resource and an integer, with the resource's number
abbrev pub AreNumberAndInteger : ℕ × ℤ → List ℕ → Type 0
AreNumberAndInteger v text = SpellsSeen (λ (p : Res × ℤ). (res_number p.0, p.1)) AreResAndInteger v text

-- the word that stands alone
abbrev pub IsAlone : Condition → Word → Type 0
IsAlone Condition.RunOnce word.RunOnce = Unit {0}
IsAlone _ _ = ⊥

-- of each word what is inside
abbrev pub IsLeaf : Condition → Word → List ℕ → Type 0
IsLeaf (Condition.ResourceEquals n v) word.ResourceEquals inside = AreNumberAndInteger (n, v) inside
IsLeaf (Condition.ResourceAtLeast n v) word.ResourceAtLeast inside = AreNumberAndInteger (n, v) inside
IsLeaf (Condition.ResourceChanged n) word.ResourceChanged inside = SpellsSeen res_number (ByWord IsRes) n inside
IsLeaf (Condition.AnyWith q) word.AnyWith inside = IsQuery q inside
IsLeaf (Condition.OnEvent k) word.OnEvent inside = SpellsSeen event_number (ByWord IsEvent) k inside
IsLeaf _ _ _ = ⊥

-- ---- conditions

-- the word and the inside are those of a condition in which `not`, `and` and `or` nest at most so deep. What is inside of
-- other brackets ends at the next closing one
abbrev pub IsMade : ℕ → Condition → Word → Option (List ℕ) → Type 0
IsMade depth c w None = IsAlone c w
IsMade depth (Condition.Not c) word.Not (Some inside) = (0 < depth) × IsText (IsMade (depth - 1) c) inside
IsMade depth (Condition.And c d) word.And (Some inside) =
    (0 < depth) × AreTwo (IsText (IsMade (depth - 1) c)) (IsText (IsMade (depth - 1) d)) inside
IsMade depth (Condition.Or c d) word.Or (Some inside) =
    (0 < depth) × AreTwo (IsText (IsMade (depth - 1) c)) (IsText (IsMade (depth - 1) d)) inside
IsMade depth c w (Some inside) = Lacks 41 inside × IsLeaf c w inside

-- the text is that of a condition, in which `not`, `and` and `or` nest at most so deep
abbrev pub IsConditionWithin : ℕ → Condition → List ℕ → Type 0
IsConditionWithin depth c text = IsText (IsMade depth c) text

-- how deep `not`, `and` and `or` may nest
abbrev pub deepest : ℕ
deepest = 16

-- the text is that of a condition
abbrev pub IsCondition : Condition → List ℕ → Type 0
IsCondition c text = IsConditionWithin deepest c text
