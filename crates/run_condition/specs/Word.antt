-- The words that begin a condition.
use Rattle.std.specs.Prelude.{◌≡◌, ℕ, List, codes}
use Rattle.run_condition.specs.declared.word.Word.{Word}
use Rattle.run_condition.specs.declared.word.Word.TheVariants.{RunOnce, ResourceEquals, ResourceAtLeast, ResourceChanged, AnyWith, OnEvent, Not, And, Or}

-- how a word is written
abbrev pub word_text : Word → List ℕ
word_text RunOnce = codes "run_once"
word_text ResourceEquals = codes "resource_equals"
word_text ResourceAtLeast = codes "resource_at_least"
word_text ResourceChanged = codes "resource_changed"
word_text AnyWith = codes "any_with"
word_text OnEvent = codes "on_event"
word_text Not = codes "not"
word_text And = codes "and"
word_text Or = codes "or"

-- the text is the word
abbrev pub IsConditionWord : Word → List ℕ → Type 0
IsConditionWord word text = text ≡ word_text word
