use Rattle.archetype_store.proofs.Common.{ℕ, nat_eq, ap, ap₂, ◌∙◌, lookup}
use Rattle.std.proofs.lemmas.List.Elements.{same_from_all_zip}
use Rattle.archetype_store.proofs.table_words.TableWords.copy.Goals as goal

pub returns : goal.returns
returns c = λ word. ap (lookup (nat_eq word)) (same_from_all_zip _ c.self.inside.by_word.entries c.in_ok-by_word.by_word.entries c.in_ok-by_word.ensures.cases (λ p q h. ap₂ (λ (a b : ℕ). (a, b)) h.0 h.1) ∙ c.self.view_is)
