-- The text of a query: terms with commas between, a term's words with spaces between.
use Rattle.std.specs.Prelude.{◌≡◌, ℕ, false, List, [], ◌∷◌, codes}
use Rattle.model.specs.access.Query.{Term as ModelTerm}
use Rattle.model.specs.access.QueryFaults.{has_many_ors}
use Rattle.kinds.specs.Kind.{IsKind}
use Rattle.parsing.specs.Reads.{SpellsSeen}
use Rattle.parsing.specs.Words.{AreSpaces, ByWords}
use Rattle.parsing.specs.Parts.{ByParts}
use Rattle.query.specs.declared.alternative.Alternative.{Alternative}
use Rattle.query.specs.declared.alternative.Alternative.TheVariants as alternative
use Rattle.query.specs.declared.alternative.Alternatives.TheVariants.{Two, Three, Four}
use Rattle.query.specs.declared.term.Term.{Term}
use Rattle.query.specs.declared.term.Term.TheVariants.{Entity, Read, Mut, Opt, With, Without, Added, Changed, Or}
use Rattle.query.specs.Term.{term_of}

-- the words are those of an alternative: `with` or `without`, and the name of its kind
abbrev pub AreAlternative : Alternative → List (List ℕ) → Type 0
AreAlternative (alternative.With kind) (word ∷ name ∷ []) = (word ≡ codes "with") × IsKind kind name
AreAlternative (alternative.Without kind) (word ∷ name ∷ []) = (word ≡ codes "without") × IsKind kind name
AreAlternative _ _ = ⊥

-- the words are those of a term: `entity`, or the word of the term and the name of its kind, or `or` and two to four alternatives
abbrev pub AreTerm : Term → List (List ℕ) → Type 0
AreTerm Entity (word ∷ []) = word ≡ codes "entity"
AreTerm (Read kind) (word ∷ name ∷ []) = (word ≡ codes "read") × IsKind kind name
AreTerm (Mut kind) (word ∷ name ∷ []) = (word ≡ codes "mut") × IsKind kind name
AreTerm (Opt kind) (word ∷ name ∷ []) = (word ≡ codes "opt") × IsKind kind name
AreTerm (With kind) (word ∷ name ∷ []) = (word ≡ codes "with") × IsKind kind name
AreTerm (Without kind) (word ∷ name ∷ []) = (word ≡ codes "without") × IsKind kind name
AreTerm (Added kind) (word ∷ name ∷ []) = (word ≡ codes "added") × IsKind kind name
AreTerm (Changed kind) (word ∷ name ∷ []) = (word ≡ codes "changed") × IsKind kind name
AreTerm (Or (Two (a ∷ b ∷ []))) (word ∷ u ∷ k ∷ v ∷ l ∷ []) = (word ≡ codes "or") × AreAlternative a (u ∷ k ∷ []) × AreAlternative b (v ∷ l ∷ [])
AreTerm (Or (Three (a ∷ b ∷ c ∷ []))) (word ∷ u ∷ k ∷ v ∷ l ∷ w ∷ m ∷ []) =
    (word ≡ codes "or") × AreAlternative a (u ∷ k ∷ []) × AreAlternative b (v ∷ l ∷ []) × AreAlternative c (w ∷ m ∷ [])
AreTerm (Or (Four (a ∷ b ∷ c ∷ d ∷ []))) (word ∷ u ∷ k ∷ v ∷ l ∷ w ∷ m ∷ x ∷ n ∷ []) =
    (word ≡ codes "or") × AreAlternative a (u ∷ k ∷ []) × AreAlternative b (v ∷ l ∷ []) × AreAlternative c (w ∷ m ∷ []) × AreAlternative d (x ∷ n ∷ [])
AreTerm _ _ = ⊥

-- the text is that of a term
abbrev pub IsTerm : Term → List ℕ → Type 0
IsTerm term text = ByWords AreTerm term text

-- the text is that of these terms: spaces alone for none, else a term between each two commas
abbrev pub AreTerms : List ModelTerm → List ℕ → Type 0
AreTerms [] text = AreSpaces text
AreTerms (term ∷ terms) text = ByParts (SpellsSeen term_of IsTerm) (term ∷ terms) text

-- the text is that of a query: of terms with no more than two `or` terms among them
abbrev pub IsQuery : List ModelTerm → List ℕ → Type 0
IsQuery query text = AreTerms query text × (has_many_ors query ≡ false)
