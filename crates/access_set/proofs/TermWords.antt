-- The words of a query, term by term.
use Rattle.std.proofs.Common.{ℕ, ◌+◌, ◌<◌, ◌≤◌, ◌≡◌, Bool, true, false, ◌||◌, List, length, map, drop, get_or, Option, refl, sym, ap, ◌∙◌}
use Rattle.std.specs.List.{list_any}
use Rattle.std.proofs.lemmas.List.{drop_more, drop_all}
use Rattle.model.specs.Lists.{is_number}
use Rattle.model.specs.access.Query.{Term as ModelTerm}
use Rattle.query.specs.declared.term.Term.{Term}
use Rattle.query.specs.Term.{term_of}
use Rattle.query.proofs.Terms.{any_of_terms}
use Rattle.access_set.specs.Footprints.{has_bit}
use Rattle.access_set.proofs.Bits.{no_bit}

-- the word and the terms from a place on say of each kind what all terms say
abbrev pub IsSaid : (ModelTerm → Option ℕ) → List Term → ℕ → ℕ → Type 0
IsSaid f terms place word = (kind : ℕ) → (has_bit word kind || list_any (λ t. is_number kind (f (term_of t))) (drop place terms)) ≡ list_any (λ t. is_number kind (f (term_of t))) terms

pub said_first : (f : ModelTerm → Option ℕ) (terms : List Term) → IsSaid f terms 0 0
said_first f terms = λ kind. ap (λ b. b || list_any (λ t. is_number kind (f (term_of t))) terms) (no_bit kind)

-- what a word says with the kind that a term may name, said of the term
pub said_of : (word more kind : ℕ) (named there : Option ℕ) → has_bit more kind ≡ (is_number kind named || has_bit word kind) → named ≡ there →
    has_bit more kind ≡ (is_number kind there || has_bit word kind)
said_of word more kind named there is same = is ∙ ap (λ o. is_number kind o || has_bit word kind) same

or_moved : (a b c : Bool) → ((a || b) || c) ≡ (b || (a || c))
or_moved true true c = refl
or_moved true false c = refl
or_moved false b c = refl

-- with one term more
pub said_next : (f : ModelTerm → Option ℕ) (terms : List Term) (place word more : ℕ) (d : Term) → place < length terms → IsSaid f terms place word →
    ((kind : ℕ) → has_bit more kind ≡ (is_number kind (f (term_of (get_or terms place d))) || has_bit word kind)) → IsSaid f terms (place + 1) more
said_next f terms place word more d low is set_there = λ kind.
    ap (λ b. b || list_any (λ t. is_number kind (f (term_of t))) (drop (place + 1) terms)) (set_there kind)
    ∙ (or_moved (is_number kind (f (term_of (get_or terms place d)))) (has_bit word kind) (list_any (λ t. is_number kind (f (term_of t))) (drop (place + 1) terms))
    ∙ (sym (ap (λ (ts : List Term). has_bit word kind || list_any (λ t. is_number kind (f (term_of t))) ts) (drop_more terms place d low))
    ∙ is kind))

or_none : (a : Bool) → a ≡ (a || false)
or_none true = refl
or_none false = refl

-- with all of them the word says what the query does
pub said_last : (f : ModelTerm → Option ℕ) (query : List ModelTerm) (terms : List Term) (place word : ℕ) → map term_of terms ≡ query → length terms ≤ place → IsSaid f terms place word →
    (kind : ℕ) → has_bit word kind ≡ list_any (λ t. is_number kind (f t)) query
said_last f query terms place word same past is = λ kind.
    or_none (has_bit word kind)
    ∙ (sym (ap (λ (ts : List Term). has_bit word kind || list_any (λ t. is_number kind (f (term_of t))) ts) (drop_all place terms past))
    ∙ (is kind
    ∙ (sym (any_of_terms (λ t. is_number kind (f t)) terms)
    ∙ ap (λ (ts : List ModelTerm). list_any (λ t. is_number kind (f t)) ts) same)))
