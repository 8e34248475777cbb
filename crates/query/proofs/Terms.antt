-- A test of the terms that contracts see is a test of the terms.
use Rattle.std.proofs.Common.{Bool, ◌||◌, ◌≡◌, List, [], ◌∷◌, map, refl, ap}
use Rattle.std.specs.List.{list_any}
use Rattle.model.specs.access.Query.{Term as ModelTerm}
use Rattle.query.specs.declared.term.Term.{Term}
use Rattle.query.specs.Term.{term_of}

-- a test of some of what a function gives
pub list_any-map : {A B : Type 0} (test : B → Bool) (f : A → B) (xs : List A) → list_any test (map f xs) ≡ list_any (λ x. test (f x)) xs
list_any-map test f [] = refl
list_any-map test f (x ∷ xs) = ap (λ b. test (f x) || b) (list_any-map test f xs)

-- for some term
pub any_of_terms : (test : ModelTerm → Bool) (terms : List Term) → list_any test (map term_of terms) ≡ list_any (λ t. test (term_of t)) terms
any_of_terms test terms = list_any-map test term_of terms

-- a test of numbers is one of the kinds that have them
pub ruleset of_kinds = (list_any-map)
