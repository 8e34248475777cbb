-- The choices of a query, term by term, and that their kinds have bits.
use Rattle.std.proofs.Common.{ℕ, zero, suc, ◌+◌, ◌<◌, ◌≤◌, ◌≡◌, Bool, true, false, not, ◌==◌, ◌||◌, inl, inr, List, [], ◌∷◌, ◌++◌, map, length, take, get_or, Option, Some, None, refl, sym, ap, ap₂, ◌∙◌, subst, append-nil, arith}
use Rattle.std.specs.List.{cons_option, list_any}
use Rattle.std.specs.Option.{option_map}
use Rattle.std.proofs.lemmas.List.{take_more, take_all, map-append}
use Rattle.std.proofs.lemmas.Bool.{eqb-true, or_parts}
use Rattle.model.specs.Lists.{IsIn}
use Rattle.model.specs.access.Query.{Alternative, Term as ModelTerm}
use Rattle.model.specs.access.Conflict.{choice, choices}
use Rattle.kinds.specs.Kind.{kind_number, kind_count, NumbersAreBelow}
use Rattle.query.specs.declared.alternative.Alternative.{Alternative as Code}
use Rattle.query.specs.declared.alternative.Alternative.TheVariants.{With, Without}
use Rattle.query.specs.declared.alternative.Alternatives.{Alternatives}
use Rattle.query.specs.declared.term.Term.{Term}
use Rattle.query.specs.Alternative.{alternative_of, alternatives_of, listed}
use Rattle.query.specs.Term.{term_of}
use Rattle.access_set.specs.declared.footprint.Way.{Way}
use Rattle.access_set.specs.Footprints.{kind_of, AreLow, way_with, kinds_met, met_in}
use Rattle.model.proofs.lists.Lists.{list_any-IsIn}
use Rattle.model.proofs.lists.Members.{in-map}

-- one term more
choices_more : (q : List ModelTerm) (t : ModelTerm) → choices (q ++ t ∷ []) ≡ (choices q ++ cons_option (choice t) [])
choices_more [] t = refl
choices_more (u ∷ q) t = go (choice u) (choices_more q t)
  where
    go : (o : Option (List Alternative)) → choices (q ++ t ∷ []) ≡ (choices q ++ cons_option (choice t) []) →
        cons_option o (choices (q ++ t ∷ [])) ≡ (cons_option o (choices q) ++ cons_option (choice t) [])
    go None rest = rest
    go (Some alternatives) rest = ap (λ more. alternatives ∷ more) rest

-- so far, and with the next term
choices_next : (terms : List Term) (i : ℕ) (d : Term) → i < length terms →
    choices (map term_of (take (i + 1) terms)) ≡ (choices (map term_of (take i terms)) ++ cons_option (choice (term_of (get_or terms i d))) [])
choices_next terms i d low =
    ap (λ (ts : List Term). choices (map term_of ts)) (take_more terms i d low)
    ∙ (ap choices (map-append term_of (take i terms) (get_or terms i d ∷ [])) ∙ choices_more (map term_of (take i terms)) (term_of (get_or terms i d)))

-- a term that leaves a choice
pub choice_taken : (terms : List Term) (i : ℕ) (d : Term) (items : List Alternatives) (one : Alternatives) (o : Option Alternatives) → i < length terms →
    map alternatives_of items ≡ choices (map term_of (take i terms)) → option_map alternatives_of o ≡ choice (term_of (get_or terms i d)) → o ≡ Some one →
    map alternatives_of (items ++ one ∷ []) ≡ choices (map term_of (take (i + 1) terms))
choice_taken terms i d items one o low so_far here is =
    map-append alternatives_of items (one ∷ [])
    ∙ (ap₂ (λ xs ys. xs ++ ys) so_far (ap (λ p. cons_option p []) (sym (ap (option_map alternatives_of) is) ∙ here))
    ∙ sym (choices_next terms i d low))

-- one that leaves none
pub choice_passed : (terms : List Term) (i : ℕ) (d : Term) (items : List Alternatives) (o : Option Alternatives) → i < length terms →
    map alternatives_of items ≡ choices (map term_of (take i terms)) → option_map alternatives_of o ≡ choice (term_of (get_or terms i d)) → o ≡ None →
    map alternatives_of items ≡ choices (map term_of (take (i + 1) terms))
choice_passed terms i d items o low so_far here is =
    so_far ∙ (sym (append-nil (choices (map term_of (take i terms))))
    ∙ (ap (λ ys. choices (map term_of (take i terms)) ++ ys) (ap (λ p. cons_option p []) (sym (ap (option_map alternatives_of) is) ∙ here))
    ∙ sym (choices_next terms i d low)))

-- ---- an alternative of the first choice

-- what is at a place is in the list
pub in_at : {A : Type 0} (xs : List A) (i : ℕ) (d : A) → i < length xs → IsIn (get_or xs i d) xs
in_at [] i d low = absurd (omega arith)
in_at (x ∷ xs) zero d low = inl refl
in_at (x ∷ xs) (suc i) d low = inr (in_at xs i d (omega arith))

-- where it has a way, so has the whole
pub met_found : (shared : ℕ) (way next : Way) (found : Bool) (all rest : List Alternatives) (first : Alternatives) (more : List (List Alternative)) (items : List Code) (i : ℕ) (d : Code) →
    all ≡ first ∷ rest → items ≡ listed first → i < length items → next ≡ way_with (alternative_of (get_or items i d)) way →
    found ≡ met_in shared next (map alternatives_of rest ++ more) → found ≡ true → true ≡ met_in shared way (map alternatives_of all ++ more)
met_found shared way next found all rest first more items i d is same low goes met true_there =
    sym (ap (λ (xs : List Alternatives). met_in shared way (map alternatives_of xs ++ more)) is
    ∙ (ap (λ (xs : List Code). list_any (λ a. met_in shared (way_with a way) (map alternatives_of rest ++ more)) (map alternative_of xs)) (sym same)
    ∙ list_any-IsIn (λ a. met_in shared (way_with a way) (map alternatives_of rest ++ more)) (alternative_of (get_or items i d)) (map alternative_of items)
    (in-map alternative_of items (get_or items i d) (in_at items i d low))
    (sym (ap (λ (x : Way). met_in shared x (map alternatives_of rest ++ more)) goes) ∙ (sym met ∙ true_there))))

-- ---- the ways that go on from one

-- with no choice left the shared kinds say it
pub met_end : (shared : ℕ) (way : Way) (choices more : List Alternatives) (kinds : ℕ) → length choices ≡ 0 → true ≡ (length more == 0) → kinds ≡ kinds_met shared way →
    not (kinds == 0) ≡ met_in shared way (map alternatives_of choices ++ map alternatives_of more)
met_end shared way [] [] kinds none empty is = ap (λ (word : ℕ). not (word == 0)) is
met_end shared way [] (x ∷ more) kinds none empty is = let zero : length (x ∷ more) ≡ 0 = eqb-true (length (x ∷ more)) 0 (sym empty) in absurd (omega arith)
met_end shared way (x ∷ choices) more kinds none empty is = absurd (omega arith)

-- with none left of the first query those of the second do
pub met_rest : (shared : ℕ) (way : Way) (choices more : List Alternatives) (found : Bool) → length choices ≡ 0 →
    found ≡ met_in shared way (map alternatives_of more ++ []) → found ≡ met_in shared way (map alternatives_of choices ++ map alternatives_of more)
met_rest shared way [] more found none is = is ∙ ap (met_in shared way) (append-nil (map alternatives_of more))
met_rest shared way (x ∷ choices) more found none is = absurd (omega arith)

-- none of some elements passes a test, nor does one more
none_behind : {A : Type 0} (test : A → Bool) (xs : List A) (x : A) → list_any test xs ≡ false → test x ≡ false → list_any test (xs ++ x ∷ []) ≡ false
none_behind test [] x none here = ap (λ b. b || false) here
none_behind test (y ∷ xs) x none here =
    let parts = or_parts (test y) (list_any test xs) none in
    ap (λ b. b || list_any test (xs ++ x ∷ [])) parts.0 ∙ none_behind test xs x parts.1 here

-- no alternative so far has a way, nor has the next
pub unmet_next : (shared : ℕ) (way next : Way) (found : Bool) (rest : List Alternatives) (more : List (List Alternative)) (items : List Code) (i : ℕ) (d : Code) →
    i < length items → next ≡ way_with (alternative_of (get_or items i d)) way → found ≡ met_in shared next (map alternatives_of rest ++ more) → found ≡ false →
    list_any (λ a. met_in shared (way_with a way) (map alternatives_of rest ++ more)) (map alternative_of (take i items)) ≡ false →
    list_any (λ a. met_in shared (way_with a way) (map alternatives_of rest ++ more)) (map alternative_of (take (i + 1) items)) ≡ false
unmet_next shared way next found rest more items i d low goes met unmet none =
    ap (λ (xs : List Code). list_any (λ a. met_in shared (way_with a way) (map alternatives_of rest ++ more)) (map alternative_of xs)) (take_more items i d low)
    ∙ (ap (λ (xs : List Alternative). list_any (λ a. met_in shared (way_with a way) (map alternatives_of rest ++ more)) xs) (map-append alternative_of (take i items) (get_or items i d ∷ []))
    ∙ none_behind (λ a. met_in shared (way_with a way) (map alternatives_of rest ++ more)) (map alternative_of (take i items)) (alternative_of (get_or items i d)) none
    (sym (ap (λ (x : Way). met_in shared x (map alternatives_of rest ++ more)) goes) ∙ (sym met ∙ unmet)))

-- where no alternative of the first choice has a way, neither has the whole
pub unmet_all : (shared : ℕ) (way : Way) (all rest : List Alternatives) (first : Alternatives) (more : List (List Alternative)) (items : List Code) (i : ℕ) →
    all ≡ first ∷ rest → items ≡ listed first → length items ≤ i →
    list_any (λ a. met_in shared (way_with a way) (map alternatives_of rest ++ more)) (map alternative_of (take i items)) ≡ false →
    false ≡ met_in shared way (map alternatives_of all ++ more)
unmet_all shared way all rest first more items i is same past none =
    sym (ap (λ (xs : List Alternatives). met_in shared way (map alternatives_of xs ++ more)) is
    ∙ (ap (λ (xs : List Code). list_any (λ a. met_in shared (way_with a way) (map alternatives_of rest ++ more)) (map alternative_of xs)) (sym (take_all i items past ∙ same))
    ∙ none))

-- ---- kinds have bits

low_alternative : NumbersAreBelow → (a : Code) → kind_of (alternative_of a) < 64
low_alternative below (With kind) = let e : kind_number kind < kind_count = below kind in omega arith
low_alternative below (Without kind) = let e : kind_number kind < kind_count = below kind in omega arith

low_one : NumbersAreBelow → (xs : List Code) (a : Alternative) → IsIn a (map alternative_of xs) → kind_of a < 64
low_one below [] a i = absurd i
low_one below (x ∷ xs) a (inl same) = subst (λ b. kind_of b < 64) (sym same) (low_alternative below x)
low_one below (x ∷ xs) a (inr more) = low_one below xs a more

pub low_choices : NumbersAreBelow → (more : List Alternatives) → AreLow (map alternatives_of more)
low_choices below [] = λ alternatives i. absurd i
low_choices below (x ∷ more) = λ alternatives i a inside. elim i [
  | inl same ↦ low_one below (listed x) a (subst (λ (xs : List Alternative). IsIn a xs) same inside)
  | inr i ↦ low_choices below more alternatives i a inside
]
