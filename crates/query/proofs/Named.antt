-- The kinds that terms name: those that they require, fetch, exclude or read where they are there.
use Rattle.std.proofs.Common.{◌≡◌, ℕ, Bool, true, ◌||◌, ◌&&◌, List, [], ◌∷◌, map, Option, Some, None, refl, sym, ap, ◌∙◌, inl, inr}
use mathlib.Core.Path.{fun_ext}
use Rattle.std.proofs.lemmas.Bool.{and_parts, and_from, false≢true}
use Rattle.std.specs.Cmp.{both_ways}
use Rattle.std.specs.List.{list_any, filter_map, cons_option}
use Rattle.model.specs.Lists.{has, is_number, IsIn}
use Rattle.model.specs.access.Query.{Term as ModelTerm}
use Rattle.model.specs.access.QueryFaults.{required, optional, excluded, excludes_kind}
use Rattle.model.proofs.lists.Lists.{list_any-IsIn, IsIn_from_any, has-IsIn, IsIn_from_has}
use Rattle.model.proofs.order.Histories.{same_or}
use Rattle.kinds.specs.declared.kind.Kind.{Kind}
use Rattle.kinds.specs.declared.kind.Kind.TheVariants.{Position}
use Rattle.kinds.specs.Kind.{kind_count, kind_number, numbers_from}
use Rattle.query.specs.declared.term.Term.{Term}
use Rattle.query.specs.declared.term.Term.TheVariants.{Entity, Read, Mut, Opt, With, Without, Added, Changed, Or}
use Rattle.query.specs.Term.{term_of}
use Rattle.query.specs.Named.{any_names, names_excluded}
use Rattle.query.proofs.Terms.{list_any-map, any_of_terms}

-- ---- some term names the kind

-- one more kind that may be there
has-cons_option : (kind : ℕ) (o : Option ℕ) (x : Bool) (ks : List ℕ) → x ≡ has kind ks → (is_number kind o || x) ≡ has kind (cons_option o ks)
has-cons_option kind None x ks e = e
has-cons_option kind (Some k) x ks e = ap (λ b. is_number kind (Some k) || b) e

-- some of these terms names the kind just where it is among what they name
pub named-among : (named : ModelTerm → Option ℕ) (kind : ℕ) (ts : List Term) → any_names named ts kind ≡ has kind (filter_map named (map term_of ts))
named-among named kind [] = refl
named-among named kind (t ∷ ts) = has-cons_option kind (named (term_of t)) _ (filter_map named (map term_of ts)) (named-among named kind ts)

-- ---- all kinds

-- the numbers of all kinds
abbrev every_kind : List ℕ
every_kind = numbers_from 0 kind_count

-- the number of a kind, where there is one
abbrev pub IsKindNumber : Option ℕ → Type 0
IsKindNumber None = Unit {0}
IsKindNumber (Some k) = has k (numbers_from 0 kind_count) ≡ true

-- each kind is among all kinds
kind_listed : (kind : Kind) → IsKindNumber (Some (kind_number kind))
kind_listed Position = refl
kind_listed _ = refl

-- what a term requires is a kind
pub required_listed : (t : Term) → IsKindNumber (required (term_of t))
required_listed Entity = tt
required_listed (Read kind) = kind_listed kind
required_listed (Mut kind) = kind_listed kind
required_listed (Opt kind) = tt
required_listed (With kind) = kind_listed kind
required_listed (Without kind) = tt
required_listed (Or alternatives) = tt
required_listed (Added kind) = kind_listed kind
required_listed (Changed kind) = kind_listed kind

-- what an `opt` term names is a kind
pub optional_listed : (t : Term) → IsKindNumber (optional (term_of t))
optional_listed (Opt kind) = kind_listed kind
optional_listed _ = tt

-- a kind that is named first, or later
listed_either : (kind : ℕ) (o : Option ℕ) (ks : List ℕ) → IsKindNumber o → (has kind ks ≡ true → has kind every_kind ≡ true) →
    has kind (cons_option o ks) ≡ true → has kind every_kind ≡ true
listed_either kind None ks is later h = later h
listed_either kind (Some n) ks is later h = elim (same_or n kind (has kind ks) h) [
  | inl same ↦ ap (λ m. has m every_kind) (sym same) ∙ is
  | inr there ↦ later there
]

-- what terms name are kinds
named_listed : (named : ModelTerm → Option ℕ) (ts : List Term) → ((t : Term) → IsKindNumber (named (term_of t))) → (kind : ℕ) →
    has kind (filter_map named (map term_of ts)) ≡ true → has kind every_kind ≡ true
named_listed named [] listed kind h = absurd (false≢true h)
named_listed named (t ∷ ts) listed kind h =
    listed_either kind (named (term_of t)) (filter_map named (map term_of ts)) (listed t) (named_listed named ts listed kind) h

-- ---- a test of what terms name

-- some number of a list passes a test just where some of more numbers does that is among the list
any_among : (test among : ℕ → Bool) (xs ks : List ℕ) → ((k : ℕ) → among k ≡ has k xs) → ((k : ℕ) → has k xs ≡ true → has k ks ≡ true) →
    list_any (λ k. among k && test k) ks ≡ list_any test xs
any_among test among xs ks same known = both_ways _ _ found sought
  where
    found : list_any (λ k. among k && test k) ks ≡ true → list_any test xs ≡ true
    found e =
        let k : (k : ℕ) × IsIn k ks × ((among k && test k) ≡ true) = IsIn_from_any (λ k. among k && test k) ks e in
        let parts = and_parts (among k.0) (test k.0) k.2 in
        list_any-IsIn test k.0 xs (IsIn_from_has k.0 xs (sym (same k.0) ∙ parts.0)) parts.1

    sought : list_any test xs ≡ true → list_any (λ k. among k && test k) ks ≡ true
    sought e =
        let x : (x : ℕ) × IsIn x xs × (test x ≡ true) = IsIn_from_any test xs e in
        let here = has-IsIn x.0 xs x.1 in
        list_any-IsIn (λ k. among k && test k) x.0 ks (IsIn_from_has x.0 ks (known x.0 here)) (and_from _ _ (same x.0 ∙ here) x.2)

-- some of all kinds is named and excluded just where some kind that is named is excluded
pub any_excluded : (named : ModelTerm → Option ℕ) (ts : List Term) (kinds : List Kind) → ((t : Term) → IsKindNumber (named (term_of t))) →
    map kind_number kinds ≡ numbers_from 0 kind_count →
    list_any (λ kind. names_excluded named ts (kind_number kind)) kinds ≡ list_any (excludes_kind (map term_of ts)) (filter_map named (map term_of ts))
any_excluded named ts kinds listed all =
    sym (list_any-map (names_excluded named ts) kind_number kinds) ∙ ap (list_any (names_excluded named ts)) all
    ∙ any_among (any_names excluded ts) (any_names named ts) (filter_map named (map term_of ts)) every_kind
    (λ k. named-among named k ts) (named_listed named ts listed)
    ∙ ap (λ test. list_any test (filter_map named (map term_of ts))) (fun_ext (λ k. sym (any_of_terms (λ t. is_number k (excluded t)) ts)))
