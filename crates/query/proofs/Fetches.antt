-- Whether some kind is fetched twice, from the first term on.
use Rattle.std.proofs.Common.{◌≡◌, ℕ, true, false, ◌||◌, List, ◌∷◌, Some, None, sym, ◌∙◌, ap, map}
use Rattle.std.proofs.lemmas.Bool.{or_left}
use Rattle.std.specs.List.{filter_map, cons_option}
use Rattle.model.specs.Lists.{has}
use Rattle.model.specs.access.Query.{Term}
use Rattle.model.specs.access.QueryFaults.{fetched, has_twice, fetches_twice}
use Rattle.query.specs.declared.term.Term.{Term as Code}
use Rattle.query.specs.Term.{term_of}
use Rattle.query.specs.Named.{any_names}
use Rattle.query.proofs.Named.{named-among}

-- what is fetched twice, where the first term fetches this kind
twice-first : (t : Code) (ts : List Code) (kind : ℕ) → Some kind ≡ fetched (term_of t) →
    fetches_twice (map term_of (t ∷ ts)) ≡ (has kind (filter_map fetched (map term_of ts)) || fetches_twice (map term_of ts))
twice-first t ts kind e = ap (λ o. has_twice (cons_option o (filter_map fetched (map term_of ts)))) (sym e)

-- the first of the terms that are left fetches a kind again
pub found_again : (all : List Term) (rest : List Code) (t : Code) (ts : List Code) (kind : ℕ)
    → fetches_twice all ≡ fetches_twice (map term_of rest) → rest ≡ t ∷ ts → Some kind ≡ fetched (term_of t)
    → any_names fetched ts kind ≡ true → fetches_twice all ≡ true
found_again all rest t ts kind same is fetching h = same ∙ ap (λ xs. fetches_twice (map term_of xs)) is ∙ twice-first t ts kind fetching
    ∙ or_left _ _ (sym (named-among fetched kind ts) ∙ h)

-- it fetches a kind that no later one fetches
pub found_once : (all : List Term) (rest : List Code) (t : Code) (ts : List Code) (kind : ℕ)
    → fetches_twice all ≡ fetches_twice (map term_of rest) → rest ≡ t ∷ ts → Some kind ≡ fetched (term_of t)
    → any_names fetched ts kind ≡ false → fetches_twice all ≡ fetches_twice (map term_of ts)
found_once all rest t ts kind same is fetching h = same ∙ ap (λ xs. fetches_twice (map term_of xs)) is ∙ twice-first t ts kind fetching
    ∙ ap (λ b. b || fetches_twice (map term_of ts)) (sym (named-among fetched kind ts) ∙ h)
