-- The words that an outcome writes have their kinds' widths.
use Rattle.std.proofs.Common.{◌≡◌, ℕ, cond, sym, ap, ◌∙◌, List, [], ◌∷◌, length, ℤ, Option, Some, None, ◌==◌}
use Rattle.std.proofs.lemmas.Bool.{cond_both}
use Rattle.model.specs.Lists.{first_some, is_number}
use Rattle.model.specs.access.Query.{Term, written}
use Rattle.model.specs.shown.Input.{ShownRow}
use Rattle.model.specs.shown.Outcome.{words_in_row, words_in_query, words_written, AreValues, AreRowValues, AreCells}
use Rattle.model.proofs.lists.Members.{number-of}

-- words that are there have the width of a kind
abbrev pub HaveWidth : ℕ → Option (List ℤ) → Type 0
HaveWidth width o = (words : List ℤ) → o ≡ Some words → length words ≡ width

-- the first of two
width-first_some : (width : ℕ) (o p : Option (List ℤ)) → HaveWidth width o → HaveWidth width p → HaveWidth width (first_some o p)
width-first_some width None p h k = k
width-first_some width (Some v) p h k = h

-- nothing
width-None : (width : ℕ) → HaveWidth width None
width-None width words e = absurd (let f = e in cc)

-- what one term writes
width-term : (widths : ℕ → ℕ) (kind : ℕ) (t : Term) (words : List ℤ) → ((k : ℕ) × (written t ≡ Some k) × (length words ≡ widths k))
    → HaveWidth (widths kind) (cond (is_number kind (written t)) (Some words) None)
width-term widths kind t words h = cond_both (is_number kind (written t)) (Some words) None (HaveWidth (widths kind))
    (λ e v same. let w : words ≡ v = cc in let k : h.0 ≡ kind = go h.0 (sym h.1 ∙ number-of kind (written t) e) in ap length (sym w) ∙ h.2 ∙ ap widths k)
    (λ e. width-None (widths kind))
  where
    go : (k : ℕ) → ◌≡◌ {A = Option ℕ} (Some k) (Some kind) → k ≡ kind
    go k e = cc

-- what one row's values write at a kind
width-row : (widths : ℕ → ℕ) (query : List Term) (values : List (Option (List ℤ))) (kind : ℕ) → AreValues widths query values
    → HaveWidth (widths kind) (words_in_row query values kind)
width-row widths [] values kind h = width-None (widths kind)
width-row widths (t ∷ ts) [] kind h = width-None (widths kind)
width-row widths (t ∷ ts) (None ∷ vs) kind h = width-first_some (widths kind) (cond (is_number kind (written t)) None None) (words_in_row ts vs kind)
    (cond_both (is_number kind (written t)) None None (HaveWidth (widths kind)) (λ e. width-None (widths kind)) (λ e. width-None (widths kind)))
    (width-row widths ts vs kind h)
width-row widths (t ∷ ts) (Some words ∷ vs) kind h = width-first_some (widths kind) (cond (is_number kind (written t)) (Some words) None) (words_in_row ts vs kind)
    (width-term widths kind t words h.0) (width-row widths ts vs kind h.1)

-- what one query's rows write at a kind of an index
width-query : (widths : ℕ → ℕ) (query : List Term) (rows : List ShownRow) (cells : List (List (Option (List ℤ)))) (index kind : ℕ)
    → AreRowValues widths query rows cells → HaveWidth (widths kind) (words_in_query query rows cells index kind)
width-query widths query [] cells index kind h = width-None (widths kind)
width-query widths query (row ∷ rows) [] index kind h = absurd h
width-query widths query (row ∷ rows) (values ∷ cells) index kind h =
    width-first_some (widths kind) (cond (row.entity.index == index) (words_in_row query values kind) None) (words_in_query query rows cells index kind)
    (cond_both (row.entity.index == index) (words_in_row query values kind) None (HaveWidth (widths kind)) (λ e. width-row widths query values kind h.0) (λ e. width-None (widths kind)))
    (width-query widths query rows cells index kind h.1)

-- what all write at a kind of an index
pub width-written : (widths : ℕ → ℕ) (queries : List (List Term)) (rows : List (List ShownRow)) (cells : List (List (List (Option (List ℤ))))) (index kind : ℕ)
    → AreCells widths queries rows cells → HaveWidth (widths kind) (words_written queries rows cells index kind)
width-written widths [] rows cells index kind h = width-None (widths kind)
width-written widths (query ∷ queries) [] cells index kind h = width-None (widths kind)
width-written widths (query ∷ queries) (rows ∷ more) [] index kind h = width-None (widths kind)
width-written widths (query ∷ queries) (rows ∷ more) (cells ∷ others) index kind h =
    width-first_some (widths kind) (words_in_query query rows cells index kind) (words_written queries more others index kind)
    (width-query widths query rows cells index kind h.0) (width-written widths queries more others index kind h.1)
