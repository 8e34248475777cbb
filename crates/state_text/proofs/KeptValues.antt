-- The kept values of an event kind: they are unread from the first number on, and with their numbers they make its queue.
use Rattle.std.proofs.Common.{◌≡◌, ℕ, suc, ◌+◌, ◌≤◌, ℤ, List, [], ◌∷◌, ◌++◌, length, map, filter, nat_le, refl, ap, ap₂, ◌∙◌, arith, le-leb, append_assoc, length-append, sym, w64}
use Rattle.std.specs.Prelude.{FitsSigned}
use Rattle.std.specs.List.{AllByRecursion}
use Rattle.std.proofs.lemmas.Bool.{cond-true}
use Rattle.std.proofs.lemmas.Grind.{flat_map-append}
use Rattle.model.specs.state.State.{Event, EventQueue, event_count, last_tick}
use Rattle.model.specs.state.Events.{queue_of, unread}
use Rattle.model.specs.state.Shape.{AreNumbered, IsQueue}
use Rattle.event_buffers.specs.Queue.{numbered, queue_of_parts}
use Rattle.state_text.specs.StateText.{word_text, words_text}

-- the events from the first number on are all of them
all_there : (es : List Event) → filter (λ (e : Event). nat_le 0 e.number) es ≡ es
all_there [] = refl
all_there (e ∷ es) = cond-true (nat_le 0 e.number) (e ∷ filter (λ (e : Event). nat_le 0 e.number) es) (filter (λ (e : Event). nat_le 0 e.number) es) (le-leb 0 e.number (omega arith)) ∙ ap (λ rest. e ∷ rest) (all_there es)

-- so are the values
pub unread-all : (q : EventQueue) → unread q 0 ≡ map (λ (e : Event). e.value) q.kept
unread-all q = ap (map (λ (e : Event). e.value)) (all_there q.kept)

-- the values of the older buffer, then those of the newer one, are the kept values
pub kept_words : (q : EventQueue) (older newer : List ℤ) (first now next : List ℕ) → older ++ newer ≡ unread q 0 → now ≡ first ++ words_text older
    → next ≡ now ++ words_text newer → next ≡ first ++ words_text (map (λ (e : Event). e.value) q.kept)
kept_words q older newer first now next both so_far more =
    more ∙ ap (λ ys. ys ++ words_text newer) so_far ∙ append_assoc first (words_text older) (words_text newer)
    ∙ ap (λ ys. first ++ ys) (sym (flat_map-append word_text older newer) ∙ ap words_text (both ∙ unread-all q))

-- values of 64 bits
pub values_fit : (es : List Event) → AllByRecursion (λ (e : Event). FitsSigned w64 e.value) es → AllByRecursion (FitsSigned w64) (map (λ (e : Event). e.value) es)
values_fit [] h = tt
values_fit (e ∷ es) h = (h.0, values_fit es h.1)

-- ---- numbers

-- how many events have been numbered
pub count : (from to : ℕ) (es : List Event) → AreNumbered from to es → from + length es ≡ to
count from to [] h = omega (arith, h)
count from to (e ∷ es) h = let rest = count (suc from) to es h.1 in omega (arith, rest)

pub length-values : (es : List Event) → length (map (λ (e : Event). e.value) es) ≡ length es
length-values [] = refl
length-values (e ∷ es) = ap suc (length-values es)

-- the values numbered again are the events
numbered_again : (from to : ℕ) (es : List Event) → AreNumbered from to es → numbered from (map (λ (e : Event). e.value) es) ≡ es
numbered_again from to [] h = refl
numbered_again from to (e ∷ es) h = ap₂ (λ n rest. record { number = n; value = e.value } ∷ rest) (sym h.0) (numbered_again (suc from) to es h.1)

-- how the numbers of a queue lie
pub record Lies (q : EventQueue) (values : List ℤ) : Type 0 where
  pub from : ℕ
  pub many : from + length values ≡ q.next
  pub older : from ≤ q.newer
  pub newer : q.newer ≤ q.next
  pub most : q.next ≤ last_tick
  pub again : numbered from values ≡ q.kept

pub lies : (q : EventQueue) → IsQueue q → (values : List ℤ) → values ≡ map (λ (e : Event). e.value) q.kept → Lies q values
lies q h values e =
    let many = count h.from q.next q.kept h.numbered in
    let long = ap length e ∙ length-values q.kept in
    record {
      from = h.from;
      many = omega (arith, many, long);
      older = h.older;
      newer = h.newer;
      most = h.most;
      again = ap (numbered h.from) e ∙ numbered_again h.from q.next q.kept h.numbered;
    }

-- its values in two parts make it
pub parts_make : (q : EventQueue) (values : List ℤ) → Lies q values → (first n : ℕ) → first + length values ≡ q.next → first + n ≡ q.newer → (older newer : List ℤ)
    → older ++ newer ≡ values → length older ≡ n → queue_of_parts first older newer ≡ q
parts_make q values h first n next at older newer both long =
    let from : first ≡ h.from = let many = h.many in omega (arith, many, next) in
    let all = length-append older newer in
    let kept : numbered first (older ++ newer) ≡ q.kept = ap₂ numbered from both ∙ h.again in
    let begins : first + length older ≡ q.newer = omega (arith, at, long) in
    let ends : first + length older + length newer ≡ q.next = omega (arith, next, all, ap length both) in
    λ i. record { kept = kept i; newer = begins i; next = ends i }

-- as many queues as there are kinds of events are those of the kinds
pub four_queues : (queues : List EventQueue) → length queues ≡ event_count → queues ≡ queue_of queues 0 ∷ queue_of queues 1 ∷ queue_of queues 2 ∷ queue_of queues 3 ∷ []
four_queues [] h = absurd (omega (arith, h))
four_queues (a ∷ []) h = absurd (omega (arith, h))
four_queues (a ∷ b ∷ []) h = absurd (omega (arith, h))
four_queues (a ∷ b ∷ c ∷ []) h = absurd (omega (arith, h))
four_queues (a ∷ b ∷ c ∷ d ∷ []) h = refl
four_queues (a ∷ b ∷ c ∷ d ∷ e ∷ queues) h = absurd (omega (arith, h))
