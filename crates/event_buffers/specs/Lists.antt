-- Events of some kinds, a list for each: what readers are shown, and what writers have sent.
use Rattle.std.specs.Prelude.{ℕ, suc, ℤ, Bool, true, ◌&&◌, ◌==◌, cond, List, [], ◌∷◌, ◌++◌, map, Option, Some, None, option_map}
use Rattle.model.specs.Lists.{update_at}
use Rattle.model.specs.state.State.{EventQueue}
use Rattle.model.specs.state.Events.{queue_of, send_all, can_send}

-- the events of a kind
pub record ListValue : Type 0 where
  pub kind : ℕ
  pub values : List ℤ

-- the kinds, in order, and the events of each
pub record ListsValue : Type 0 where
  pub kinds : List ℕ
  pub values : List (List ℤ)

abbrev pub lists_of : List ListValue → ListsValue
lists_of lists = record { kinds = map (λ (l : ListValue). l.kind) lists; values = map (λ (l : ListValue). l.values) lists }

-- the place of the first of these that is a number
abbrev pub place_in : List ℕ → ℕ → Option ℕ
place_in [] number = None
place_in (n ∷ ns) number = cond (n == number) (Some 0) (option_map suc (place_in ns number))

-- the events of each of these kinds, with one more in the first list of a kind
abbrev pub with_event : List ℕ → ℕ → ℤ → List (List ℤ) → List (List ℤ)
with_event [] kind value lists = lists
with_event (k ∷ ks) kind value [] = []
with_event (k ∷ ks) kind value (values ∷ lists) = cond (k == kind) ((values ++ value ∷ []) ∷ lists) (values ∷ with_event ks kind value lists)

-- whether the events of these kinds get numbers, where they are sent kind after kind
abbrev pub can_send_in_turn : (ℕ → List ℤ) → List ℕ → List EventQueue → Bool
can_send_in_turn events [] queues = true
can_send_in_turn events (kind ∷ kinds) queues = can_send (events kind) (queue_of queues kind) && can_send_in_turn events kinds (update_at kind (send_all (events kind)) queues)

-- queues once the events of these kinds are sent, kind after kind
abbrev pub sent_in_turn : (ℕ → List ℤ) → List ℕ → List EventQueue → List EventQueue
sent_in_turn events [] queues = queues
sent_in_turn events (kind ∷ kinds) queues = sent_in_turn events kinds (update_at kind (send_all (events kind)) queues)
