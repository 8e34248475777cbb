-- Event queues: what a reader has not read, the sending of events, and the update at the opening of a run.
use Rattle.std.specs.Prelude.{ℕ, suc, ℤ, Bool, true, nat_lt, nat_le, ◌&&◌, List, [], ◌∷◌, ◌++◌, map, filter, get_or}
use Rattle.model.specs.state.State.{EventQueue, empty_queue, last_tick}

-- the queue of an event kind
abbrev pub queue_of : List EventQueue → ℕ → EventQueue
queue_of queues kind = get_or queues kind empty_queue

-- the values of the kept events from a cursor on
abbrev pub unread : EventQueue → ℕ → List ℤ
unread queue cursor = map (λ e. e.value) (filter (λ e. nat_le cursor e.number) queue.kept)

-- the queue with one more event
abbrev pub send : ℤ → EventQueue → EventQueue
send value queue = record { kept = queue.kept ++ record { number = queue.next; value = value } ∷ []; newer = queue.newer; next = suc queue.next }

-- the queue with more events, in order
abbrev pub send_all : List ℤ → EventQueue → EventQueue
send_all [] queue = queue
send_all (value ∷ values) queue = send_all values (send value queue)

-- whether these events get numbers below the limit
abbrev pub can_send : List ℤ → EventQueue → Bool
can_send [] queue = true
can_send (value ∷ values) queue = nat_lt queue.next last_tick && can_send values (send value queue)

-- the update: the older buffer is dropped, and the newer one becomes the older
abbrev pub updated_queue : EventQueue → EventQueue
updated_queue queue = record { kept = filter (λ e. nat_le queue.newer e.number) queue.kept; newer = queue.next; next = queue.next }
