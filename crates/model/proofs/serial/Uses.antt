-- What writes to resources and events leave alone, and their order.
use Rattle.std.proofs.Common.{ℕ, ℤ, ◌≡◌, ◌⊎◌, List, [], ◌∷◌, map, get_or, Option, None, refl, sym, ap, ap₂, ◌∙◌, inl, inr}
use Rattle.model.specs.Lists.{IsIn, head_or, tail_of}
use Rattle.model.specs.state.State.{Resource, EventQueue, no_resource, empty_queue}
use Rattle.model.specs.state.Events.{queue_of, unread, send_all, can_send}
use Rattle.model.specs.shown.Input.{value_of, unread_of, end_cursors}
use Rattle.model.specs.shown.Overlay.{resource_after, resources_after, queues_after, has_event_numbers}
use Rattle.model.proofs.lists.Lists.{map_index-comm, get_or-map_index-same, all_index-same, all_index-map_index, map-same}

-- ---- resources

-- two writes of which at most one is there can be swapped
resource_after-comm : (t u : ℕ) (v w : Option ℤ) (r : Resource) → (v ≡ None) ⊎ (w ≡ None) → resource_after t v (resource_after u w r) ≡ resource_after u w (resource_after t v r)
resource_after-comm t u v w r (inl e) = ap (λ o. resource_after t o (resource_after u w r)) e ∙ sym (ap (λ o. resource_after u w (resource_after t o r)) e)
resource_after-comm t u v w r (inr e) = ap (λ o. resource_after t v (resource_after u o r)) e ∙ sym (ap (λ o. resource_after u o (resource_after t v r)) e)

-- so can the writes to all resources
pub resources_after-comm : (t u : ℕ) (f g : ℕ → Option ℤ) (resources : List Resource) → ((n : ℕ) → (f n ≡ None) ⊎ (g n ≡ None)) →
    resources_after t f (resources_after u g resources) ≡ resources_after u g (resources_after t f resources)
unfolding resources_after
resources_after-comm t u f g resources h =
    map_index-comm (λ n. resource_after t (f n)) (λ n. resource_after u (g n)) no_resource resources
    (λ n. resource_after-comm t u (f n) (g n) (get_or resources n no_resource) (h n))

-- a resource that isn't written stays
pub get_or-resources_after : (t : ℕ) (f : ℕ → Option ℤ) (resources : List Resource) (n : ℕ) → f n ≡ None →
    get_or (resources_after t f resources) n no_resource ≡ get_or resources n no_resource
unfolding resources_after
get_or-resources_after t f resources n h = get_or-map_index-same (λ i. resource_after t (f i)) resources n no_resource (λ r. ap (λ o. resource_after t o r) h)

-- the values of resources that are the same
pub values-same : (resources others : List Resource) (ns : List ℕ) → ((n : ℕ) → IsIn n ns → get_or resources n no_resource ≡ get_or others n no_resource) →
    map (value_of resources) ns ≡ map (value_of others) ns
values-same resources others ns h = map-same (value_of resources) (value_of others) ns (λ n i. ap (λ (r : Resource). r.value) (h n i))

-- ---- events

-- two sendings of which at most one has events can be swapped
send_all-comm : (xs ys : List ℤ) (queue : EventQueue) → (xs ≡ []) ⊎ (ys ≡ []) → send_all xs (send_all ys queue) ≡ send_all ys (send_all xs queue)
send_all-comm xs ys queue (inl e) = ap (λ zs. send_all zs (send_all ys queue)) e ∙ sym (ap (λ zs. send_all ys (send_all zs queue)) e)
send_all-comm xs ys queue (inr e) = ap (λ zs. send_all xs (send_all zs queue)) e ∙ sym (ap (λ zs. send_all zs (send_all xs queue)) e)

-- so can the sendings to all queues
pub queues_after-comm : (f g : ℕ → List ℤ) (queues : List EventQueue) → ((k : ℕ) → (f k ≡ []) ⊎ (g k ≡ [])) →
    queues_after f (queues_after g queues) ≡ queues_after g (queues_after f queues)
unfolding queues_after
queues_after-comm f g queues h =
    map_index-comm (λ k. send_all (f k)) (λ k. send_all (g k)) empty_queue queues (λ k. send_all-comm (f k) (g k) (get_or queues k empty_queue) (h k))

-- a queue to which nothing is sent stays
pub queue_of-queues_after : (f : ℕ → List ℤ) (queues : List EventQueue) (k : ℕ) → f k ≡ [] → queue_of (queues_after f queues) k ≡ queue_of queues k
unfolding queues_after
queue_of-queues_after f queues k h = get_or-map_index-same (λ i. send_all (f i)) queues k empty_queue (λ q. ap (λ xs. send_all xs q) h)

-- whether events get numbers stays, where nothing is sent of their kind
can_send-same : (xs ys : List ℤ) (queue : EventQueue) → (xs ≡ []) ⊎ (ys ≡ []) → can_send xs (send_all ys queue) ≡ can_send xs queue
can_send-same xs ys queue (inl e) = ap (λ zs. can_send zs (send_all ys queue)) e ∙ sym (ap (λ zs. can_send zs queue) e)
can_send-same xs ys queue (inr e) = ap (λ zs. can_send xs (send_all zs queue)) e

-- the same of all kinds
pub has_event_numbers-queues_after : (f g : ℕ → List ℤ) (queues : List EventQueue) → ((k : ℕ) → (f k ≡ []) ⊎ (g k ≡ [])) →
    has_event_numbers f (queues_after g queues) ≡ has_event_numbers f queues
unfolding queues_after has_event_numbers
has_event_numbers-queues_after f g queues h =
    all_index-map_index (λ k. can_send (f k)) (λ k. send_all (g k)) queues
    ∙ all_index-same (λ k q. can_send (f k) (send_all (g k) q)) (λ k. can_send (f k)) empty_queue queues
    (λ k. can_send-same (f k) (g k) (get_or queues k empty_queue) (h k))

-- what readers haven't read, where their queues are the same
pub unread_of-same : (queues others : List EventQueue) (kinds cursors : List ℕ) → ((k : ℕ) → IsIn k kinds → queue_of queues k ≡ queue_of others k) →
    unread_of queues kinds cursors ≡ unread_of others kinds cursors
unread_of-same queues others [] cursors h = refl
unread_of-same queues others (k ∷ ks) cursors h =
    ap₂ ◌∷◌ (ap (λ q. unread q (head_or 0 cursors)) (h k (inl refl))) (unread_of-same queues others ks (tail_of cursors) (λ j i. h j (inr i)))

-- the ends of their queues
pub end_cursors-same : (queues others : List EventQueue) (kinds : List ℕ) → ((k : ℕ) → IsIn k kinds → queue_of queues k ≡ queue_of others k) →
    end_cursors queues kinds ≡ end_cursors others kinds
end_cursors-same queues others kinds h =
    map-same (λ k. (queue_of queues k).next) (λ k. (queue_of others k).next) kinds (λ k i. ap (λ (q : EventQueue). q.next) (h k i))
