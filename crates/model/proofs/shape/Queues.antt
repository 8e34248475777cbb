-- Event queues keep their shape: under events sent that get numbers, and under the update.
use Rattle.std.proofs.Common.{◌≡◌, ℕ, suc, ◌<◌, ◌≤◌, ℤ, Bool, true, false, cond, refl, sym, ap, subst, ◌∙◌, List, [], ◌∷◌, ◌++◌, filter, length, nat_le, nat_lt, arith, leb-true, leb-false, le-leb, ltb-true}
use Rattle.std.proofs.lemmas.Bool.{and_parts, cond-true}
use Rattle.std.specs.List.{AllByRecursion}
use Rattle.model.specs.Lists.{map_index, all_index}
use Rattle.model.specs.state.State.{Event, EventQueue, last_tick}
use Rattle.model.specs.state.Events.{send, send_all, can_send, updated_queue}
use Rattle.model.specs.shown.Overlay.{queues_after, has_event_numbers}
use Rattle.model.specs.state.Shape.{AreNumbered, IsQueue}
use Rattle.model.proofs.lists.Lists.{length-map_index}

-- one more event with the next number
numbered-push : (from to : ℕ) (es : List Event) (e : Event) → e.number ≡ to → AreNumbered from to es → AreNumbered from (suc to) (es ++ e ∷ [])
numbered-push from to [] e n h = (n ∙ sym h, ap suc h)
numbered-push from to (x ∷ xs) e n h = (h.0, numbered-push (suc from) to xs e n h.1)

-- a queue with one more event
pub queue-send : (value : ℤ) (q : EventQueue) → q.next < last_tick → IsQueue q → IsQueue (send value q)
queue-send value q room h = let newer : q.newer ≤ q.next = h.newer in record {
  from = h.from;
  numbered = numbered-push h.from q.next q.kept (record { number = q.next; value = value }) refl h.numbered;
  older = h.older;
  newer = omega arith;
  most = room;
}

-- a queue with more events
pub queue-send_all : (values : List ℤ) (q : EventQueue) → can_send values q ≡ true → IsQueue q → IsQueue (send_all values q)
queue-send_all [] q can h = h
queue-send_all (value ∷ values) q can h = let p = and_parts (nat_lt q.next last_tick) (can_send values (send value q)) can in
    queue-send_all values (send value q) p.1 (queue-send value q (ltb-true q.next last_tick p.0) h)

-- queues with more events by kind
queues-more : (events : ℕ → List ℤ) (queues : List EventQueue) → all_index (λ kind. can_send (events kind)) queues ≡ true → AllByRecursion IsQueue queues
    → AllByRecursion IsQueue (map_index (λ kind. send_all (events kind)) queues)
queues-more events [] can h = tt
queues-more events (q ∷ qs) can h = let p = and_parts (can_send (events 0) q) (all_index (λ kind. can_send (events (suc kind))) qs) can in
    (queue-send_all (events 0) q p.0 h.0, queues-more (λ kind. events (suc kind)) qs p.1 h.1)

-- the queues after events
pub queues-after : (events : ℕ → List ℤ) (queues : List EventQueue) → has_event_numbers events queues ≡ true → AllByRecursion IsQueue queues
    → AllByRecursion IsQueue (queues_after events queues)
unfolding queues_after has_event_numbers
queues-after events queues can h = queues-more events queues can h

-- events leave as many queues
pub length-queues_after : (events : ℕ → List ℤ) (queues : List EventQueue) → length (queues_after events queues) ≡ length queues
unfolding queues_after
length-queues_after events queues = length-map_index (λ kind. send_all (events kind)) queues

-- events with numbers from a limit on are all kept
numbered-all : (limit from to : ℕ) (es : List Event) → limit ≤ from → AreNumbered from to es → AreNumbered from to (filter (λ e. nat_le limit e.number) es)
numbered-all limit from to [] le h = h
numbered-all limit from to (e ∷ es) le h = subst (AreNumbered from to)
    (sym (cond-true (nat_le limit e.number) (e ∷ filter (λ e. nat_le limit e.number) es) (filter (λ e. nat_le limit e.number) es)
    (le-leb limit e.number (let n = h.0 in omega arith))))
    (h.0, numbered-all limit (suc from) to es (omega arith) h.1)

-- events with numbers from a limit on are what is kept
numbered-cut : (limit from to : ℕ) (es : List Event) → from ≤ limit → limit ≤ to → AreNumbered from to es → AreNumbered limit to (filter (λ e. nat_le limit e.number) es)
numbered-cut limit from to [] low high h = omega arith
numbered-cut limit from to (e ∷ es) low high h = go (nat_le limit e.number) refl (λ k. numbered-cut limit (suc from) to es k high h.1)
  where
    go : (b : Bool) → nat_le limit e.number ≡ b → (suc from ≤ limit → AreNumbered limit to (filter (λ e. nat_le limit e.number) es))
        → AreNumbered limit to (cond b (e ∷ filter (λ e. nat_le limit e.number) es) (filter (λ e. nat_le limit e.number) es))
    go true f rest = let le = leb-true limit e.number f in let n = h.0 in let same : from ≡ limit = omega arith in
        subst (λ m. AreNumbered m to (e ∷ filter (λ e. nat_le limit e.number) es)) same
        (h.0, numbered-all limit (suc from) to es (omega arith) h.1)
    go false f rest = let above = leb-false limit e.number f in let n = h.0 in rest (omega arith)

-- a queue after the update
pub queue-updated : (q : EventQueue) → IsQueue q → IsQueue (updated_queue q)
queue-updated q h = record {
  from = q.newer;
  numbered = numbered-cut q.newer h.from q.next q.kept h.older h.newer h.numbered;
  older = h.newer;
  newer = omega arith;
  most = h.most;
}
