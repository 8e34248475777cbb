-- Numbered events: a list after another, those from a cursor on.
use Rattle.std.proofs.Common.{◌≡◌, ℕ, zero, suc, ℤ, ◌+◌, ◌-◌, ◌≤◌, ◌<◌, Bool, true, false, ◌&&◌, nat_lt, List, [], ◌∷◌, ◌++◌, length, map, filter, drop, min, nat_le, refl, sym, ap, ap₂, ◌∙◌, arith, le-leb, append_assoc, append-nil, length-append, subst, cond, is_ok, Result, Ok, Err, OnOk}
use Rattle.std.proofs.lemmas.Bool.{and_from, cond-true, cond-false, lt-leb, lt-ltb, ltb-true, leb-true, leb-false}
use Rattle.std.proofs.lemmas.List.{map-append}
use Rattle.std.proofs.lemmas.List.Elements.{filter-append}
use Rattle.model.specs.state.State.{Event, EventQueue, last_tick}
use Rattle.model.specs.state.Events.{unread, updated_queue, send, send_all, can_send}
use Rattle.model.specs.state.Shape.{AreNumbered, IsQueue}
use Rattle.event_buffers.specs.Queue.{numbered, values_from, queue_of_parts}

-- values after others are numbered after them
pub numbered-append : (n k : ℕ) (xs ys : List ℤ) → k ≡ n + length xs → numbered n (xs ++ ys) ≡ numbered n xs ++ numbered k ys
numbered-append n k [] ys e = ap (λ m. numbered m ys) (omega (arith, e))
numbered-append n k (x ∷ xs) ys e = ap (◌∷◌ (record { number = n; value = x })) (numbered-append (suc n) k xs ys (omega (arith, e)))

-- all are kept from a cursor on that is not above the first
pub kept-all : (n cursor : ℕ) (xs : List ℤ) → cursor ≤ n → filter (λ (e : Event). nat_le cursor e.number) (numbered n xs) ≡ numbered n xs
kept-all n cursor [] l = refl
kept-all n cursor (x ∷ xs) l =
    cond-true (nat_le cursor n) (record { number = n; value = x } ∷ filter (λ (e : Event). nat_le cursor e.number) (numbered (suc n) xs)) (filter (λ (e : Event). nat_le cursor e.number) (numbered (suc n) xs)) (le-leb cursor n l)
    ∙ ap (◌∷◌ (record { number = n; value = x })) (kept-all (suc n) cursor xs (omega (arith, l)))

-- the values of numbered events
pub values-numbered : (n : ℕ) (xs : List ℤ) → map (λ (e : Event). e.value) (numbered n xs) ≡ xs
values-numbered n [] = refl
values-numbered n (x ∷ xs) = ap (◌∷◌ x) (values-numbered (suc n) xs)

-- none are kept below a cursor
pub kept-none : (n cursor : ℕ) (xs : List ℤ) → n + length xs ≤ cursor → filter (λ (e : Event). nat_le cursor e.number) (numbered n xs) ≡ []
kept-none n cursor [] l = refl
kept-none n cursor (x ∷ xs) l =
    cond-false (nat_le cursor n) (record { number = n; value = x } ∷ filter (λ (e : Event). nat_le cursor e.number) (numbered (suc n) xs)) (filter (λ (e : Event). nat_le cursor e.number) (numbered (suc n) xs)) (lt-leb cursor n (omega (arith, l)))
    ∙ kept-none (suc n) cursor xs (omega (arith, l))

-- the values from a cursor on are those after as many as it is past the first
pub values_from-drop : (n cursor passed : ℕ) (xs : List ℤ) → passed ≡ min (cursor - n) (length xs) → values_from n xs cursor ≡ drop passed xs
values_from-drop n cursor zero [] e = refl
values_from-drop n cursor (suc passed) [] e = absurd (omega (arith, e))
values_from-drop n cursor zero (x ∷ xs) e = ap (map (λ (e : Event). e.value)) (kept-all n cursor (x ∷ xs) (omega (arith, e))) ∙ values-numbered n (x ∷ xs)
values_from-drop n cursor (suc passed) (x ∷ xs) e =
    ap (map (λ (e : Event). e.value)) (cond-false (nat_le cursor n) (record { number = n; value = x } ∷ filter (λ (e : Event). nat_le cursor e.number) (numbered (suc n) xs)) (filter (λ (e : Event). nat_le cursor e.number) (numbered (suc n) xs)) (lt-leb cursor n (omega (arith, e))))
    ∙ values_from-drop (suc n) cursor passed xs (omega (arith, e))

-- ---- two buffers

-- what is kept of two buffers from a cursor on
kept-both : (n k cursor : ℕ) (older newer : List ℤ) → k ≡ n + length older → filter (λ (e : Event). nat_le cursor e.number) (numbered n (older ++ newer))
    ≡ filter (λ (e : Event). nat_le cursor e.number) (numbered n older) ++ filter (λ (e : Event). nat_le cursor e.number) (numbered k newer)
kept-both n k cursor older newer e =
    ap (filter (λ (e : Event). nat_le cursor e.number)) (numbered-append n k older newer e)
    ∙ filter-append (λ (e : Event). nat_le cursor e.number) (numbered n older) (numbered k newer)

-- the unread events of two buffers are those of each
pub unread-both : (n k cursor : ℕ) (older newer : List ℤ) → k ≡ n + length older →
    values_from n older cursor ++ values_from k newer cursor ≡ unread (queue_of_parts n older newer) cursor
unread-both n k cursor older newer e =
    sym (map-append (λ (e : Event). e.value) (filter (λ (e : Event). nat_le cursor e.number) (numbered n older)) (filter (λ (e : Event). nat_le cursor e.number) (numbered k newer)))
    ∙ ap (map (λ (e : Event). e.value)) (sym (kept-both n k cursor older newer e))

-- the update drops the older buffer
pub updated-parts : (n k : ℕ) (older newer : List ℤ) → k ≡ n + length older → queue_of_parts k newer [] ≡ updated_queue (queue_of_parts n older newer)
updated-parts n k older newer e = λ i. record { kept = kept i; newer = ends i; next = next i }
  where
    kept : numbered k (newer ++ []) ≡ filter (λ (e : Event). nat_le (n + length older) e.number) (numbered n (older ++ newer))
    kept = ap (numbered k) (append-nil newer)
        ∙ sym (kept-both n k (n + length older) older newer e
        ∙ ap₂ ◌++◌ (kept-none n (n + length older) older (omega arith)) (kept-all k (n + length older) newer (omega (arith, e))))

    ends : k + length newer ≡ n + length older + length newer
    ends = omega (arith, e)

    next : k + length newer + length {A = ℤ} [] ≡ n + length older + length newer
    next = omega (arith, e)

-- an event that is sent is the last of the newer buffer
pub send-parts : (n : ℕ) (older newer : List ℤ) (value : ℤ) → queue_of_parts n older (newer ++ value ∷ []) ≡ send value (queue_of_parts n older newer)
send-parts n older newer value = λ i. record { kept = kept i; newer = n + length older; next = next i }
  where
    kept : numbered n (older ++ (newer ++ value ∷ [])) ≡ numbered n (older ++ newer) ++ record { number = n + length older + length newer; value = value } ∷ []
    kept = ap (numbered n) (sym (append_assoc older newer (value ∷ [])))
        ∙ numbered-append n (n + length older + length newer) (older ++ newer) (value ∷ []) (omega (arith, length-append older newer))

    next : n + length older + length (newer ++ value ∷ []) ≡ suc (n + length older + length newer)
    next = omega (arith, length-append newer (value ∷ []))

-- ---- several events

-- sent one after the other they stand after the others
pub send-all-parts : (n : ℕ) (older newer values : List ℤ) → queue_of_parts n older (newer ++ values) ≡ send_all values (queue_of_parts n older newer)
send-all-parts n older newer [] = ap (queue_of_parts n older) (append-nil newer)
send-all-parts n older newer (value ∷ values) =
    ap (queue_of_parts n older) (sym (append_assoc newer (value ∷ []) values))
    ∙ send-all-parts n older (newer ++ value ∷ []) values
    ∙ ap (send_all values) (send-parts n older newer value)

-- they get numbers where there are as many left
pub all-numbered : (values : List ℤ) (queue : EventQueue) → queue.next + length values ≤ last_tick → can_send values queue ≡ true
all-numbered [] queue l = refl
all-numbered (value ∷ values) queue l = and_from (nat_lt queue.next last_tick) (can_send values (send value queue)) (lt-ltb queue.next last_tick (omega (arith, l))) (all-numbered values (send value queue) (omega (arith, l)))

pub not-numbered : (values : List ℤ) (queue : EventQueue) → queue.next ≤ last_tick → last_tick < queue.next + length values → can_send values queue ≡ false
not-numbered [] queue most l = absurd (omega (arith, most, l))
not-numbered (value ∷ values) queue most l = go (nat_lt queue.next last_tick) refl (λ m. not-numbered values (send value queue) m (omega (arith, l)))
  where
    go : (b : Bool) → nat_lt queue.next last_tick ≡ b → (suc queue.next ≤ last_tick → can_send values (send value queue) ≡ false) → can_send (value ∷ values) queue ≡ false
    go true e more = ap₂ ◌&&◌ e (more (let m = ltb-true queue.next last_tick e in omega arith))
    go false e more = ap (λ b. b && can_send values (send value queue)) e

-- so just there
pub numbered-is : (values : List ℤ) (queue : EventQueue) → queue.next ≤ last_tick → nat_le (length values) (last_tick - queue.next) ≡ can_send values queue
numbered-is values queue most = go (nat_le (length values) (last_tick - queue.next)) refl
  where
    go : (b : Bool) → nat_le (length values) (last_tick - queue.next) ≡ b → b ≡ can_send values queue
    go true e = sym (all-numbered values queue (let l = leb-true (length values) (last_tick - queue.next) e in omega (arith, most)))
    go false e = sym (not-numbered values queue most (let l = leb-false (length values) (last_tick - queue.next) e in omega (arith, most)))

pub numbered-room : (values : List ℤ) (queue : EventQueue) → queue.next ≤ last_tick → can_send values queue ≡ true → queue.next + length values ≤ last_tick
numbered-room values queue most can = go (nat_le (length values) (last_tick - queue.next)) refl
  where
    go : (b : Bool) → nat_le (length values) (last_tick - queue.next) ≡ b → queue.next + length values ≤ last_tick
    go true e = let l = leb-true (length values) (last_tick - queue.next) e in omega (arith, most)
    go false e = absurd (let f : false ≡ true = sym e ∙ numbered-is values queue most ∙ can in cc)

-- where they get numbers they may be added, or not where there is no memory
pub sent-room : (b : Bool) (n : ℕ) (older newer values items : List ℤ) → items ≡ cond b (newer ++ values) newer → n + length older + length newer + length values ≤ last_tick → n + length older + length items ≤ last_tick
sent-room true n older newer values items e l = let s = ap length e ∙ length-append newer values in omega arith
sent-room false n older newer values items e l = let s = ap length e in omega arith

pub sent-all : {E : Type 0} (r : Result (Unit {0}) E) (n : ℕ) (older newer values items : List ℤ) (queue : EventQueue) → items ≡ cond (is_ok r) (newer ++ values) newer → queue_of_parts n older newer ≡ queue → OnOk r (queue_of_parts n older items ≡ send_all values queue)
sent-all (Ok x) n older newer values items queue e is = ap (queue_of_parts n older) e ∙ send-all-parts n older newer values ∙ ap (send_all values) is
sent-all (Err x) n older newer values items queue e is = tt

-- ---- the shape of a queue

-- values that are numbered stand one after the other
are-numbered : (n : ℕ) (values : List ℤ) → AreNumbered n (n + length values) (numbered n values)
are-numbered n [] = omega arith
are-numbered n (x ∷ xs) = (refl, subst (λ to. AreNumbered (suc n) to (numbered (suc n) xs)) (let e : suc n + length xs ≡ n + suc (length xs) = omega arith in e) (are-numbered (suc n) xs))

-- the queue of two buffers has the last numbers given
pub queue-shape : (n : ℕ) (older newer : List ℤ) → n + length older + length newer ≤ last_tick → IsQueue (queue_of_parts n older newer)
queue-shape n older newer most = record {
  from = n;
  numbered = subst (λ to. AreNumbered n to (numbered n (older ++ newer)))
      (let e : n + length (older ++ newer) ≡ n + length older + length newer = omega (arith, length-append older newer) in e) (are-numbered n (older ++ newer));
  older = omega arith;
  newer = omega arith;
  most = most;
}
