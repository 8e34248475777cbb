-- Lists of events by kind.
use Rattle.std.proofs.Common.{◌≡◌, ℕ, zero, suc, ◌+◌, ◌<◌, Bool, true, false, cond, ◌==◌, ◌||◌, ◌&&◌, ℤ, List, [], ◌∷◌, ◌++◌, length, get_or, set, take, map, Option, Some, None, option_map, refl, sym, ap, ◌∙◌, arith}
use Rattle.std.proofs.lemmas.List.{map-append, take_more}
use Rattle.kinds.specs.declared.res.Event.{Event}
use Rattle.kinds.specs.Res.{event_number}
use Rattle.model.specs.Lists.{has, map_index, all_index, update_at}
use Rattle.model.specs.state.State.{EventQueue}
use Rattle.model.specs.state.Events.{queue_of, unread, can_send, send_all}
use Rattle.model.specs.shown.Input.{unread_of}
use Rattle.model.specs.shown.Outcome.{events_sent}
use Rattle.model.specs.shown.Overlay.{queues_after, has_event_numbers}
use Rattle.event_buffers.specs.Lists.{ListValue, ListsValue, lists_of, place_in, can_send_in_turn, with_event}

-- ---- lists of kinds

-- an empty list for each kind
abbrev pub empty_lists : List ℕ → ListsValue
empty_lists kinds = record { kinds = kinds; values = map (λ kind. []) kinds }

-- what is unread of each kind
abbrev pub unread_lists : List EventQueue → List ℕ → List ℕ → ListsValue
unread_lists queues kinds cursors = record { kinds = kinds; values = unread_of queues kinds cursors }

-- one list more
abbrev with_list : ListsValue → ℕ → List ℤ → ListsValue
with_list lists kind values = record { kinds = lists.kinds ++ kind ∷ []; values = lists.values ++ values ∷ [] }

lists-more : (lists : List ListValue) (l : ListValue) → lists_of (lists ++ l ∷ []) ≡ with_list (lists_of lists) l.kind l.values
lists-more lists l = λ i. record { kinds = map-append (λ (x : ListValue). x.kind) lists (l ∷ []) i; values = map-append (λ (x : ListValue). x.values) lists (l ∷ []) i }

numbers-more : (kinds : List Event) (i : ℕ) (k : Event) → i < length kinds → map event_number (take (i + 1) kinds) ≡ map event_number (take i kinds) ++ event_number (get_or kinds i k) ∷ []
numbers-more kinds i k l = ap (map event_number) (take_more kinds i k l) ∙ map-append event_number (take i kinds) (get_or kinds i k ∷ [])

unread_of-more : (queues : List EventQueue) (kinds : List ℕ) (k : ℕ) (cursors : List ℕ) → unread_of queues (kinds ++ k ∷ []) cursors ≡ unread_of queues kinds cursors ++ unread (queue_of queues k) (get_or cursors (length kinds) 0) ∷ []
unread_of-more queues [] k [] = refl
unread_of-more queues [] k (c ∷ cs) = refl
unread_of-more queues (x ∷ xs) k [] = ap (λ ls. unread (queue_of queues x) 0 ∷ ls) (unread_of-more queues xs k [])
unread_of-more queues (x ∷ xs) k (c ∷ cs) = ap (λ ls. unread (queue_of queues x) c ∷ ls) (unread_of-more queues xs k cs)

count-taken : (kinds : List Event) (i : ℕ) → i < length kinds → length (map event_number (take i kinds)) ≡ i
count-taken [] i l = absurd (omega arith)
count-taken (x ∷ xs) zero l = refl
count-taken (x ∷ xs) (suc i) l = ap suc (count-taken xs i (omega arith))

pub unread-more : (queues : List EventQueue) (cursors : List ℕ) (lists : List ListValue) (l : ListValue) (kinds : List Event) (i : ℕ) (k : Event) → i < length kinds → lists_of lists ≡ unread_lists queues (map event_number (take i kinds)) cursors →
    l ≡ record { kind = event_number (get_or kinds i k); values = unread (queue_of queues (event_number (get_or kinds i k))) (get_or cursors i 0) } →
    lists_of (lists ++ l ∷ []) ≡ unread_lists queues (map event_number (take (i + 1) kinds)) cursors
unread-more queues cursors lists l kinds i k b h e =
    let n = event_number (get_or kinds i k) in
    let so_far = map event_number (take i kinds) in
    lists-more lists l ∙ ap (λ (x : ListValue). with_list (lists_of lists) x.kind x.values) e ∙ ap (λ x. with_list x n (unread (queue_of queues n) (get_or cursors i 0))) h
    ∙ ap (λ m. let x : ListsValue = record { kinds = so_far ++ n ∷ []; values = unread_of queues so_far cursors ++ unread (queue_of queues n) (get_or cursors m 0) ∷ [] } in x) (sym (count-taken kinds i b))
    ∙ ap (λ vs. let x : ListsValue = record { kinds = so_far ++ n ∷ []; values = vs } in x) (sym (unread_of-more queues so_far n cursors))
    ∙ ap (λ ns. unread_lists queues ns cursors) (sym (numbers-more kinds i k b))

-- ---- the list of a kind

pub choose : {A : Type 0} (b c : Bool) (x y : A) → b ≡ c → cond b x y ≡ cond c x y
choose b c x y e = cc

-- ---- by the place of a kind

suc-same : (m n : ℕ) → (let o : Option ℕ = Some (suc m) in o) ≡ Some (suc n) → Some m ≡ Some n
suc-same m n e = cc

pub place-within : (lists : List ListValue) (k n : ℕ) → place_in (map (λ (l : ListValue). l.kind) lists) k ≡ Some n → n < length lists
place-within [] k n h = absurd (cc)
place-within (x ∷ xs) k n h = go (place-within xs k) (x.kind == k) n h
  where
    next : ((m : ℕ) → place_in (map (λ (l : ListValue). l.kind) xs) k ≡ Some m → m < length xs) → (o : Option ℕ) → place_in (map (λ (l : ListValue). l.kind) xs) k ≡ o → (n : ℕ) → option_map suc o ≡ Some n → n < suc (length xs)
    next f None p n h = absurd (cc)
    next f (Some m) p zero h = omega arith
    next f (Some m) p (suc n) h = let l = f n (p ∙ suc-same m n h) in omega arith

    go : ((m : ℕ) → place_in (map (λ (l : ListValue). l.kind) xs) k ≡ Some m → m < length xs) → (b : Bool) (n : ℕ) → cond b (Some 0) (option_map suc (place_in (map (λ (l : ListValue). l.kind) xs) k)) ≡ Some n → n < suc (length xs)
    go f true zero h = omega arith
    go f true (suc n) h = absurd (cc)
    go f false n h = next f (place_in (map (λ (l : ListValue). l.kind) xs) k) refl n h

-- what is at the place of a kind, and where it has none
pub at-place : (lists : List ListValue) (k n : ℕ) (d : ListValue) → place_in (map (λ (l : ListValue). l.kind) lists) k ≡ Some n →
    (get_or lists n d).values ≡ events_sent (map (λ (l : ListValue). l.kind) lists) (map (λ (l : ListValue). l.values) lists) k
at-place [] k n d h = absurd (cc)
at-place (x ∷ xs) k n d h = go (λ m. at-place xs k m d) (x.kind == k) n h
  where
    next : ((m : ℕ) → place_in (map (λ (l : ListValue). l.kind) xs) k ≡ Some m → (get_or xs m d).values ≡ events_sent (map (λ (l : ListValue). l.kind) xs) (map (λ (l : ListValue). l.values) xs) k) → (o : Option ℕ) → place_in (map (λ (l : ListValue). l.kind) xs) k ≡ o → (n : ℕ) → option_map suc o ≡ Some n →
        (get_or (x ∷ xs) n d).values ≡ events_sent (map (λ (l : ListValue). l.kind) xs) (map (λ (l : ListValue). l.values) xs) k
    next f None p n h = absurd (cc)
    next f (Some m) p zero h = absurd (cc)
    next f (Some m) p (suc n) h = f n (p ∙ suc-same m n h)

    go : ((m : ℕ) → place_in (map (λ (l : ListValue). l.kind) xs) k ≡ Some m → (get_or xs m d).values ≡ events_sent (map (λ (l : ListValue). l.kind) xs) (map (λ (l : ListValue). l.values) xs) k) → (b : Bool) (n : ℕ) → cond b (Some 0) (option_map suc (place_in (map (λ (l : ListValue). l.kind) xs) k)) ≡ Some n →
        (get_or (x ∷ xs) n d).values ≡ cond b x.values (events_sent (map (λ (l : ListValue). l.kind) xs) (map (λ (l : ListValue). l.values) xs) k)
    go f true zero h = refl
    go f true (suc n) h = absurd (cc)
    go f false n h = next f (place_in (map (λ (l : ListValue). l.kind) xs) k) refl n h

pub no-place : (lists : List ListValue) (k : ℕ) → place_in (map (λ (l : ListValue). l.kind) lists) k ≡ None → events_sent (map (λ (l : ListValue). l.kind) lists) (map (λ (l : ListValue). l.values) lists) k ≡ []
no-place [] k h = refl
no-place (x ∷ xs) k h = go (no-place xs k) (x.kind == k) h
  where
    next : (place_in (map (λ (l : ListValue). l.kind) xs) k ≡ None → events_sent (map (λ (l : ListValue). l.kind) xs) (map (λ (l : ListValue). l.values) xs) k ≡ []) → (o : Option ℕ) → place_in (map (λ (l : ListValue). l.kind) xs) k ≡ o → option_map suc o ≡ None → events_sent (map (λ (l : ListValue). l.kind) xs) (map (λ (l : ListValue). l.values) xs) k ≡ []
    next f None p h = f p
    next f (Some m) p h = absurd (cc)

    go : (place_in (map (λ (l : ListValue). l.kind) xs) k ≡ None → events_sent (map (λ (l : ListValue). l.kind) xs) (map (λ (l : ListValue). l.values) xs) k ≡ []) → (b : Bool) → cond b (Some 0) (option_map suc (place_in (map (λ (l : ListValue). l.kind) xs) k)) ≡ None → cond b x.values (events_sent (map (λ (l : ListValue). l.kind) xs) (map (λ (l : ListValue). l.values) xs) k) ≡ []
    go f true h = absurd (cc)
    go f false h = next f (place_in (map (λ (l : ListValue). l.kind) xs) k) refl h

-- a kind that is named has a place
pub has-place : (kinds : List ℕ) (k : ℕ) → has k kinds ≡ true → place_in kinds k ≡ None → ⊥
has-place [] k h e = absurd (cc)
has-place (x ∷ xs) k h e = go (has-place xs k) (x == k) h e
  where
    next : (has k xs ≡ true → place_in xs k ≡ None → ⊥) → (o : Option ℕ) → place_in xs k ≡ o → has k xs ≡ true → option_map suc o ≡ None → ⊥
    next f None p h e = f h p
    next f (Some m) p h e = absurd (cc)

    go : (has k xs ≡ true → place_in xs k ≡ None → ⊥) → (b : Bool) → (b || has k xs) ≡ true → cond b (Some 0) (option_map suc (place_in xs k)) ≡ None → ⊥
    go f true h e = absurd (cc)
    go f false h e = next f (place_in xs k) refl h e

-- an event more at the place of its kind
abbrev pub pushed : ListValue → ℤ → ListValue
pushed l v = record { kind = l.kind; values = l.values ++ v ∷ [] }

kinds-stay : (lists : List ListValue) (n : ℕ) (d : ListValue) (v : ℤ) → map (λ (l : ListValue). l.kind) (set lists n (pushed (get_or lists n d) v)) ≡ map (λ (l : ListValue). l.kind) lists
kinds-stay [] n d v = refl
kinds-stay (x ∷ xs) zero d v = refl
kinds-stay (x ∷ xs) (suc n) d v = ap (λ ks. x.kind ∷ ks) (kinds-stay xs n d v)

values-pushed : (lists : List ListValue) (k n : ℕ) (d : ListValue) (v : ℤ) → place_in (map (λ (l : ListValue). l.kind) lists) k ≡ Some n →
    map (λ (l : ListValue). l.values) (set lists n (pushed (get_or lists n d) v)) ≡ with_event (map (λ (l : ListValue). l.kind) lists) k v (map (λ (l : ListValue). l.values) lists)
values-pushed [] k n d v h = absurd (cc)
values-pushed (x ∷ xs) k n d v h = go (λ m. values-pushed xs k m d v) (x.kind == k) n h
  where
    next : ((m : ℕ) → place_in (map (λ (l : ListValue). l.kind) xs) k ≡ Some m → map (λ (l : ListValue). l.values) (set xs m (pushed (get_or xs m d) v)) ≡ with_event (map (λ (l : ListValue). l.kind) xs) k v (map (λ (l : ListValue). l.values) xs)) → (o : Option ℕ) → place_in (map (λ (l : ListValue). l.kind) xs) k ≡ o → (n : ℕ) → option_map suc o ≡ Some n →
        map (λ (l : ListValue). l.values) (set (x ∷ xs) n (pushed (get_or (x ∷ xs) n d) v)) ≡ x.values ∷ with_event (map (λ (l : ListValue). l.kind) xs) k v (map (λ (l : ListValue). l.values) xs)
    next f None p n h = absurd (cc)
    next f (Some m) p zero h = absurd (cc)
    next f (Some m) p (suc n) h = ap (λ vs. x.values ∷ vs) (f n (p ∙ suc-same m n h))

    go : ((m : ℕ) → place_in (map (λ (l : ListValue). l.kind) xs) k ≡ Some m → map (λ (l : ListValue). l.values) (set xs m (pushed (get_or xs m d) v)) ≡ with_event (map (λ (l : ListValue). l.kind) xs) k v (map (λ (l : ListValue). l.values) xs)) → (b : Bool) (n : ℕ) → cond b (Some 0) (option_map suc (place_in (map (λ (l : ListValue). l.kind) xs) k)) ≡ Some n →
        map (λ (l : ListValue). l.values) (set (x ∷ xs) n (pushed (get_or (x ∷ xs) n d) v)) ≡ cond b ((x.values ++ v ∷ []) ∷ map (λ (l : ListValue). l.values) xs) (x.values ∷ with_event (map (λ (l : ListValue). l.kind) xs) k v (map (λ (l : ListValue). l.values) xs))
    go f true zero h = refl
    go f true (suc n) h = absurd (cc)
    go f false n h = next f (place_in (map (λ (l : ListValue). l.kind) xs) k) refl n h

pub lists-pushed : (lists : List ListValue) (k n : ℕ) (d new : ListValue) (v : ℤ) → place_in (map (λ (l : ListValue). l.kind) lists) k ≡ Some n → new ≡ pushed (get_or lists n d) v →
    lists_of (set lists n new) ≡ record { kinds = (lists_of lists).kinds; values = with_event (lists_of lists).kinds k v (lists_of lists).values }
lists-pushed lists k n d new v h e =
    ap (λ x. lists_of (set lists n x)) e
    ∙ (λ i. record { kinds = kinds-stay lists n d v i; values = values-pushed lists k n d v h i })

-- ---- all kinds

-- whether the events of all four kinds get numbers, kind by kind
pub numbers-each : (events : ℕ → List ℤ) (queues : List EventQueue) → length queues ≡ 4 →
    (can_send (events 0) (queue_of queues 0) && (can_send (events 1) (queue_of queues 1) && (can_send (events 2) (queue_of queues 2) && (can_send (events 3) (queue_of queues 3) && true)))) ≡ has_event_numbers events queues
unfolding has_event_numbers
numbers-each events [] l = absurd (omega arith)
numbers-each events (a ∷ []) l = absurd (omega arith)
numbers-each events (a ∷ b ∷ []) l = absurd (omega arith)
numbers-each events (a ∷ b ∷ c ∷ []) l = absurd (omega arith)
numbers-each events (a ∷ b ∷ c ∷ d ∷ []) l = refl
numbers-each events (a ∷ b ∷ c ∷ d ∷ e ∷ more) l = absurd (omega arith)

-- the same where they are sent kind by kind: those of one kind take no number from another
pub numbers-in-turn : (events : ℕ → List ℤ) (queues : List EventQueue) → length queues ≡ 4 → can_send_in_turn events (0 ∷ 1 ∷ 2 ∷ 3 ∷ []) queues ≡ has_event_numbers events queues
unfolding has_event_numbers
numbers-in-turn events [] l = absurd (omega arith)
numbers-in-turn events (a ∷ []) l = absurd (omega arith)
numbers-in-turn events (a ∷ b ∷ []) l = absurd (omega arith)
numbers-in-turn events (a ∷ b ∷ c ∷ []) l = absurd (omega arith)
numbers-in-turn events (a ∷ b ∷ c ∷ d ∷ []) l = refl
numbers-in-turn events (a ∷ b ∷ c ∷ d ∷ e ∷ more) l = absurd (omega arith)

-- the queues once the events of all four kinds are sent, kind by kind
pub sent-each : (events : ℕ → List ℤ) (queues : List EventQueue) → length queues ≡ 4 →
    update_at 3 (send_all (events 3)) (update_at 2 (send_all (events 2)) (update_at 1 (send_all (events 1)) (update_at 0 (send_all (events 0)) queues))) ≡ queues_after events queues
unfolding queues_after
sent-each events [] l = absurd (omega arith)
sent-each events (a ∷ []) l = absurd (omega arith)
sent-each events (a ∷ b ∷ []) l = absurd (omega arith)
sent-each events (a ∷ b ∷ c ∷ []) l = absurd (omega arith)
sent-each events (a ∷ b ∷ c ∷ d ∷ []) l = refl
sent-each events (a ∷ b ∷ c ∷ d ∷ e ∷ more) l = absurd (omega arith)

-- ---- no list

each-stays : (queues : List EventQueue) → map_index (λ kind queue. queue) queues ≡ queues
each-stays [] = refl
each-stays (q ∷ qs) = ap (λ rest. q ∷ rest) (each-stays qs)

each-can : (queues : List EventQueue) → all_index (λ kind queue. true) queues ≡ true
each-can [] = refl
each-can (q ∷ qs) = each-can qs

-- where there is no list nothing is sent
pub none-sent : (lists : List ListValue) (queues : List EventQueue) → length lists ≡ 0 → queues ≡ queues_after (events_sent (lists_of lists).kinds (lists_of lists).values) queues
unfolding queues_after
none-sent [] queues e = sym (each-stays queues)
none-sent (x ∷ xs) queues e = absurd (omega arith)

-- and nothing needs a number
pub none-numbered : (lists : List ListValue) (queues : List EventQueue) → length lists ≡ 0 → has_event_numbers (events_sent (lists_of lists).kinds (lists_of lists).values) queues ≡ true
unfolding has_event_numbers
none-numbered [] queues e = each-can queues
none-numbered (x ∷ xs) queues e = absurd (omega arith)
