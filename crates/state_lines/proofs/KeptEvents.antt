-- Kept events from a number on, by their values.
use Rattle.std.proofs.Common.{◌≡◌, ◌≤◌, ◌<◌, ◌+◌, ◌-◌, ℕ, suc, ℤ, Bool, true, false, cond, nat_le, List, [], ◌∷◌, ◌++◌, length, map, filter, flat_map, take, get_or, refl, sym, ap, ap₂, ◌∙◌, subst, arith, append_assoc, le-leb, length-append}
use Rattle.std.proofs.lemmas.Bool.{leb-true, cond-true}
use Rattle.std.proofs.lemmas.Grind.{flat_map-append}
use Rattle.std.proofs.lemmas.List.{append-nil, length-map, length-take-le, take_more}
use Rattle.std.specs.List.{AllByRecursion}
use Rattle.model.proofs.lists.Each.{each-get_or}
use Rattle.model.specs.state.State.{Event, EventQueue, empty_queue}
use Rattle.model.specs.state.Events.{queue_of, unread}
use Rattle.model.specs.state.Shape.{AreNumbered, IsQueue}
use Rattle.event_buffers.specs.Queue.{numbered}
use Rattle.event_buffers.proofs.Numbered.{numbered-append}
use Rattle.state_lines.specs.Looks.{event_line}

-- events that are numbered are so by their values, and as many as there are numbers
by_values : (from to : ℕ) (es : List Event) → AreNumbered from to es → (es ≡ numbered from (map (λ (e : Event). e.value) es)) × (from + length es ≡ to)
by_values from to [] are = (refl, omega (arith, are))
by_values from to (e ∷ es) are =
    let more = by_values (suc from) to es are.1 in
    (ap₂ (λ n rest. record { number = n; value = e.value } ∷ rest) are.0 more.0, omega (arith, more.1))

-- all of them are kept from a cursor on that is not above the first
all_kept : (cursor from to : ℕ) (es : List Event) → cursor ≤ from → AreNumbered from to es → filter (λ (e : Event). nat_le cursor e.number) es ≡ es
all_kept cursor from to [] low are = refl
all_kept cursor from to (e ∷ es) low are =
    cond-true (nat_le cursor e.number) (e ∷ filter (λ (x : Event). nat_le cursor x.number) es) (filter (λ (x : Event). nat_le cursor x.number) es) (le-leb cursor e.number (omega (arith, low, are.0)))
    ∙ ap (◌∷◌ e) (all_kept cursor (suc from) to es (omega (arith, low)) are.1)

-- those that are kept from a cursor on are numbered too
kept_from : (cursor from to : ℕ) (es : List Event) → AreNumbered from to es → (first : ℕ) × AreNumbered first to (filter (λ (e : Event). nat_le cursor e.number) es)
kept_from cursor from to [] are = (from, are)
kept_from cursor from to (e ∷ es) are = go (kept_from cursor (suc from) to es are.1) (nat_le cursor e.number) refl
  where
    go : (first : ℕ) × AreNumbered first to (filter (λ (x : Event). nat_le cursor x.number) es) → (b : Bool) → nat_le cursor e.number ≡ b → (first : ℕ) × AreNumbered first to (cond b (e ∷ filter (λ (x : Event). nat_le cursor x.number) es) (filter (λ (x : Event). nat_le cursor x.number) es))
    go rest true is =
        let low : cursor ≤ e.number = leb-true cursor e.number is in
        (from, (are.0, subst (AreNumbered (suc from) to) (sym (all_kept cursor (suc from) to es (omega (arith, low, are.0)) are.1)) are.1))
    go rest false is = rest

-- the kept events of a queue from a cursor on have the last numbers given, so that they are those of their values
pub kept_by_values : (cursor : ℕ) (q : EventQueue) (older newer : List ℤ) → IsQueue q → older ++ newer ≡ unread q cursor →
    (length older + length newer ≤ q.next)
    × (flat_map event_line (filter (λ (e : Event). nat_le cursor e.number) q.kept)
    ≡ flat_map event_line (numbered (q.next - length newer - length older) older) ++ flat_map event_line (numbered (q.next - length newer) newer))
kept_by_values cursor q older newer is same =
    let kept = filter (λ (e : Event). nat_le cursor e.number) q.kept in
    let from = kept_from cursor is.from q.next q.kept is.numbered in
    let by = by_values from.0 q.next kept from.1 in
    let many : length older + length newer ≡ length kept = sym (length-append older newer) ∙ (ap length same ∙ length-map kept (λ (e : Event). e.value)) in
    let begin : from.0 ≡ q.next - length newer - length older = omega (arith, many, by.1) in
    let middle : q.next - length newer ≡ from.0 + length older = omega (arith, many, by.1) in (
      omega (arith, many, by.1),
      ap (flat_map event_line) (by.0 ∙ (ap (numbered from.0) (sym same) ∙ numbered-append from.0 (q.next - length newer) older newer middle))
          ∙ (flat_map-append event_line (numbered from.0 older) (numbered (q.next - length newer) newer)
          ∙ ap (λ n. flat_map event_line (numbered n older) ++ flat_map event_line (numbered (q.next - length newer) newer)) begin),
    )

-- one event more
pub events_next : (first : ℕ) (values : List ℤ) (i : ℕ) (d value : ℤ) (before old new : List ℕ) → i < length values → value ≡ get_or values i d →
    old ≡ before ++ flat_map event_line (numbered first (take i values)) → new ≡ old ++ event_line (record { number = first + i; value = value }) →
    new ≡ before ++ flat_map event_line (numbered first (take (i + 1) values))
events_next first values i d value before old new low here is more =
    let taken : length (take i values) ≡ i = length-take-le i values (omega (arith, low)) in
    let split = numbered-append first (first + i) (take i values) (get_or values i d ∷ []) (omega (arith, taken)) in
    more ∙ (ap (λ t. t ++ event_line (record { number = first + i; value = value })) is
    ∙ (append_assoc before (flat_map event_line (numbered first (take i values))) (event_line (record { number = first + i; value = value }))
    ∙ ap (λ t. before ++ t) (
    ap (λ v. flat_map event_line (numbered first (take i values)) ++ event_line (record { number = first + i; value = v })) here
    ∙ (ap (λ t. flat_map event_line (numbered first (take i values)) ++ t) (sym (append-nil (event_line (record { number = first + i; value = get_or values i d }))))
    ∙ (sym (flat_map-append event_line (numbered first (take i values)) (numbered (first + i) (get_or values i d ∷ [])))
    ∙ (ap (flat_map event_line) (sym split) ∙ ap (λ vs. flat_map event_line (numbered first vs)) (sym (take_more values i d low))))))))

-- the queue of a kind is one
no_events : IsQueue empty_queue
no_events = record { from = 0; numbered = refl; older = omega arith; newer = omega arith; most = omega arith }

pub queue_at : (queues : List EventQueue) (kind : ℕ) → AllByRecursion IsQueue queues → IsQueue (queue_of queues kind)
queue_at queues kind all = each-get_or IsQueue queues kind empty_queue no_events all
