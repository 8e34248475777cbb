-- A view whose queries change.
use Rattle.std.proofs.Common.{◌≡◌, ℕ, zero, suc, ◌<◌, ◌⊎◌, inl, inr, ℤ, List, [], ◌∷◌, length, map, get_or, set, slice_get, Option, Some, refl, sym, ap, ap₂, ◌∙◌, subst, arith}
use Rattle.std.specs.List.{AllByRecursion}
use Rattle.std.proofs.lemmas.Option.{slice_get-get_or}
use Rattle.std.proofs.lemmas.List.{get_or-map, length-map}
use Rattle.model.specs.Lists.{update_at}
use Rattle.model.specs.state.State.{EventQueue, Memory, World, State}
use Rattle.model.specs.access.Query.{Term, writes as model_writes}
use Rattle.model.specs.access.Access.{Params}
use Rattle.model.specs.shown.Input.{ShownRow, rows_of, shown, value_of, unread_of}
use Rattle.event_buffers.specs.Lists.{ListsValue}
use Rattle.body.specs.Issued.{IssuedSeen}
use Rattle.body.specs.Seen.{Seen, query_at, rows_at, with_words, with_written}
use Rattle.body.specs.Sheet.{Sheet}
use Rattle.body.specs.SeenOver.{seen_over, AreTogether}
use Rattle.body.specs.Values.{ValuesSeen, first_values}
use Rattle.body.proofs.Edits.{map-set_same, map-set_update}
use Rattle.body.proofs.Gets.{same-some}

-- a query that is shown is one of the queries
pub query-within : (tick : ℕ) (qs : List Sheet) (values : ValuesSeen) (unread sent : ListsValue) (issued : IssuedSeen) (seen : Seen) (q : ℕ) → seen_over tick qs values unread sent issued ≡ seen → q < length seen.shown.rows → q < length qs
query-within tick qs values unread sent issued seen q e l = let a = ap (λ (s : Seen). length s.shown.rows) e in let b = length-map qs (λ (s : Sheet). s.rows) in omega arith

-- a view over columns with other cells of a query, which its terms, its rows and its cells determine
pub seen_over-cells : (tick : ℕ) (qs us : List Sheet) (values : ValuesSeen) (unread sent : ListsValue) (issued : IssuedSeen) (q : ℕ) (f : List Term → List ShownRow → List (List (Option (List ℤ))) → List (List (Option (List ℤ)))) (d new : Sheet) →
    q < length qs → us ≡ set qs q new →
    new ≡ (let s = get_or qs q d in record { terms = s.terms; rows = s.rows; cells = f s.terms s.rows s.cells; taken = s.taken; tick = s.tick; places = s.places }) →
    seen_over tick us values unread sent issued ≡ (let seen = seen_over tick qs values unread sent issued in let o = seen.outcome in record {
      params = seen.params;
      shown = seen.shown;
      outcome = record { cells = update_at q (f (query_at seen.params q) (rows_at seen.shown q)) o.cells; res_mut = o.res_mut; events = o.events; commands = o.commands; registers = o.registers };
      opening = seen.opening;
    })
seen_over-cells tick qs us values unread sent issued q f d new l e n =
    let terms = get_or-map (λ (s : Sheet). s.terms) qs q d [] l in
    let rows = get_or-map (λ (s : Sheet). s.rows) qs q d [] l in
    ap (λ (xs : List Sheet). seen_over tick xs values unread sent issued) e
    ∙ (λ i. record {
      params = record { queries = map-set_same (λ (s : Sheet). s.terms) qs q new d (ap (λ (s : Sheet). s.terms) n) i; res = values.res; res_mut = values.res_mut; reads = unread.kinds; writes = sent.kinds; spawns = issued.spawns };
      shown = record { rows = map-set_same (λ (s : Sheet). s.rows) qs q new d (ap (λ (s : Sheet). s.rows) n) i; res = values.res_shown; res_mut = values.res_mut_shown; unread = unread.values; registers = values.registers_shown; granted = issued.granted };
      outcome = record {
        cells = map-set_update (λ (s : Sheet). s.cells) (f (get_or (map (λ (s : Sheet). s.terms) qs) q []) (get_or (map (λ (s : Sheet). s.rows) qs) q [])) qs q new d
            (ap (λ (s : Sheet). s.cells) n ∙ ap₂ (λ ts rs. f ts rs (get_or qs q d).cells) (sym terms) (sym rows)) i;
        res_mut = values.written;
        events = sent.values;
        commands = issued.commands;
        registers = values.registers;
      };
      opening = record {
        taken = map-set_same (λ (s : Sheet). s.taken) qs q new d (ap (λ (s : Sheet). s.taken) n) i;
        tick = tick;
        places = map-set_same (λ (s : Sheet). s.places) qs q new d (ap (λ (s : Sheet). s.places) n) i;
      };
    })

-- with words written
pub seen_over-written : (tick : ℕ) (qs us : List Sheet) (values : ValuesSeen) (unread sent : ListsValue) (issued : IssuedSeen) (q r k : ℕ) (w : List ℤ) (d new : Sheet) → q < length qs → us ≡ set qs q new →
    new ≡ (let s = get_or qs q d in record { terms = s.terms; rows = s.rows; cells = update_at r (with_words s.terms k w) s.cells; taken = s.taken; tick = s.tick; places = s.places }) →
    seen_over tick us values unread sent issued ≡ with_written (seen_over tick qs values unread sent issued) q r k w
seen_over-written tick qs us values unread sent issued q r k w d new l e n = seen_over-cells tick qs us values unread sent issued q (λ terms rows. update_at r (with_words terms k w)) d new l e n

-- what a view that is opened shows
pub seen_over-shown : (params : Params) (memory : Memory) (events : List EventQueue) (world : World) (tick : ℕ) (qs : List Sheet) (values : ValuesSeen) (unread sent : ListsValue) (issued : IssuedSeen) →
    map (λ (s : Sheet). s.rows) qs ≡ map (λ query. rows_of query memory.last_run world.slots) params.queries → values ≡ first_values params world.resources memory.registers → unread.values ≡ unread_of events params.reads memory.cursors →
    (state : State) → state.world ≡ world → state.events ≡ events → (seen_over tick qs values unread sent issued).shown ≡ shown params memory state issued.granted
unfolding shown
seen_over-shown params memory events world tick qs values unread sent issued h v u state w es =
    ap (λ (x : ValuesSeen). (seen_over tick qs x unread sent issued).shown) v
    ∙ (λ i. record {
      rows = (h ∙ ap (λ (v : World). map (λ query. rows_of query memory.last_run v.slots) params.queries) (sym w)) i;
      res = ap (λ (v : World). map (value_of v.resources) params.res) (sym w) i;
      res_mut = ap (λ (v : World). map (value_of v.resources) params.res_mut) (sym w) i;
      unread = (u ∙ ap (λ qs. unread_of qs params.reads memory.cursors) (sym es)) i;
      registers = memory.registers;
      granted = issued.granted;
    })

-- ---- the queries stay together as one of them is written

-- what a query of a view was opened over stays
pub record IsSameOpening (old new : Sheet) : Type 0 where
  pub terms : new.terms ≡ old.terms
  pub rows : new.rows ≡ old.rows
  pub taken : new.taken ≡ old.taken
  pub tick : new.tick ≡ old.tick

get-set : {A : Type 0} (xs : List A) (q n : ℕ) (new x : A) → slice_get (set xs q new) n ≡ Some x → ((n ≡ q) × (x ≡ new)) ⊎ (slice_get xs n ≡ Some x)
get-set [] q n new x h = absurd (cc)
get-set (y ∷ ys) zero zero new x h = inl (refl, sym (same-some new x h))
get-set (y ∷ ys) zero (suc n) new x h = inr h
get-set (y ∷ ys) (suc q) zero new x h = inr h
get-set (y ∷ ys) (suc q) (suc n) new x h = elim (get-set ys q n new x h) [ inl p ↦ inl (ap suc p.0, p.1) | inr e ↦ inr e ]

-- a query now was one before, with the same opening
record WasThere (qs : List Sheet) (n : ℕ) (x : Sheet) : Type 0 where
  before : Sheet
  there : slice_get qs n ≡ Some before
  same : IsSameOpening before x

was-there : (qs : List Sheet) (q : ℕ) (old new : Sheet) → slice_get qs q ≡ Some old → IsSameOpening old new → (n : ℕ) (x : Sheet) → slice_get (set qs q new) n ≡ Some x → WasThere qs n x
was-there qs q old new at same n x h = elim (get-set qs q n new x h) [
  | inl p ↦ record { before = old; there = ap (slice_get qs) p.0 ∙ at; same = subst (IsSameOpening old) (sym p.1) same }
  | inr e ↦ record { before = x; there = e; same = record { terms = refl; rows = refl; taken = refl; tick = refl } }
]

all-ticks : (tick : ℕ) (qs : List Sheet) (q : ℕ) (new : Sheet) → AllByRecursion (λ (s : Sheet). s.tick ≡ tick) qs → ((old : Sheet) → slice_get qs q ≡ Some old → new.tick ≡ old.tick) → AllByRecursion (λ (s : Sheet). s.tick ≡ tick) (set qs q new)
all-ticks tick [] q new h same = tt
all-ticks tick (x ∷ qs) zero new h same = (same x refl ∙ h.0, h.1)
all-ticks tick (x ∷ qs) (suc q) new h same = (h.0, all-ticks tick qs q new h.1 same)

pub together-still : (tick : ℕ) (qs : List Sheet) (q : ℕ) (d new : Sheet) → q < length qs → IsSameOpening (get_or qs q d) new → AreTogether tick qs → AreTogether tick (set qs q new)
together-still tick qs q d new l same h =
    let at = slice_get-get_or qs q d l in
    record {
      ticks = all-ticks tick qs q new h.ticks (λ old e. same.tick ∙ ap (λ (s : Sheet). s.tick) (same-some (get_or qs q d) old (sym at ∙ e)));
      alone = λ n x there j column c place e g m t other differ writes r row rows index.
          (let me = was-there qs q (get_or qs q d) new at same n x there in
          let them = was-there qs q (get_or qs q d) new at same m t other in
          h.alone n me.before me.there j column (ap (λ cs. slice_get cs j) (sym me.same.taken) ∙ c) place e g m them.before them.there differ
          (ap (λ ts. model_writes ts column.kind) (sym them.same.terms) ∙ writes) r row (ap (λ rs. slice_get rs r) (sym them.same.rows) ∙ rows) index);
    }
