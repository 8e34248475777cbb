-- A core stands for the history with an accepted step.
use Rattle.std.proofs.Common.{ℕ, zero, suc, ◌+◌, ◌<◌, Bool, true, false, ◌||◌, ◌&&◌, ◌==◌, eqb, nat_lt, ◌≡◌, inl, inr, List, [], ◌∷◌, ◌++◌, length, get_or, Option, Some, None, refl, sym, ◌∙◌, ap, subst, arith, lt-ltb, ltb-true, add-one, length-append}
use Rattle.std.proofs.lemmas.Bool.{both_ways, false_from_ne_true, cases_order, or_cases, or_left, or_right}
use Rattle.std.proofs.lemmas.Bool.Decides.{eqb_tells}
use Rattle.number_set.specs.Members.{contains}
use Rattle.model.specs.declared.steps.Step.{Step}
use Rattle.model.specs.declared.steps.Step.TheVariants.{Cond, Start, Skip, Finish, Sync}
use Rattle.model.specs.steps.Schedule.{Schedule, recording}
use Rattle.model.specs.steps.Lawful.{started, skipped, finished, answered, syncs_in, sets_at, May, IsLawful}
use Rattle.model.proofs.order.Extending.{may_extended, lawful_extended}
use Rattle.executor_core.specs.Stands.{Stand, MeetsAmong, ClashesAmong, MeetsBy, ClashesBy, AreListed, IsDueBy, IsQuiet, Stands, IsPassed}
use Rattle.executor_core.proofs.Judging.{done_below, due_is, next_fresh}
use Rattle.executor_core.proofs.Rows.{none-due}
use Rattle.model.proofs.lists.Places.{get_or-last}

-- the sync point that may come is the next one
next_is : (core : Stand) (sets : Option (List (List ℕ))) (h : List Step) (k : ℕ) → Stands core sets h → May (recording core.schedule sets) h (Sync k) → k ≡ core.done
next_is core sets h k stands may = elim (cases_order k core.done) [
  | inl same ↦ same
  | inr other ↦ elim other [
    | inl below ↦ absurd (both_ways _ may.fresh (done_below core sets h stands k below))
    | inr above ↦ absurd (both_ways _ (next_fresh core sets h stands core.done (omega arith)) (may.lower core.done above))
  ]
]

one_further : (j k : ℕ) → (eqb k j || nat_lt j k) ≡ nat_lt j (k + 1)
one_further j k = elim (cases_order j k) [
  | inl same ↦ or_left (eqb k j) (nat_lt j k) (elim (eqb_tells k j) [ inl e ↦ e.0 | inr e ↦ absurd (e.1 (sym same)) ]) ∙ sym (lt-ltb j (k + 1) (omega arith))
  | inr other ↦ elim other [
    | inl below ↦ (ap (λ b. eqb k j || b) (lt-ltb j k below) ∙ or_true (eqb k j)) ∙ sym (lt-ltb j (k + 1) (omega arith))
    | inr above ↦
        (ap (λ b. b || nat_lt j k) (false_from_ne_true (eqb k j) (λ e. elim (eqb_tells k j) [ inl f ↦ let q : k ≡ j = f.1 in omega arith | inr f ↦ both_ways _ f.0 e ]))
        ∙ false_from_ne_true (nat_lt j k) (λ e. let low : j < k = ltb-true j k e in omega arith))
        ∙ sym (false_from_ne_true (nat_lt j (k + 1)) (λ e. let low : j < k + 1 = ltb-true j (k + 1) e in omega arith))
  ]
]
  where
    or_true : (b : Bool) → (b || true) ≡ true
    or_true true = refl
    or_true false = refl

-- a core whose rows stay, as one whose rows may be others
with_rows : (core new : Stand) (k : ℕ) → ◌≡◌ {A = Stand} new (record core { done = k + 1 }) → ◌≡◌ {A = Stand} new (record core { done = k + 1; due = new.due; met = new.met; clashed = new.clashed })
with_rows core new k rest = rest ∙ (λ i. record core { done = k + 1; due = (sym rest i).due; met = (sym rest i).met; clashed = (sym rest i).clashed })

-- what is known of the core after a sync point, where its rows are those of the kind sets recorded there
record IsSynced (core new : Stand) (sets more : Option (List (List ℕ))) (h : List Step) (k : ℕ) : Type 0 where
  rest : ◌≡◌ {A = Stand} new (record core { done = k + 1; due = new.due; met = new.met; clashed = new.clashed })
  lawful : IsLawful (recording core.schedule more) (Sync k ∷ h)
  meets : (n m : ℕ) → MeetsBy new more (Sync k ∷ h) n m
  clashes : (c m : ℕ) → ClashesBy new more (Sync k ∷ h) c m
  due : IsDueBy new more (Sync k ∷ h)
  listed : AreListed more (Sync k ∷ h)

-- it stands for the history with the sync point
stands_synced : (core new : Stand) (sets more : Option (List (List ℕ))) (h : List Step) (k : ℕ) → Stands core sets h → May (recording core.schedule sets) h (Sync k) →
    IsSynced core new sets more h k → Stands new more (Sync k ∷ h)
stands_synced core new sets more h k stands may is = record {
  lawful = subst (λ (s : Stand). IsLawful (recording s.schedule more) (Sync k ∷ h)) (sym is.rest) is.lawful;
  begins = λ m. stands.begins m ∙ ap (λ (s : Stand). contains s.begun m) (sym is.rest);
  ends = λ m. stands.ends m ∙ ap (λ (s : Stand). contains s.over m) (sym is.rest);
  asks = λ c. stands.asks c ∙ ap (λ (s : Stand). contains s.asked c) (sym is.rest);
  yeses = λ c. stands.yeses c ∙ ap (λ (s : Stand). contains s.yes c) (sym is.rest);
  syncs = λ j. ap (λ b. eqb k j || b) (stands.syncs j ∙ ap (λ (d : ℕ). nat_lt j d) (sym (next_is core sets h k stands may))) ∙ (one_further j k ∙ ap (λ (s : Stand). nat_lt j s.done) (sym is.rest));
  passed = subst IsPassed (sym is.rest) stands.passed;
  meets = is.meets;
  clashes = is.clashes;
  due = is.due;
  listed = is.listed;
}

-- the core stands for the history with a sync point, where the run records no kind sets
pub stands_sync : (core new : Stand) (sets : Option (List (List ℕ))) (h : List Step) (k : ℕ) → sets ≡ None → Stands core sets h → May (recording core.schedule sets) h (Sync k) →
    ◌≡◌ {A = Stand} new (record core { done = k + 1 }) → Stands new sets (Sync k ∷ h)
stands_sync core new (Some lists) h k plain stands may rest = absurd (cc)
stands_sync core new None h k plain stands may rest = stands_synced core new None None h k stands may (record {
  rest = with_rows core new k rest;
  lawful = (may, stands.lawful);
  meets = λ n m. subst (λ (s : Stand). MeetsBy s None (Sync k ∷ h) n m) (sym rest) (stands.meets n m);
  clashes = λ c m. subst (λ (s : Stand). ClashesBy s None (Sync k ∷ h) c m) (sym rest) (stands.clashes c m);
  due = subst (λ (s : Stand). IsDueBy s None (Sync k ∷ h)) (sym rest) stands.due;
  listed = tt;
})

-- and one more list is recorded
more_listed : (lists : List (List ℕ)) (more : List ℕ) (n : ℕ) → length lists ≡ n → length (lists ++ more ∷ []) ≡ suc n
more_listed lists more n e = length-append lists (more ∷ []) ∙ (add-one (length lists) ∙ ap suc e)

-- the kind sets recorded last after a sync point that records these
pub recorded_last : (s : Schedule) (lists : List (List ℕ)) (more : List ℕ) (h : List Step) (k : ℕ) → length lists ≡ suc (syncs_in h) →
    sets_at (recording s (Some (lists ++ more ∷ []))) (Sync k ∷ h) ≡ Some more
recorded_last s lists more h k e = ap Some (get_or-last lists more (suc (syncs_in h)) [] e)

-- the core stands for the history with a sync point, with its rows made anew
pub stands_renewed : (core new : Stand) (lists : List (List ℕ)) (more : List ℕ) (h : List Step) (k : ℕ) → Stands core (Some lists) h → May (recording core.schedule (Some lists)) h (Sync k) →
    ◌≡◌ {A = Stand} new (record core { done = k + 1; due = new.due; met = new.met; clashed = new.clashed }) → ((n m : ℕ) → MeetsAmong new (Some more) n m) → ((c m : ℕ) → ClashesAmong new (Some more) c m) →
    ((there : List ℕ) → new.due ≡ Some there → IsQuiet new × (Some more ≡ Some there)) → Stands new (Some (lists ++ more ∷ [])) (Sync k ∷ h)
stands_renewed core new lists more h k stands may rest meets clashes due =
    let low : syncs_in h < length lists = omega (arith, stands.listed) in
    let last = recorded_last new.schedule lists more h k stands.listed in
    stands_synced core new (Some lists) (Some (lists ++ more ∷ [])) h k stands may (record {
      rest = rest;
      lawful = (may_extended core.schedule lists more h (Sync k) low may, lawful_extended core.schedule lists more h low stands.lawful);
      meets = λ n m. subst (λ (there : Option (List ℕ)). MeetsAmong new there n m) (sym last) (meets n m);
      clashes = λ c m. subst (λ (there : Option (List ℕ)). ClashesAmong new there c m) (sym last) (clashes c m);
      due = λ there e. ((due there e).0, last ∙ (due there e).1);
      listed = more_listed lists more (suc (syncs_in h)) stands.listed;
    })

-- and with a sync point that records the kind sets recorded last, with the rows that it has
pub stands_same : (core new : Stand) (lists : List (List ℕ)) (h : List Step) (k : ℕ) → Stands core (Some lists) h → May (recording core.schedule (Some lists)) h (Sync k) →
    ◌≡◌ {A = Stand} new (record core { done = k + 1 }) → Stands new (Some (lists ++ get_or lists (syncs_in h) [] ∷ [])) (Sync k ∷ h)
stands_same core new lists h k stands may rest =
    stands_renewed core new lists (get_or lists (syncs_in h) []) h k stands may (with_rows core new k rest)
    (λ n m. subst (λ (s : Stand). MeetsAmong s (Some (get_or lists (syncs_in h) [])) n m) (sym rest) (stands.meets n m))
    (λ c m. subst (λ (s : Stand). ClashesAmong s (Some (get_or lists (syncs_in h) [])) c m) (sym rest) (stands.clashes c m))
    (subst (λ (s : Stand). (there : List ℕ) → s.due ≡ Some there → IsQuiet s × (Some (get_or lists (syncs_in h) []) ≡ Some there)) (sym rest) stands.due)

-- ---- systems

-- three tests of which some passes, in another order
or_grouped : (a b c : Bool) → ((a || b) || c) ≡ (a || (b || c))
or_grouped true b c = refl
or_grouped false b c = refl

or_moved : (a b c : Bool) → (b || (a || c)) ≡ (a || (b || c))
or_moved true true c = refl
or_moved true false c = refl
or_moved false true c = refl
or_moved false false c = refl

-- where all that had begun was over it stays so with one system more in both
both_quiet : (core new : Stand) (n : ℕ) → ((m : ℕ) → contains new.begun m ≡ ((n == m) || contains core.begun m)) → ((m : ℕ) → contains new.over m ≡ ((n == m) || contains core.over m)) →
    IsQuiet core → IsQuiet new
both_quiet core new n begins ends quiet m b = elim (or_cases (n == m) (contains core.begun m) (sym (begins m) ∙ b)) [
  | inl same ↦ ends m ∙ or_left (n == m) (contains core.over m) same
  | inr before ↦ ends m ∙ or_right (n == m) (contains core.over m) (quiet m before)
]

-- the core stands for the history with a system that has started
pub stands_start : (core new : Stand) (sets : Option (List (List ℕ))) (h : List Step) (n : ℕ) → Stands core sets h → May (recording core.schedule sets) h (Start n) →
    ◌≡◌ {A = Stand} new (record core { begun = new.begun; from = new.from }) → ((m : ℕ) → contains new.begun m ≡ ((n == m) || contains core.begun m)) → (IsPassed core → IsPassed new) →
    core.due ≡ None → Stands new sets (Start n ∷ h)
stands_start core new sets h n stands may rest begins passes rows = record {
  lawful = subst (λ (s : Stand). IsLawful (recording s.schedule sets) (Start n ∷ h)) (sym rest) (may, stands.lawful);
  begins = λ m. or_grouped (n == m) (started h m) (skipped h m) ∙ (ap (λ b. (n == m) || b) (stands.begins m) ∙ sym (begins m));
  ends = λ m. stands.ends m ∙ ap (λ (s : Stand). contains s.over m) (sym rest);
  asks = λ c. stands.asks c ∙ ap (λ (s : Stand). contains s.asked c) (sym rest);
  yeses = λ c. stands.yeses c ∙ ap (λ (s : Stand). contains s.yes c) (sym rest);
  syncs = λ j. stands.syncs j ∙ ap (λ (s : Stand). nat_lt j s.done) (sym rest);
  passed = passes stands.passed;
  meets = λ i m. subst (λ (s : Stand). MeetsBy s sets (Start n ∷ h) i m) (sym rest) (stands.meets i m);
  clashes = λ c m. subst (λ (s : Stand). ClashesBy s sets (Start n ∷ h) c m) (sym rest) (stands.clashes c m);
  due = λ there e. absurd (none-due new.due there (ap (λ (s : Stand). s.due) rest ∙ rows) e);
  listed = stands.listed;
}

-- with one that was skipped, and so has begun and is over
pub stands_skip : (core new : Stand) (sets : Option (List (List ℕ))) (h : List Step) (n : ℕ) → Stands core sets h → May (recording core.schedule sets) h (Skip n) →
    ◌≡◌ {A = Stand} new (record core { begun = new.begun; over = new.over; from = new.from }) → ((m : ℕ) → contains new.begun m ≡ ((n == m) || contains core.begun m)) →
    ((m : ℕ) → contains new.over m ≡ ((n == m) || contains core.over m)) → IsPassed new → Stands new sets (Skip n ∷ h)
stands_skip core new sets h n stands may rest begins ends passed = record {
  lawful = subst (λ (s : Stand). IsLawful (recording s.schedule sets) (Skip n ∷ h)) (sym rest) (may, stands.lawful);
  begins = λ m. or_moved (n == m) (started h m) (skipped h m) ∙ (ap (λ b. (n == m) || b) (stands.begins m) ∙ sym (begins m));
  ends = λ m. or_moved (n == m) (finished h m) (skipped h m) ∙ (ap (λ b. (n == m) || b) (stands.ends m) ∙ sym (ends m));
  asks = λ c. stands.asks c ∙ ap (λ (s : Stand). contains s.asked c) (sym rest);
  yeses = λ c. stands.yeses c ∙ ap (λ (s : Stand). contains s.yes c) (sym rest);
  syncs = λ j. stands.syncs j ∙ ap (λ (s : Stand). nat_lt j s.done) (sym rest);
  passed = passed;
  meets = λ i m. subst (λ (s : Stand). MeetsBy s sets (Skip n ∷ h) i m) (sym rest) (stands.meets i m);
  clashes = λ c m. subst (λ (s : Stand). ClashesBy s sets (Skip n ∷ h) c m) (sym rest) (stands.clashes c m);
  due = λ there e.
      let before = stands.due there (sym (ap (λ (s : Stand). s.due) rest) ∙ e) in
      (both_quiet core new n begins ends before.0, ap (λ (s : Stand). sets_at (recording s.schedule sets) h) rest ∙ before.1);
  listed = stands.listed;
}

-- the two changes of a skip as one
pub skip_changes : (core middle new : Stand) → ◌≡◌ {A = Stand} middle (record core { begun = middle.begun; from = middle.from }) → ◌≡◌ {A = Stand} new (record middle { over = new.over }) →
    ◌≡◌ {A = Stand} new (record core { begun = new.begun; over = new.over; from = new.from })
skip_changes core middle new first second =
    second
    ∙ ((λ i. record (first i) { over = new.over })
    ∙ (λ i. record core { begun = (sym second i).begun; over = new.over; from = (sym second i).from }))

-- with one that is finished, and so is over
pub stands_finish : (core new : Stand) (sets : Option (List (List ℕ))) (h : List Step) (n : ℕ) → Stands core sets h → May (recording core.schedule sets) h (Finish n) →
    ◌≡◌ {A = Stand} new (record core { over = new.over }) → ((m : ℕ) → contains new.over m ≡ ((n == m) || contains core.over m)) → Stands new sets (Finish n ∷ h)
stands_finish core new sets h n stands may rest ends = record {
  lawful = subst (λ (s : Stand). IsLawful (recording s.schedule sets) (Finish n ∷ h)) (sym rest) (may, stands.lawful);
  begins = λ m. stands.begins m ∙ ap (λ (s : Stand). contains s.begun m) (sym rest);
  ends = λ m. or_grouped (n == m) (finished h m) (skipped h m) ∙ (ap (λ b. (n == m) || b) (stands.ends m) ∙ sym (ends m));
  asks = λ c. stands.asks c ∙ ap (λ (s : Stand). contains s.asked c) (sym rest);
  yeses = λ c. stands.yeses c ∙ ap (λ (s : Stand). contains s.yes c) (sym rest);
  syncs = λ j. stands.syncs j ∙ ap (λ (s : Stand). nat_lt j s.done) (sym rest);
  passed = subst IsPassed (sym rest) stands.passed;
  meets = λ i m. subst (λ (s : Stand). MeetsBy s sets (Finish n ∷ h) i m) (sym rest) (stands.meets i m);
  clashes = λ c m. subst (λ (s : Stand). ClashesBy s sets (Finish n ∷ h) c m) (sym rest) (stands.clashes c m);
  due = λ there e.
      let before = stands.due there (sym (ap (λ (s : Stand). s.due) rest) ∙ e) in
      ((λ m b. ends m ∙ or_right (n == m) (contains core.over m) (before.0 m (sym (ap (λ (s : Stand). contains s.begun m) rest) ∙ b))), ap (λ (s : Stand). sets_at (recording s.schedule sets) h) rest ∙ before.1);
  listed = stands.listed;
}

-- with one that has started, and finished right behind
pub stands_whole : (core new : Stand) (sets : Option (List (List ℕ))) (h : List Step) (n : ℕ) → Stands core sets h → May (recording core.schedule sets) h (Start n) →
    May (recording core.schedule sets) (Start n ∷ h) (Finish n) → ◌≡◌ {A = Stand} new (record core { begun = new.begun; over = new.over; from = new.from }) →
    ((m : ℕ) → contains new.begun m ≡ ((n == m) || contains core.begun m)) → ((m : ℕ) → contains new.over m ≡ ((n == m) || contains core.over m)) → IsPassed new →
    Stands new sets (Finish n ∷ Start n ∷ h)
stands_whole core new sets h n stands may ended rest begins ends passed = record {
  lawful = subst (λ (s : Stand). IsLawful (recording s.schedule sets) (Finish n ∷ Start n ∷ h)) (sym rest) (ended, (may, stands.lawful));
  begins = λ m. or_grouped (n == m) (started h m) (skipped h m) ∙ (ap (λ b. (n == m) || b) (stands.begins m) ∙ sym (begins m));
  ends = λ m. or_grouped (n == m) (finished h m) (skipped h m) ∙ (ap (λ b. (n == m) || b) (stands.ends m) ∙ sym (ends m));
  asks = λ c. stands.asks c ∙ ap (λ (s : Stand). contains s.asked c) (sym rest);
  yeses = λ c. stands.yeses c ∙ ap (λ (s : Stand). contains s.yes c) (sym rest);
  syncs = λ j. stands.syncs j ∙ ap (λ (s : Stand). nat_lt j s.done) (sym rest);
  passed = passed;
  meets = λ i m. subst (λ (s : Stand). MeetsBy s sets (Finish n ∷ Start n ∷ h) i m) (sym rest) (stands.meets i m);
  clashes = λ c m. subst (λ (s : Stand). ClashesBy s sets (Finish n ∷ Start n ∷ h) c m) (sym rest) (stands.clashes c m);
  due = λ there e.
      let before = stands.due there (sym (ap (λ (s : Stand). s.due) rest) ∙ e) in
      (both_quiet core new n begins ends before.0, ap (λ (s : Stand). sets_at (recording s.schedule sets) h) rest ∙ before.1);
  listed = stands.listed;
}

-- with the rows made that were due
pub stands_made : (core new : Stand) (sets : Option (List (List ℕ))) (h : List Step) → Stands core sets h → ◌≡◌ {A = Stand} new (record core { due = None; met = new.met; clashed = new.clashed }) →
    (core.due ≡ None → ◌≡◌ {A = Stand} new core) → ((there : List ℕ) → core.due ≡ Some there → (n m : ℕ) → MeetsAmong new (Some there) n m) →
    ((there : List ℕ) → core.due ≡ Some there → (c m : ℕ) → ClashesAmong new (Some there) c m) → Stands new sets h
stands_made core new sets h stands rest kept meets clashes = elim (due_is core.due) [
  | inl rows ↦ subst (λ (s : Stand). Stands s sets h) (sym (kept rows)) stands
  | inr due ↦
      let last : sets_at (recording new.schedule sets) h ≡ Some due.0 = ap (λ (s : Stand). sets_at (recording s.schedule sets) h) rest ∙ (stands.due due.0 due.1).1 in
      record {
        lawful = subst (λ (s : Stand). IsLawful (recording s.schedule sets) h) (sym rest) stands.lawful;
        begins = λ m. stands.begins m ∙ ap (λ (s : Stand). contains s.begun m) (sym rest);
        ends = λ m. stands.ends m ∙ ap (λ (s : Stand). contains s.over m) (sym rest);
        asks = λ c. stands.asks c ∙ ap (λ (s : Stand). contains s.asked c) (sym rest);
        yeses = λ c. stands.yeses c ∙ ap (λ (s : Stand). contains s.yes c) (sym rest);
        syncs = λ j. stands.syncs j ∙ ap (λ (s : Stand). nat_lt j s.done) (sym rest);
        passed = subst IsPassed (sym rest) stands.passed;
        meets = λ n m. subst (λ (there : Option (List ℕ)). MeetsAmong new there n m) (sym last) (meets due.0 due.1 n m);
        clashes = λ c m. subst (λ (there : Option (List ℕ)). ClashesAmong new there c m) (sym last) (clashes due.0 due.1 c m);
        due = λ there e. absurd (none-due new.due there (ap (λ (s : Stand). s.due) rest) e);
        listed = stands.listed;
      }
]

-- ---- conditions

-- the same, where the answer of the new step is read as it computes
stands_asked : (core new : Stand) (sets : Option (List (List ℕ))) (h : List Step) (c : ℕ) (answer : Bool) → Stands core sets h → May (recording core.schedule sets) h (Cond c answer) → ◌≡◌ {A = Stand} new (record core { asked = new.asked; yes = new.yes }) →
    ((d : ℕ) → contains new.asked d ≡ ((c == d) || contains core.asked d)) → ((d : ℕ) → contains new.yes d ≡ (((c == d) && answer) || contains core.yes d)) →
    ((d : ℕ) → answered (Cond c answer ∷ h) d true ≡ (((c == d) && answer) || answered h d true)) → Stands new sets (Cond c answer ∷ h)
stands_asked core new sets h c answer stands may rest asked agreed reads = record {
  lawful = subst (λ (s : Stand). IsLawful (recording s.schedule sets) (Cond c answer ∷ h)) (sym rest) (may, stands.lawful);
  begins = λ m. stands.begins m ∙ ap (λ (s : Stand). contains s.begun m) (sym rest);
  ends = λ m. stands.ends m ∙ ap (λ (s : Stand). contains s.over m) (sym rest);
  asks = λ d. ap (λ b. eqb c d || b) (stands.asks d) ∙ sym (asked d);
  yeses = λ d. reads d ∙ (ap (λ b. (eqb c d && answer) || b) (stands.yeses d) ∙ sym (agreed d));
  syncs = λ j. stands.syncs j ∙ ap (λ (s : Stand). nat_lt j s.done) (sym rest);
  passed = subst IsPassed (sym rest) stands.passed;
  meets = λ n m. subst (λ (s : Stand). MeetsBy s sets (Cond c answer ∷ h) n m) (sym rest) (stands.meets n m);
  clashes = λ d m. subst (λ (s : Stand). ClashesBy s sets (Cond c answer ∷ h) d m) (sym rest) (stands.clashes d m);
  due = subst (λ (s : Stand). IsDueBy s sets (Cond c answer ∷ h)) (sym rest) stands.due;
  listed = stands.listed;
}

-- the core stands for the history with the condition that was asked
pub stands_ask : (core new : Stand) (sets : Option (List (List ℕ))) (h : List Step) (c : ℕ) (answer : Bool) → Stands core sets h → May (recording core.schedule sets) h (Cond c answer) → ◌≡◌ {A = Stand} new (record core { asked = new.asked; yes = new.yes }) →
    ((d : ℕ) → contains new.asked d ≡ ((c == d) || contains core.asked d)) → ((d : ℕ) → contains new.yes d ≡ (((c == d) && answer) || contains core.yes d)) → Stands new sets (Cond c answer ∷ h)
stands_ask core new sets h c true stands may rest asked agreed = stands_asked core new sets h c true stands may rest asked agreed (λ d. refl)
stands_ask core new sets h c false stands may rest asked agreed = stands_asked core new sets h c false stands may rest asked agreed (λ d. refl)
