-- The conditions of declared items, what is refused of them, and what a schedule has of them.
use Rattle.std.proofs.Common.{◌≡◌, ◌↔◌, ℕ, suc, ◌+◌, ◌<◌, ◌≤◌, ◌^◌, ◌⊎◌, inl, inr, Bool, ◌||◌, cond, eqb, true, false, List, [], ◌∷◌, ◌++◌, Some, None, Option, length, map, take, flat_map, get_or, Bor, Result, Ok, Err, IfOk, append_assoc, arith, below_more, refl, subst, sym, ap, ◌∙◌}
use Rattle.std.specs.Bool.{MatchBool}
use Rattle.std.specs.List.{list_any, All}
use Rattle.std.specs.Option.{is_some}
use Rattle.std.proofs.lemmas.Bool.{false≢true, or_cases, or_left, or_right, eqb-true, eq-eqb, cases_lt, or_parts as both_false}
use Rattle.std.proofs.lemmas.List.{take_all, get_or_append_left, get_or_push, get_or_default, length_push, length-append, map-append, length-map, get_or-map, get_or_past}
use Rattle.model.specs.Lists.{has, IsIn, is_number}
use Rattle.model.specs.access.Query.{Term, written, writes}
use Rattle.model.specs.access.QueryFaults.{query_fault}
use Rattle.model.specs.access.Condition.{Condition, queries_of}
use Rattle.model.specs.access.Condition.Condition.{RunOnce}
use Rattle.model.specs.steps.Schedule.{Schedule, ScheduledSystem, ScheduledCondition, covers, access_of}
use Rattle.model.specs.declarations.Declarations.{Declared, DeclaredItem, DeclaredSystem, plain_item, items_of, hierarchy_of, conditions_in, from_each, declared_conditions, condition_numbered, conditioned, declared_silences}
use Rattle.model.specs.declarations.Hierarchy.{Hierarchy}
use Rattle.model.specs.declarations.Edges.{IsMemberOf, IsEdge}
use Rattle.cycle_search.specs.Orders.{IsBetween}
use Rattle.model.specs.declarations.Refusals.{HasGoodConditions, IsBadCondition, condition_query, IsWriting, AreReading, IsConditionWrites}
use Rattle.model.specs.declarations.ScheduleOrder.{IsSilence, HasDeclaredConditions, HasDeclaredSilences}
use Rattle.query.specs.Term.{term_of}
use Rattle.query.specs.declared.term.Term.{Term as ReadTerm}
use Rattle.query.specs.declared.query.Query.{Query}
use Rattle.query.proofs.Terms.{any_of_terms}
use Rattle.run_condition.specs.declared.cond.Cond.{Cond}
use Rattle.cycle_search.specs.declared.order.Order.{Order}
use Rattle.system_set.specs.Pairs.{pairs_of}
use Rattle.system_set.specs.Edges.{AreEdges}
use Rattle.system_set.specs.Coverage.{AreCovered}
use Rattle.system_set.proofs.EdgeLists.{member_known}
use Rattle.schedule_builder.specs.ScheduleOrder.{schedule_with}
use Rattle.schedule_builder.specs.declared.desc_parts.Parts.{Parts}
use Rattle.schedule_builder.specs.Queries.{AreGoodBelow}
use Rattle.schedule_builder.specs.Asked.{asked_of, owners_of, asked_query, AreGoodConditionsBelow, AreReadingBelow, TellsBadCondition, HasWriting, TellsWriting, scheduled_condition, AreScheduledConditions, other_in, AreSilences, AreDeclaredSilences}
use Rattle.schedule_builder.proofs.Lookups.{flat_map-one_more, from_each-next, from_each-all}
use Rattle.schedule_builder.proofs.Assembly.{items_count}
use Rattle.schedule_builder.proofs.Orderings.{pair_in}
use Rattle.schedule_builder.proofs.Faults.{good_at}
use Rattle.model.proofs.lists.Places.{has-append}

-- ---- the conditions of all items, one after the other

abbrev asked : ℕ × Condition → Condition
asked c = c.1

abbrev owner : ℕ × Condition → ℕ
owner c = c.0

pairs_asked : (n : ℕ) (conditions : List Condition) → map asked (map (λ c. (n, c)) conditions) ≡ conditions
pairs_asked n [] = refl
pairs_asked n (c ∷ conditions) = ap (λ cs. c ∷ cs) (pairs_asked n conditions)

asked_from : (n : ℕ) (items : List DeclaredItem) → flat_map (λ i. i.conditions) items ≡ map asked (from_each conditions_in n items)
asked_from n [] = refl
asked_from n (i ∷ items) =
    ap (λ cs. i.conditions ++ cs) (asked_from (suc n) items)
    ∙ (ap (λ cs. cs ++ map asked (from_each conditions_in (suc n) items)) (sym (pairs_asked n i.conditions))
    ∙ sym (map-append asked (conditions_in n i) (from_each conditions_in (suc n) items)))

pub asked_all : (d : Declared) → flat_map (λ i. i.conditions) (items_of d) ≡ asked_of d
asked_all d = asked_from 0 (items_of d)

-- a list of lists, one after the other, with one more
pub flat_next : {A B : Type 0} (f : A → List B) (xs : List A) (i : ℕ) (x : A) (old new more : List B) → i < length xs → old ≡ flat_map f (take i xs) → new ≡ old ++ more → more ≡ f (get_or xs i x) → new ≡ flat_map f (take (i + 1) xs)
flat_next f xs i x old new more low are pushed same = pushed ∙ (ap (λ ys. ys ++ more) are ∙ (ap (λ ys. flat_map f (take i xs) ++ ys) same ∙ sym (flat_map-one_more f xs i x low)))

pub asked_end : (d : Declared) (i : ℕ) (all : List Condition) → length (items_of d) ≤ i → all ≡ flat_map (λ i. i.conditions) (take i (items_of d)) → all ≡ asked_of d
asked_end d i all past are = are ∙ (ap (flat_map (λ i. i.conditions)) (take_all i (items_of d) past) ∙ asked_all d)

-- the number of an item, once for each of its conditions
abbrev pub owner_times : ℕ → DeclaredItem → List ℕ
owner_times n i = map (λ _. n) i.conditions

pairs_owner : (n : ℕ) (conditions : List Condition) → map (λ _. n) conditions ≡ map owner (map (λ c. (n, c)) conditions)
pairs_owner n [] = refl
pairs_owner n (c ∷ conditions) = ap (λ ns. n ∷ ns) (pairs_owner n conditions)

owners_from : (n : ℕ) (items : List DeclaredItem) → from_each owner_times n items ≡ map owner (from_each conditions_in n items)
owners_from n [] = refl
owners_from n (i ∷ items) =
    ap (λ ns. owner_times n i ++ ns) (owners_from (suc n) items)
    ∙ (ap (λ ns. ns ++ map owner (from_each conditions_in (suc n) items)) (pairs_owner n i.conditions)
    ∙ sym (map-append owner (conditions_in n i) (from_each conditions_in (suc n) items)))

pub owners_all : (d : Declared) → from_each owner_times 0 (items_of d) ≡ owners_of d
owners_all d = owners_from 0 (items_of d)

-- what is read of a list of pairs part by part is read of the pairs
part_at : {A : Type 0} (f : ℕ × Condition → A) (pairs : List (ℕ × Condition)) (c : ℕ) → get_or (map f pairs) c (f (0, RunOnce)) ≡ f (get_or pairs c (0, RunOnce))
part_at f pairs c = elim (cases_lt c (length pairs)) [
  | inl low ↦ get_or-map f pairs c (0, RunOnce) (f (0, RunOnce)) low
  | inr past ↦ get_or_past (map f pairs) c (f (0, RunOnce)) (omega (arith, length-map pairs f)) ∙ ap f (sym (get_or_past pairs c (0, RunOnce) past))
]

pub owners_next : (items : List DeclaredItem) (i : ℕ) (old new more : List ℕ) → i < length items → old ≡ from_each owner_times 0 (take i items) → new ≡ old ++ more → more ≡ owner_times i (get_or items i (plain_item [])) → new ≡ from_each owner_times 0 (take (i + 1) items)
owners_next items i old new more low are pushed same =
    pushed ∙ (ap (λ ns. ns ++ more) are ∙ (ap (λ ns. from_each owner_times 0 (take i items) ++ ns) same ∙ sym (from_each-next owner_times items i low)))

pub owners_end : (d : Declared) (i : ℕ) (all : List ℕ) → length (items_of d) ≤ i → all ≡ from_each owner_times 0 (take i (items_of d)) → all ≡ owners_of d
owners_end d i all past are = are ∙ (from_each-all owner_times (items_of d) i past ∙ owners_all d)

asked_at : (d : Declared) (c : ℕ) → get_or (asked_of d) c RunOnce ≡ condition_numbered d c
asked_at d c = part_at asked (declared_conditions d) c

owner_at : (d : Declared) (c : ℕ) → get_or (owners_of d) c 0 ≡ conditioned d c
owner_at d c = part_at owner (declared_conditions d) c

pub asked_count : (d : Declared) → length (asked_of d) ≡ length (declared_conditions d)
asked_count d = length-map (declared_conditions d) asked

-- ---- queries at fault

query_at : (d : Declared) (c number : ℕ) → asked_query (asked_of d) c number ≡ condition_query d c number
query_at d c number = ap (λ (x : Condition). get_or (queries_of x) number []) (asked_at d c)

fault_at : (d : Declared) (c number : ℕ) (told : Option ℕ) → query_fault (asked_query (asked_of d) c number) ≡ told → query_fault (condition_query d c number) ≡ told
fault_at d c number told e = sym (ap query_fault (query_at d c number)) ∙ e

pub bad_condition : (d : Declared) (c number fault : ℕ) → TellsBadCondition (asked_of d) (Some (c, number, fault)) → IsBadCondition d c number fault
bad_condition d c number fault t = record {
  least = fault_at d c number (Some fault) t.1;
  conditions_before = λ m k low. fault_at d m k None (t.2 m k low);
  queries_before = λ k low. fault_at d c k None (t.3 k low);
}

pub good_conditions : (d : Declared) → TellsBadCondition (asked_of d) None → HasGoodConditions d
good_conditions d good c number = fault_at d c number None (elim (cases_lt c (length (asked_of d))) [
  | inl low ↦ good c number low
  | inr past ↦ ap (λ (x : Condition). query_fault (get_or (queries_of x) number [])) (get_or_past (asked_of d) c RunOnce past)
])

-- ---- conditions that write

writing_at : (d : Declared) (c : ℕ) → HasWriting (queries_of (get_or (asked_of d) c RunOnce)) → IsWriting d c
writing_at d c h = subst (λ (x : Condition). HasWriting (queries_of x)) (asked_at d c) h

written_at : (d : Declared) (c : ℕ) → IsWriting d c → HasWriting (queries_of (get_or (asked_of d) c RunOnce))
written_at d c h = subst (λ (x : Condition). HasWriting (queries_of x)) (sym (asked_at d c)) h

pub condition_writes : (d : Declared) (c : ℕ) → TellsWriting (asked_of d) (Some c) → IsConditionWrites d c
condition_writes d c t = (writing_at d c t.1, λ m low h. t.2 m low (written_at d m h))

pub all_reading : (d : Declared) → TellsWriting (asked_of d) None → AreReading d
all_reading d t c h = elim (cases_lt c (length (asked_of d))) [
  | inl low ↦ t c low (written_at d c h)
  | inr past ↦
      let none : HasWriting (queries_of RunOnce) = subst (λ (x : Condition). HasWriting (queries_of x)) (get_or_past (asked_of d) c RunOnce past) (written_at d c h) in
      absurd (false≢true none.2)
]

-- a term that writes writes some kind
written_kind : (told : Option ℕ) → is_some told ≡ true → (kind : ℕ) × (is_number kind told ≡ true)
written_kind None e = absurd (false≢true e)
written_kind (Some kind) e = (kind, eq-eqb kind kind refl)

pub some_written : (terms : List Term) → list_any (λ t. is_some (written t)) terms ≡ true → (kind : ℕ) × (writes terms kind ≡ true)
some_written [] e = absurd (false≢true e)
some_written (t ∷ terms) e = elim (or_cases (is_some (written t)) (list_any (λ t. is_some (written t)) terms) e) [
  | inl here ↦ let found = written_kind (written t) here in (found.0, or_left (is_number found.0 (written t)) (writes terms found.0) found.1)
  | inr there ↦ let found = some_written terms there in (found.0, or_right (is_number found.0 (written t)) (writes terms found.0) found.1)
]

-- and one that writes none writes no kind
unwritten_kind : (told : Option ℕ) (kind : ℕ) → is_some told ≡ false → is_number kind told ≡ false
unwritten_kind None kind e = refl
unwritten_kind (Some k) kind e = absurd (false≢true (sym e))

pub none_written : (terms : List Term) → list_any (λ t. is_some (written t)) terms ≡ false → (kind : ℕ) → writes terms kind ≡ false
none_written [] e kind = refl
none_written (t ∷ terms) e kind =
    let both = both_false (is_some (written t)) (list_any (λ t. is_some (written t)) terms) e in
    ap (λ (b : Bool). b || writes terms kind) (unwritten_kind (written t) kind both.0) ∙ none_written terms both.1 kind

pub tells_written : (b : Bool) (terms : List Term) → b ≡ list_any (λ t. is_some (written t)) terms → MatchBool b ((kind : ℕ) × (writes terms kind ≡ true)) ((kind : ℕ) → writes terms kind ≡ false)
tells_written true terms e = some_written terms (sym e)
tells_written false terms e = none_written terms (sym e)

-- the same of terms as a query has them
pub tells_any : (b : Bool) (read : List ReadTerm) (terms : List Term) → b ≡ list_any (λ t. is_some (written (term_of t))) read → map term_of read ≡ terms → MatchBool b ((kind : ℕ) × (writes terms kind ≡ true)) ((kind : ℕ) → writes terms kind ≡ false)
tells_any b read terms e same = tells_written b terms (e ∙ (sym (any_of_terms (λ t. is_some (written t)) read) ∙ ap (list_any (λ t. is_some (written t))) same))

-- one more query that is good
pub good_next : (queries : List (Bor Query)) (i : ℕ) (x : Bor Query) → i < length queries → x ≡ get_or queries i x → AreGoodBelow (map (λ q. q.now) queries) i → query_fault x.now ≡ None → AreGoodBelow (map (λ q. q.now) queries) (i + 1)
good_next queries i x low is good here k below =
    below_more (λ n. query_fault (get_or (map (λ q. q.now) queries) n []) ≡ None) i good
    (ap query_fault (get_or-map (λ q. q.now) queries i x [] low ∙ ap (λ (q : Bor Query). q.now) (sym is)) ∙ here) k below

-- one more query that writes nothing
pub unwriting_next : (queries : List (Bor Query)) (i : ℕ) (x : Bor Query) → i < length queries → x ≡ get_or queries i x → ((k : ℕ) → k < i → (kind : ℕ) → writes (get_or (map (λ q. q.now) queries) k []) kind ≡ false) → ((kind : ℕ) → writes x.now kind ≡ false)
    → (k : ℕ) → k < i + 1 → (kind : ℕ) → writes (get_or (map (λ q. q.now) queries) k []) kind ≡ false
unwriting_next queries i x low is none here k below kind =
    below_more (λ n. writes (get_or (map (λ q. q.now) queries) n []) kind ≡ false) i (λ n l. none n l kind)
    (ap (λ (q : List Term). writes q kind) (get_or-map (λ q. q.now) queries i x [] low ∙ ap (λ (q : Bor Query). q.now) (sym is)) ∙ here kind) k below

-- the first so many conditions are good, with one more of which no query is at fault
pub good_conditions_next : (conditions : List (Bor Cond)) (i : ℕ) (x : Bor Cond) (queries : List (List Term)) → i < length conditions → x ≡ get_or conditions i x → queries ≡ queries_of x.now → AreGoodConditionsBelow (map (λ c. c.now) conditions) i → AreGoodBelow queries (length queries)
    → AreGoodConditionsBelow (map (λ c. c.now) conditions) (i + 1)
good_conditions_next conditions i x queries low is same good here m k below =
    below_more (λ n. query_fault (asked_query (map (λ c. c.now) conditions) n k) ≡ None) i (λ n l. good n k l)
    (ap (λ (c : Condition). query_fault (get_or (queries_of c) k [])) (get_or-map (λ c. c.now) conditions i x RunOnce low ∙ ap (λ (c : Bor Cond). c.now) (sym is))
    ∙ (ap (λ (qs : List (List Term)). query_fault (get_or qs k [])) (sym same) ∙ good_at queries here k)) m below

-- the first so many conditions write nothing, with one more that doesn't
pub reading_next : (conditions : List (Bor Cond)) (i : ℕ) (x : Bor Cond) (queries : List (List Term)) → i < length conditions → x ≡ get_or conditions i x → queries ≡ queries_of x.now → AreReadingBelow (map (λ c. c.now) conditions) i → (HasWriting queries → ⊥)
    → AreReadingBelow (map (λ c. c.now) conditions) (i + 1)
reading_next conditions i x queries low is same none here m below =
    below_more (λ n. HasWriting (queries_of (get_or (map (λ c. c.now) conditions) n RunOnce)) → ⊥) i none
    (λ h. here (subst HasWriting (sym same) (subst (λ (c : Condition). HasWriting (queries_of c)) (get_or-map (λ c. c.now) conditions i x RunOnce low ∙ ap (λ (c : Bor Cond). c.now) (sym is)) h))) m below

pub reading_all : (conditions : List (Bor Cond)) (i : ℕ) → length conditions ≤ i → AreReadingBelow (map (λ c. c.now) conditions) i → AreReadingBelow (map (λ c. c.now) conditions) (length (map (λ c. c.now) conditions))
reading_all conditions i past none c low = let long : length (map (λ c. c.now) conditions) ≡ length conditions = length-map conditions (λ c. c.now) in none c (omega arith)

-- ---- parts of a schedule

flat_both : (sets : List DeclaredItem) (systems : List DeclaredSystem) → flat_map (λ s. s.conditions) sets ++ flat_map (λ s. s.item.conditions) systems ≡ flat_map (λ i. i.conditions) (sets ++ map (λ s. s.item) systems)
flat_both [] systems = flat_items systems where
  flat_items : (systems : List DeclaredSystem) → flat_map (λ s. s.item.conditions) systems ≡ flat_map (λ i. i.conditions) (map (λ s. s.item) systems)
  flat_items [] = refl
  flat_items (s ∷ systems) = ap (λ cs. s.item.conditions ++ cs) (flat_items systems)
flat_both (s ∷ sets) systems = append_assoc s.conditions (flat_map (λ s. s.conditions) sets) (flat_map (λ s. s.item.conditions) systems) ∙ ap (λ cs. s.conditions ++ cs) (flat_both sets systems)

pub parts_asked : {E : Type 0} (r : Result Parts E) (d : Declared) (sets : List DeclaredItem) (systems : List DeclaredSystem) (front : List Condition) → sets ≡ d.sets → systems ≡ d.systems → front ≡ flat_map (λ s. s.conditions) sets
    → IfOk r (λ parts. parts.conditions.items ≡ front ++ flat_map (λ s. s.item.conditions) systems) → IfOk r (λ parts. parts.conditions.items ≡ flat_map (λ i. i.conditions) (items_of d))
parts_asked (Err e) d sets systems front s t f h = h
parts_asked (Ok parts) d sets systems front s t f h =
    h ∙ (ap (λ cs. cs ++ flat_map (λ s. s.item.conditions) systems) f
    ∙ (flat_both sets systems ∙ (ap (λ (xs : List DeclaredItem). flat_map (λ i. i.conditions) (xs ++ map (λ s. s.item) systems)) s ∙ ap (λ (xs : List DeclaredSystem). flat_map (λ i. i.conditions) (d.sets ++ map (λ s. s.item) xs)) t)))

-- ---- conditions of a schedule

-- a query of a list stands at some place
place_in : (queries : List (List Term)) (query : List Term) → IsIn query queries → (k : ℕ) × (get_or queries k [] ≡ query)
place_in [] query h = absurd h
place_in (q ∷ queries) query (inl e) = (0, sym e)
place_in (q ∷ queries) query (inr h) = let found = place_in queries query h in (suc found.0, found.1)

abbrev nothing_asked : ScheduledCondition
nothing_asked = scheduled_condition RunOnce []

pub scheduled_more : (conditions : List Condition) (coverage : List (List ℕ)) (built : List ScheduledCondition) (x : Condition) (new : ScheduledCondition) → AreScheduledConditions conditions coverage built → new ≡ scheduled_condition x (get_or coverage (length built) []) → AreScheduledConditions (conditions ++ x ∷ []) coverage (built ++ new ∷ [])
scheduled_more conditions coverage built x new are same = record {
  long = length_push built new ∙ (ap (λ (k : ℕ). k + 1) are.long ∙ sym (length_push conditions x));
  each = λ c low. elim (cases_lt c (length conditions)) [
    | inl below ↦ get_or_append_left built (new ∷ []) nothing_asked c (omega (arith, are.long)) ∙ (are.each c below ∙ ap (λ (y : Condition). scheduled_condition y (get_or coverage c [])) (sym (get_or_append_left conditions (x ∷ []) RunOnce c below)))
    | inr past ↦
        let at : length conditions ≡ c = omega (arith, length_push conditions x) in
        let here : length built ≡ c = are.long ∙ at in
        get_or_push built new nothing_asked c here ∙ (same ∙ (ap (λ (k : ℕ). scheduled_condition x (get_or coverage k [])) here ∙ ap (λ (y : Condition). scheduled_condition y (get_or coverage c [])) (sym (get_or_push conditions x RunOnce c at))))
  ];
}

-- what was read of a list of lists is what it has there
pub read_coverage : (coverage : List (List ℕ)) (k : ℕ) (x : List ℕ) → k < length coverage → x ≡ get_or coverage k x → x ≡ get_or coverage k []
read_coverage coverage k x low is = is ∙ sym (get_or_default coverage k [] x low)

-- there is coverage for one more
pub more_coverage : (conditions all : List Condition) (x : Condition) (rest : List Condition) (built : List ScheduledCondition) (coverage : List (List ℕ)) → conditions ++ x ∷ rest ≡ all → AreScheduledConditions conditions coverage built → length coverage ≡ length all → length built < length coverage
more_coverage conditions all x rest built coverage whole are long = omega (arith, are.long, long, sym (length-append conditions (x ∷ rest)) ∙ ap length whole)

pub declared_conditions_of : (d : Declared) (coverage : List (List ℕ)) (conditions : List ScheduledCondition) (systems : List ScheduledSystem) (syncs : ℕ) (order : List ℕ) (silences : List (List ℕ)) →
    AreCovered (hierarchy_of d) (owners_of d) coverage → AreScheduledConditions (asked_of d) coverage conditions → HasDeclaredConditions d (schedule_with systems conditions syncs order silences)
declared_conditions_of d coverage conditions systems syncs order silences covered are = record {
  count = are.long ∙ asked_count d;
  asks = λ c. elim (cases_lt c (length (asked_of d))) [
    | inl low ↦ ap (λ (x : ScheduledCondition). x.condition) (are.each c low) ∙ asked_at d c
    | inr past ↦ ap (λ (x : ScheduledCondition). x.condition) (get_or_past conditions c nothing_asked (omega (arith, are.long))) ∙ (sym (get_or_past (asked_of d) c RunOnce past) ∙ asked_at d c)
  ];
  covered = λ c n l.
      let low : c < length (asked_of d) = omega (arith, are.long, l) in
      let known : c < length (owners_of d) = omega (arith, length-map (declared_conditions d) owner, asked_count d, low) in
      let names = (covered.each c known).each n in
      subst (λ (i : ℕ). (has n (get_or conditions c nothing_asked).covers ≡ true) ↔ IsMemberOf (hierarchy_of d) i (length d.sets + n)) (owner_at d c)
      (subst (λ (x : ScheduledCondition). (has n x.covers ≡ true) ↔ IsMemberOf (hierarchy_of d) (get_or (owners_of d) c 0) (length d.sets + n)) (sym (are.each c low)) names);
}

pub owners_count : (d : Declared) → length (owners_of d) ≡ length (asked_of d)
owners_count d = length-map (declared_conditions d) owner ∙ sym (asked_count d)

-- the same of the conditions and the coverage that were found
pub conditions_declared : (d : Declared) (coverage slice : List (List ℕ)) (moved : List Condition) (conditions : List ScheduledCondition) (systems : List ScheduledSystem) (syncs : ℕ) (order : List ℕ) (silences : List (List ℕ)) →
    AreCovered (hierarchy_of d) (owners_of d) coverage → slice ≡ coverage → moved ≡ flat_map (λ i. i.conditions) (items_of d) → AreScheduledConditions moved slice conditions → HasDeclaredConditions d (schedule_with systems conditions syncs order silences)
conditions_declared d coverage slice moved conditions systems syncs order silences covered read all are =
    declared_conditions_of d coverage conditions systems syncs order silences covered
    (subst (λ (xs : List (List ℕ)). AreScheduledConditions (asked_of d) xs conditions) read (subst (λ (cs : List Condition). AreScheduledConditions cs slice conditions) (all ∙ asked_all d) are))

-- what a condition covers is a system
pub covered_known : (d : Declared) (s : Schedule) → HasDeclaredConditions d s → (c n : ℕ) → covers s c n ≡ true → n < length d.systems
covered_known d s h c n e = elim (cases_lt c (length s.conditions)) [
  | inl low ↦
      let known : length d.sets + n < length (items_of d) = member_known (hierarchy_of d) (conditioned d c) (length d.sets + n) ((h.covered c n low).0 e) in
      omega (arith, items_count d, known)
  | inr past ↦ absurd (false≢true (sym (ap (λ (x : ScheduledCondition). has n x.covers) (get_or_past s.conditions c nothing_asked past)) ∙ e))
]

-- what a condition asks about is read
pub asks_reading : (d : Declared) (s : Schedule) → HasDeclaredConditions d s → AreReading d → (c : ℕ) (query : List Term) → IsIn query (access_of s c).queries → (kind : ℕ) → writes query kind ≡ false
asks_reading d s h reading c query i kind =
    let there : IsIn query (queries_of (condition_numbered d c)) = subst (λ (x : Condition). IsIn query (queries_of x)) (h.asks c) i in
    let place = place_in (queries_of (condition_numbered d c)) query there in
    not_true (writes query kind) (λ e. reading c (place.0, kind, ap (λ (q : List Term). writes q kind) place.1 ∙ e))
  where
    not_true : (b : Bool) → (b ≡ true → ⊥) → b ≡ false
    not_true true f = absurd (f refl)
    not_true false f = refl

-- ---- systems that may be ambiguous

one_end : (b : Bool) (x n : ℕ) → has n (cond b (x ∷ []) []) ≡ true → (b ≡ true) × (x ≡ n)
one_end false x n e = absurd (false≢true e)
one_end true x n e = elim (or_cases (eqb x n) false e) [
  | inl same ↦ (refl, eqb-true x n same)
  | inr none ↦ absurd (false≢true none)
]

at_end : (b : Bool) (x n : ℕ) → b ≡ true → x ≡ n → has n (cond b (x ∷ []) []) ≡ true
at_end false x n e same = absurd (false≢true e)
at_end true x n e same = or_left (eqb x n) false (eq-eqb x n same)

abbrev second_end : Order → ℕ → List ℕ
second_end p m = cond (eqb p.first m) (p.second ∷ []) []

abbrev first_end : Order → ℕ → List ℕ
first_end p m = cond (eqb p.second m) (p.first ∷ []) []

abbrev both_of : ℕ → ℕ → ℕ × ℕ
both_of a b = (a, b)

pair_same : (a b c d : ℕ) → a ≡ c → b ≡ d → both_of c d ≡ both_of a b
pair_same a b c d e f = ap (λ (x : ℕ). both_of x d) (sym e) ∙ ap (λ (y : ℕ). both_of a y) (sym f)

-- what pairs have beside a number
pub others_told : (pairs : List Order) (m n : ℕ) → (has n (flat_map (λ (p : Order). other_in p m) pairs) ≡ true) ↔ (IsIn (m, n) (pairs_of pairs) ⊎ IsIn (n, m) (pairs_of pairs))
others_told [] m n = ((λ e. absurd (false≢true e)), (λ h. elim h [ inl i ↦ absurd i | inr i ↦ absurd i ]))
others_told (p ∷ pairs) m n =
    let rest = flat_map (λ (p : Order). other_in p m) pairs in
    let later = others_told pairs m n in (
      (λ e. elim (or_cases (has n (other_in p m)) (has n rest) (sym (has-append n (other_in p m) rest) ∙ e)) [
        | inl here ↦ elim (or_cases (has n (second_end p m)) (has n (first_end p m)) (sym (has-append n (second_end p m) (first_end p m)) ∙ here)) [
          | inl second ↦ let both = one_end (eqb p.first m) p.second n second in inl (inl (pair_same p.first p.second m n (eqb-true p.first m both.0) both.1))
          | inr first ↦ let both = one_end (eqb p.second m) p.first n first in inr (inl (pair_same p.first p.second n m both.1 (eqb-true p.second m both.0)))
        ]
        | inr there ↦ elim (later.0 there) [ inl i ↦ inl (inr i) | inr i ↦ inr (inr i) ]
      ]),
      (λ h. has-append n (other_in p m) rest ∙ elim h [
        | inl (inl e) ↦ or_left (has n (other_in p m)) (has n rest) (has-append n (second_end p m) (first_end p m)
            ∙ or_left (has n (second_end p m)) (has n (first_end p m)) (at_end (eqb p.first m) p.second n (eq-eqb p.first m (sym (ap (λ (x : ℕ × ℕ). x.0) e))) (sym (ap (λ (x : ℕ × ℕ). x.1) e))))
        | inl (inr i) ↦ or_right (has n (other_in p m)) (has n rest) (later.1 (inl i))
        | inr (inl e) ↦ or_left (has n (other_in p m)) (has n rest) (has-append n (second_end p m) (first_end p m)
            ∙ or_right (has n (second_end p m)) (has n (first_end p m)) (at_end (eqb p.second m) p.first n (eq-eqb p.second m (sym (ap (λ (x : ℕ × ℕ). x.1) e))) (sym (ap (λ (x : ℕ × ℕ). x.0) e))))
        | inr (inr i) ↦ or_right (has n (other_in p m)) (has n rest) (later.1 (inr i))
      ]),
    )

pub others_of : (pairs : List Order) (i m : ℕ) (numbers : List ℕ) → length pairs ≤ i → numbers ≡ flat_map (λ (p : Order). other_in p m) (take i pairs) → (n : ℕ) → (has n numbers ≡ true) ↔ (IsIn (m, n) (pairs_of pairs) ⊎ IsIn (n, m) (pairs_of pairs))
others_of pairs i m numbers past are n =
    let same : numbers ≡ flat_map (λ (p : Order). other_in p m) pairs = are ∙ ap (flat_map (λ (p : Order). other_in p m)) (take_all i pairs past) in
    subst (λ (xs : List ℕ). (has n xs ≡ true) ↔ (IsIn (m, n) (pairs_of pairs) ⊎ IsIn (n, m) (pairs_of pairs))) (sym same) (others_told pairs m n)

-- edges are of systems
pub small_edges : (h : Hierarchy) (orders : List (ℕ × ℕ)) (edges : List Order) → h.items < 2 ^ 32 → AreEdges h orders edges → All (IsBetween (2 ^ 32)) edges
small_edges h orders edges few are = λ k o low.
    let here : Order = get_or edges k o in
    let edge : IsEdge h orders (h.sets + here.first) (h.sets + here.second) = (are.tells here.first here.second).0 (pair_in edges k o low) in
    let first : h.sets + here.first < h.items = member_known h edge.first (h.sets + here.first) edge.from in
    let second : h.sets + here.second < h.items = member_known h edge.second (h.sets + here.second) edge.to in
    record { first = omega (arith, first, few); second = omega (arith, second, few) }

silence_of_pair : (d : Declared) (pairs : List Order) → AreEdges (hierarchy_of d) (declared_silences d) pairs → (m n : ℕ) → (IsIn (m, n) (pairs_of pairs) ⊎ IsIn (n, m) (pairs_of pairs)) ↔ (IsSilence d m n ⊎ IsSilence d n m)
silence_of_pair d pairs are m n = (
  (λ h. elim h [ inl there ↦ inl ((are.tells m n).0 there) | inr back ↦ inr ((are.tells n m).0 back) ]),
  (λ h. elim h [ inl there ↦ inl ((are.tells m n).1 there) | inr back ↦ inr ((are.tells n m).1 back) ]),
)

pub declared_silences_of : (d : Declared) (pairs : List Order) (lists : List (List ℕ)) → AreEdges (hierarchy_of d) (declared_silences d) pairs → AreSilences (length d.systems) pairs lists → AreDeclaredSilences d lists
declared_silences_of d pairs lists are silences = (
  silences.long,
  λ m n low.
      let each = silences.each m n (omega (arith, silences.long, low)) in
      let same = silence_of_pair d pairs are m n in
      ((λ e. same.0 (each.0 e)), (λ h. each.1 (same.1 h))),
)

pub has_silences : (d : Declared) (systems : List ScheduledSystem) (conditions : List ScheduledCondition) (syncs : ℕ) (order : List ℕ) (lists : List (List ℕ)) → length systems ≡ length d.systems → AreDeclaredSilences d lists → HasDeclaredSilences d (schedule_with systems conditions syncs order lists)
has_silences d systems conditions syncs order lists long are = record { tells = λ m n low. are.1 m n (omega (arith, are.0, long, low)) }
