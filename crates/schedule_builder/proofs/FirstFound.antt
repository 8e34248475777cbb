-- The first query at fault and the first that writes, where a search ends.
use Rattle.std.proofs.Common.{◌≡◌, ℕ, ◌<◌, ◌≤◌, inl, inr, true, false, List, [], Some, None, length, map, get_or, Bor, sym, ap, subst, ◌∙◌, arith}
use Rattle.std.proofs.lemmas.Bool.{false≢true, cases_lt}
use Rattle.std.proofs.lemmas.List.{length-map, get_or-map, get_or_past}
use Rattle.model.specs.access.Query.{Term, writes}
use Rattle.model.specs.access.QueryFaults.{query_fault}
use Rattle.model.specs.access.Condition.{queries_of}
use Rattle.model.specs.access.Condition.Condition.{RunOnce}
use Rattle.query.specs.declared.query.Query.{Query}
use Rattle.run_condition.specs.declared.cond.Cond.{Cond}
use Rattle.schedule_builder.specs.Queries.{AreGoodBelow, TellsFault}
use Rattle.schedule_builder.specs.Asked.{AreGoodConditionsBelow, AreReadingBelow, TellsBadCondition, HasWriting, TellsWriting}

-- what was read of a condition is what stands at its number
read_at : (conditions : List (Bor Cond)) (i : ℕ) (x : Bor Cond) → i < length conditions → x ≡ get_or conditions i x → x.now ≡ get_or (map (λ c. c.now) conditions) i RunOnce
read_at conditions i x low is = sym (get_or-map (λ c. c.now) conditions i x RunOnce low ∙ ap (λ (c : Bor Cond). c.now) (sym is))

known : (conditions : List (Bor Cond)) (i : ℕ) → i < length conditions → i < length (map (λ c. c.now) conditions)
known conditions i low = subst (λ (n : ℕ). i < n) (sym (length-map conditions (λ c. c.now))) low

-- a query that writes is among them
pub some_writes : (queries : List (Bor Query)) (i : ℕ) (x : Bor Query) → i < length queries → x ≡ get_or queries i x → (kind : ℕ) × (writes x.now kind ≡ true) → HasWriting (map (λ q. q.now) queries)
some_writes queries i x low is (kind, here) = (i, kind, ap (λ (q : List Term). writes q kind) (get_or-map (λ q. q.now) queries i x [] low ∙ ap (λ (q : Bor Query). q.now) (sym is)) ∙ here)

-- and none where none was found
pub none_writes : (queries : List (Bor Query)) (i : ℕ) → length queries ≤ i → ((k : ℕ) → k < i → (kind : ℕ) → writes (get_or (map (λ q. q.now) queries) k []) kind ≡ false) → HasWriting (map (λ q. q.now) queries) → ⊥
none_writes queries i past none (number, kind, here) = elim (cases_lt number i) [
  | inl low ↦ false≢true (sym (none number low kind) ∙ here)
  | inr above ↦
      let long : length (map (λ q. q.now) queries) ≡ length queries = length-map queries (λ q. q.now) in
      false≢true (sym (ap (λ (q : List Term). writes q kind) (get_or_past (map (λ q. q.now) queries) number [] (omega arith))) ∙ here)
]

-- the first condition that writes
pub found_writing : (conditions : List (Bor Cond)) (i : ℕ) (x : Bor Cond) (queries : List (List Term)) → i < length conditions → x ≡ get_or conditions i x → queries ≡ queries_of x.now → AreReadingBelow (map (λ c. c.now) conditions) i → HasWriting queries
    → TellsWriting (map (λ c. c.now) conditions) (Some i)
found_writing conditions i x queries low is same none here =
    (known conditions i low, subst (λ (qs : List (List Term)). HasWriting qs) (same ∙ ap queries_of (read_at conditions i x low is)) here, none)

-- the first condition with a query at fault
pub found_bad : (conditions : List (Bor Cond)) (i : ℕ) (x : Bor Cond) (queries : List (List Term)) (number fault : ℕ) → i < length conditions → x ≡ get_or conditions i x → queries ≡ queries_of x.now → AreGoodConditionsBelow (map (λ c. c.now) conditions) i
    → TellsFault queries (Some (number, fault)) → TellsBadCondition (map (λ c. c.now) conditions) (Some (i, number, fault))
found_bad conditions i x queries number fault low is same good here =
    let told = subst (λ (qs : List (List Term)). TellsFault qs (Some (number, fault))) (same ∙ ap queries_of (read_at conditions i x low is)) here in
    (known conditions i low, told.0, good, told.1)

pub all_good : (conditions : List (Bor Cond)) (i : ℕ) → length conditions ≤ i → AreGoodConditionsBelow (map (λ c. c.now) conditions) i → AreGoodConditionsBelow (map (λ c. c.now) conditions) (length (map (λ c. c.now) conditions))
all_good conditions i past good m k low = let long : length (map (λ c. c.now) conditions) ≡ length conditions = length-map conditions (λ c. c.now) in good m k (omega arith)

-- the first query at fault
pub found_fault : (queries : List (Bor Query)) (i : ℕ) (x : Bor Query) (fault : ℕ) → i < length queries → x ≡ get_or queries i x → AreGoodBelow (map (λ q. q.now) queries) i → query_fault x.now ≡ Some fault → TellsFault (map (λ q. q.now) queries) (Some (i, fault))
found_fault queries i x fault low is good here = (ap query_fault (get_or-map (λ q. q.now) queries i x [] low ∙ ap (λ (q : Bor Query). q.now) (sym is)) ∙ here, good)

pub no_fault : (queries : List (Bor Query)) (i : ℕ) → length queries ≤ i → AreGoodBelow (map (λ q. q.now) queries) i → TellsFault (map (λ q. q.now) queries) None
no_fault queries i past good k low = let long : length (map (λ q. q.now) queries) ≡ length queries = length-map queries (λ q. q.now) in good k (omega arith)
