-- What the parameters of a system are seen as: with one more query, and those of two systems.
use Rattle.std.proofs.Common.{◌≡◌, ℕ, List, [], ◌∷◌, ◌++◌, map, Option, Result, Ok, Err, ap, ap₂, ◌∙◌}
use Rattle.std.proofs.lemmas.List.{map-append}
use Rattle.std.specs.Result.{OnErr}
use Rattle.model.specs.access.Query.{Term}
use Rattle.model.specs.access.Access.{Params}
use Rattle.kinds.specs.declared.res.Res.{Res}
use Rattle.kinds.specs.declared.res.Event.{Event}
use Rattle.kinds.specs.Res.{res_number, event_number}
use Rattle.access_set.specs.Union.{union}

-- what holds does so beside an error
pub on_error : {T E : Type 0} (P : Type 0) (r : Result T E) → P → OnErr r P
on_error P (Ok x) h = tt
on_error P (Err e) h = h

-- what is seen of the parts of parameters
abbrev pub seen : List (List Term) → List Res → List Res → List Event → List Event → Option ℕ → Params
seen queries res res_mut reads writes spawns =
    record { queries = queries; res = map res_number res; res_mut = map res_number res_mut; reads = map event_number reads; writes = map event_number writes; spawns = spawns }

-- other queries that are the same list
pub queries_kept : (queries kept : List (List Term)) (res res_mut : List Res) (reads writes : List Event) (spawns : Option ℕ) (a : Params) →
    seen queries res res_mut reads writes spawns ≡ a → kept ≡ queries → seen kept res res_mut reads writes spawns ≡ a
queries_kept queries kept res res_mut reads writes spawns a is same = ap (λ (qs : List (List Term)). seen qs res res_mut reads writes spawns) same ∙ is

-- one query more
pub query_added : (queries more : List (List Term)) (q : List Term) (res res_mut : List Res) (reads writes : List Event) (spawns : Option ℕ) (a : Params) →
    seen queries res res_mut reads writes spawns ≡ a → more ≡ queries ++ q ∷ [] → seen more res res_mut reads writes spawns ≡ record a { queries = a.queries ++ q ∷ [] }
query_added queries more q res res_mut reads writes spawns a is same =
    ap (λ (qs : List (List Term)). seen qs res res_mut reads writes spawns) same ∙ ap (λ (p : Params). record p { queries = p.queries ++ q ∷ [] }) is

-- parameters of these queries, numbers and ids
abbrev parts_of : Option ℕ → List (List Term) → List ℕ → List ℕ → List ℕ → List ℕ → Params
parts_of spawns queries res res_mut reads writes = record { queries = queries; res = res; res_mut = res_mut; reads = reads; writes = writes; spawns = spawns }

-- numbers of a list that two lists make
numbers_joined : {A : Type 0} (f : A → ℕ) (all xs ys : List A) → all ≡ xs ++ ys → map f all ≡ map f xs ++ map f ys
numbers_joined f all xs ys e = ap (map f) e ∙ map-append f xs ys

-- the parts of two systems together
pub union_seen : (a b : Params) (queries more_queries all_queries : List (List Term)) (res more_res all_res res_mut more_mut all_mut : List Res)
    (reads more_reads all_reads writes more_writes all_writes : List Event) (spawns more_spawns : Option ℕ) →
    seen queries res res_mut reads writes spawns ≡ a → seen more_queries more_res more_mut more_reads more_writes more_spawns ≡ b →
    all_queries ≡ queries ++ more_queries → all_res ≡ res ++ more_res → all_mut ≡ res_mut ++ more_mut → all_reads ≡ reads ++ more_reads → all_writes ≡ writes ++ more_writes →
    seen all_queries all_res all_mut all_reads all_writes spawns ≡ union a b
union_seen a b queries more_queries all_queries res more_res all_res res_mut more_mut all_mut reads more_reads all_reads writes more_writes all_writes spawns more_spawns first second q r m d w =
    ap (λ (qs : List (List Term)). parts_of spawns qs (map res_number all_res) (map res_number all_mut) (map event_number all_reads) (map event_number all_writes)) q
    ∙ (ap (λ (ns : List ℕ). parts_of spawns (queries ++ more_queries) ns (map res_number all_mut) (map event_number all_reads) (map event_number all_writes)) (numbers_joined res_number all_res res more_res r)
    ∙ (ap (λ (ns : List ℕ). parts_of spawns (queries ++ more_queries) (map res_number res ++ map res_number more_res) ns (map event_number all_reads) (map event_number all_writes))
    (numbers_joined res_number all_mut res_mut more_mut m)
    ∙ (ap₂ (λ (ns ms : List ℕ). parts_of spawns (queries ++ more_queries) (map res_number res ++ map res_number more_res) (map res_number res_mut ++ map res_number more_mut) ns ms)
    (numbers_joined event_number all_reads reads more_reads d) (numbers_joined event_number all_writes writes more_writes w)
    ∙ ap₂ union first second)))
