-- How contracts tell schedules apart: each is stored as a tree of numbers that gives it back.
use Rattle.std.specs.Prelude.{ℕ, zero, suc, ℤ, pos, negsuc, ◌≡◌, refl, List, [], ◌∷◌, Option}
use Rattle.std.proofs.Common.{◌∙◌, ap}
use Rattle.std.specs.Coded.{Coded, code_by, coded×, coded_ℕ, coded_list, coded_option}
use base.Stored.{Gv, gnil, gnum, gcons}
use denote.Struct.Codes.{itself}
use Rattle.model.specs.access.Query.{Alternative, Term}
use Rattle.model.specs.access.Query.Alternative.{Has, Lacks}
use Rattle.model.specs.access.Query.Term.{Entity, Read, Mut, Opt, With, Without, Added, Changed, AnyOf}
use Rattle.model.specs.access.Access.{Params}
use Rattle.model.specs.access.Condition.{Condition}
use Rattle.model.specs.access.Condition.Condition.{RunOnce, ResourceEquals, ResourceAtLeast, ResourceChanged, AnyWith, OnEvent, Not, And, Or}
use Rattle.model.specs.steps.Schedule.{ScheduledSystem, ScheduledCondition, Schedule}

-- ---- trees

-- the number of a leaf
abbrev number_of : Gv → ℕ
number_of (gnum n) = n
number_of _ = 0

-- the two parts of a node
abbrev first_of_two : Gv → Gv
first_of_two (gcons a b) = a
first_of_two _ = gnil

abbrev second_of_two : Gv → Gv
second_of_two (gcons a b) = b
second_of_two _ = gnil

-- ---- whole numbers

abbrev tree_of_integer : ℤ → Gv
tree_of_integer (pos n) = gcons (gnum 0) (gnum n)
tree_of_integer (negsuc n) = gcons (gnum 1) (gnum n)

abbrev signed : ℕ → ℕ → ℤ
signed zero n = pos n
signed (suc sign) n = negsuc n

abbrev integer_of : Gv → ℤ
integer_of tree = signed (number_of (first_of_two tree)) (number_of (second_of_two tree))

integer_back : (z : ℤ) → integer_of (tree_of_integer z) ≡ z
integer_back (pos n) = refl
integer_back (negsuc n) = refl

-- ---- terms

abbrev tree_of_alternatives : List Alternative → Gv
tree_of_alternatives [] = gnil
tree_of_alternatives (Has k ∷ more) = gcons (gcons (gnum 0) (gnum k)) (tree_of_alternatives more)
tree_of_alternatives (Lacks k ∷ more) = gcons (gcons (gnum 1) (gnum k)) (tree_of_alternatives more)

abbrev numbered_alternative : ℕ → ℕ → Alternative
numbered_alternative zero k = Has k
numbered_alternative (suc n) k = Lacks k

abbrev alternatives_of : Gv → List Alternative
alternatives_of (gcons one more) = numbered_alternative (number_of (first_of_two one)) (number_of (second_of_two one)) ∷ alternatives_of more
alternatives_of _ = []

alternatives_back : (alternatives : List Alternative) → alternatives_of (tree_of_alternatives alternatives) ≡ alternatives
alternatives_back [] = refl
alternatives_back (Has k ∷ more) = ap (λ rest. Has k ∷ rest) (alternatives_back more)
alternatives_back (Lacks k ∷ more) = ap (λ rest. Lacks k ∷ rest) (alternatives_back more)

abbrev tree_of_term : Term → Gv
tree_of_term Entity = gcons (gnum 0) gnil
tree_of_term (Read k) = gcons (gnum 1) (gnum k)
tree_of_term (Mut k) = gcons (gnum 2) (gnum k)
tree_of_term (Opt k) = gcons (gnum 3) (gnum k)
tree_of_term (With k) = gcons (gnum 4) (gnum k)
tree_of_term (Without k) = gcons (gnum 5) (gnum k)
tree_of_term (Added k) = gcons (gnum 6) (gnum k)
tree_of_term (Changed k) = gcons (gnum 7) (gnum k)
tree_of_term (AnyOf alternatives) = gcons (gnum 8) (tree_of_alternatives alternatives)

abbrev numbered_term : ℕ → ℕ → Gv → Term
numbered_term zero k tree = Entity
numbered_term (suc zero) k tree = Read k
numbered_term (suc (suc zero)) k tree = Mut k
numbered_term (suc (suc (suc zero))) k tree = Opt k
numbered_term (suc (suc (suc (suc zero)))) k tree = With k
numbered_term (suc (suc (suc (suc (suc zero))))) k tree = Without k
numbered_term (suc (suc (suc (suc (suc (suc zero)))))) k tree = Added k
numbered_term (suc (suc (suc (suc (suc (suc (suc zero))))))) k tree = Changed k
numbered_term (suc (suc (suc (suc (suc (suc (suc (suc n)))))))) k tree = AnyOf (alternatives_of tree)

abbrev term_of_tree : Gv → Term
term_of_tree tree = numbered_term (number_of (first_of_two tree)) (number_of (second_of_two tree)) (second_of_two tree)

pub term_back : (t : Term) → term_of_tree (tree_of_term t) ≡ t
term_back Entity = refl
term_back (Read k) = refl
term_back (Mut k) = refl
term_back (Opt k) = refl
term_back (With k) = refl
term_back (Without k) = refl
term_back (Added k) = refl
term_back (Changed k) = refl
term_back (AnyOf alternatives) = ap AnyOf (alternatives_back alternatives)

abbrev pub term_code : Coded Term
term_code = code_by Gv itself tree_of_term term_of_tree term_back

-- ---- queries

abbrev tree_of_query : List Term → Gv
tree_of_query [] = gnil
tree_of_query (t ∷ query) = gcons (tree_of_term t) (tree_of_query query)

abbrev query_of : Gv → List Term
query_of (gcons t query) = term_of_tree t ∷ query_of query
query_of _ = []

query_back : (query : List Term) → query_of (tree_of_query query) ≡ query
query_back [] = refl
query_back (t ∷ query) = ap (λ u. u ∷ query_of (tree_of_query query)) (term_back t) ∙ ap (λ q. t ∷ q) (query_back query)

-- ---- conditions

abbrev tree_of_condition : Condition → Gv
tree_of_condition RunOnce = gcons (gnum 0) gnil
tree_of_condition (ResourceEquals n v) = gcons (gnum 1) (gcons (gnum n) (tree_of_integer v))
tree_of_condition (ResourceAtLeast n v) = gcons (gnum 2) (gcons (gnum n) (tree_of_integer v))
tree_of_condition (ResourceChanged n) = gcons (gnum 3) (gnum n)
tree_of_condition (AnyWith q) = gcons (gnum 4) (tree_of_query q)
tree_of_condition (OnEvent k) = gcons (gnum 5) (gnum k)
tree_of_condition (Not c) = gcons (gnum 6) (tree_of_condition c)
tree_of_condition (And c d) = gcons (gcons (tree_of_condition c) (tree_of_condition d)) gnil
tree_of_condition (Or c d) = gcons (gcons (tree_of_condition c) (tree_of_condition d)) (gnum 0)

-- the conditions with one part, or none
abbrev numbered_condition : ℕ → Gv → Condition → Condition
numbered_condition zero tree c = RunOnce
numbered_condition (suc zero) tree c = ResourceEquals (number_of (first_of_two tree)) (integer_of (second_of_two tree))
numbered_condition (suc (suc zero)) tree c = ResourceAtLeast (number_of (first_of_two tree)) (integer_of (second_of_two tree))
numbered_condition (suc (suc (suc zero))) tree c = ResourceChanged (number_of tree)
numbered_condition (suc (suc (suc (suc zero)))) tree c = AnyWith (query_of tree)
numbered_condition (suc (suc (suc (suc (suc zero))))) tree c = OnEvent (number_of tree)
numbered_condition (suc (suc (suc (suc (suc (suc n)))))) tree c = Not c

abbrev condition_of_tree : Gv → Condition
condition_of_tree (gcons (gnum n) tree) = numbered_condition n tree (condition_of_tree tree)
condition_of_tree (gcons (gcons c d) gnil) = And (condition_of_tree c) (condition_of_tree d)
condition_of_tree (gcons (gcons c d) (gnum n)) = Or (condition_of_tree c) (condition_of_tree d)
condition_of_tree _ = RunOnce

pub condition_back : (c : Condition) → condition_of_tree (tree_of_condition c) ≡ c
condition_back RunOnce = refl
condition_back (ResourceEquals n v) = ap (λ z. ResourceEquals n z) (integer_back v)
condition_back (ResourceAtLeast n v) = ap (λ z. ResourceAtLeast n z) (integer_back v)
condition_back (ResourceChanged n) = refl
condition_back (AnyWith q) = ap (λ r. AnyWith r) (query_back q)
condition_back (OnEvent k) = refl
condition_back (Not c) = ap (λ d. Not d) (condition_back c)
condition_back (And c d) = ap (λ e. And e (condition_of_tree (tree_of_condition d))) (condition_back c) ∙ ap (λ e. And c e) (condition_back d)
condition_back (Or c d) = ap (λ e. Or e (condition_of_tree (tree_of_condition d))) (condition_back c) ∙ ap (λ e. Or c e) (condition_back d)

abbrev pub condition_code : Coded Condition
condition_code = code_by Gv itself tree_of_condition condition_of_tree condition_back

-- ---- parameters and schedules

abbrev pub params_code : Coded Params
params_code = code_by (List (List Term) × (List ℕ × (List ℕ × (List ℕ × (List ℕ × Option ℕ)))))
    (coded× (coded_list (coded_list term_code)) (coded× (coded_list coded_ℕ) (coded× (coded_list coded_ℕ) (coded× (coded_list coded_ℕ) (coded× (coded_list coded_ℕ) (coded_option coded_ℕ))))))
    (λ a. (a.queries, (a.res, (a.res_mut, (a.reads, (a.writes, a.spawns))))))
    (λ p. record { queries = p.0; res = p.1.0; res_mut = p.1.1.0; reads = p.1.1.1.0; writes = p.1.1.1.1.0; spawns = p.1.1.1.1.1 })
    (λ _. refl)

abbrev pub system_code : Coded ScheduledSystem
system_code = code_by (Params × (List ℕ × ℕ)) (coded× params_code (coded× (coded_list coded_ℕ) coded_ℕ))
    (λ s. (s.params, (s.predecessors, s.level))) (λ p. record { params = p.0; predecessors = p.1.0; level = p.1.1 }) (λ _. refl)

abbrev pub scheduled_condition_code : Coded ScheduledCondition
scheduled_condition_code = code_by (Condition × List ℕ) (coded× condition_code (coded_list coded_ℕ))
    (λ c. (c.condition, c.covers)) (λ p. record { condition = p.0; covers = p.1 }) (λ _. refl)

abbrev pub schedule_code : Coded Schedule
schedule_code = code_by (List ScheduledSystem × (List ScheduledCondition × (ℕ × (List ℕ × (List (List ℕ) × Option (List (List ℕ)))))))
    (coded× (coded_list system_code) (coded× (coded_list scheduled_condition_code) (coded× coded_ℕ (coded× (coded_list coded_ℕ) (coded× (coded_list (coded_list coded_ℕ)) (coded_option (coded_list (coded_list coded_ℕ))))))))
    (λ s. (s.systems, (s.conditions, (s.syncs, (s.order, (s.silences, s.sets))))))
    (λ p. record { systems = p.0; conditions = p.1.0; syncs = p.1.1.0; order = p.1.1.1.0; silences = p.1.1.1.1.0; sets = p.1.1.1.1.1 }) (λ _. refl)
