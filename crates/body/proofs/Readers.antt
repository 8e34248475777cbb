-- What the parts of a condition answer, put together.
use Rattle.std.proofs.Common.{ℕ, suc, ◌+◌, ◌<◌, ◌≡◌, Bool, not, ◌||◌, ◌&&◌, List, [], ◌∷◌, ◌++◌, map, refl, sym, ap, ◌∙◌, subst, arith}
use Rattle.std.specs.List.{AllByRecursion}
use Rattle.model.specs.Lists.{is_there}
use Rattle.model.specs.access.Query.{Term}
use Rattle.model.specs.access.Condition.{Condition, holds, cursors_after, queries_of}
use Rattle.model.specs.access.Condition.Condition.{AnyWith, Not, And, Or}
use Rattle.model.specs.shown.Input.{rows_of}
use Rattle.model.specs.state.State.{World, EventQueue}
use Rattle.run_condition.specs.Tree.{condition_of}
use Rattle.run_condition.specs.declared.cond.Tree.{Tree}
use Rattle.body.specs.Evaluated.{IsMeant}

-- what holds of all of two lists holds of all of each
pub all_first : {A : Type 0} (P : A → Type 0) (xs ys : List A) → AllByRecursion P (xs ++ ys) → AllByRecursion P xs
all_first P [] ys all = tt
all_first P (x ∷ xs) ys all = (all.0, all_first P xs ys all.1)

pub all_second : {A : Type 0} (P : A → Type 0) (xs ys : List A) → AllByRecursion P (xs ++ ys) → AllByRecursion P ys
all_second P [] ys all = all
all_second P (x ∷ xs) ys all = all_second P xs ys all.1

-- how many parts a condition has, itself among them
abbrev pub parts : Condition → ℕ
parts (Not c) = suc (parts c)
parts (And c d) = suc (parts c + parts d)
parts (Or c d) = suc (parts c + parts d)
parts _ = 1

-- what is within has fewer parts, and what holds of all queries of the whole holds of its
abbrev pub IsWithin : (List Term → Type 0) → Condition → Condition → Type 0
IsWithin P inner whole = (parts inner < parts whole) × (AllByRecursion P (queries_of whole) → AllByRecursion P (queries_of inner))

pub inner_of_not : (P : List Term → Type 0) (c : Condition) → IsWithin P c (Not c)
inner_of_not P c = (omega arith, λ all. all)

pub first_of_and : (P : List Term → Type 0) (c d : Condition) → IsWithin P c (And c d)
first_of_and P c d = (omega arith, all_first P (queries_of c) (queries_of d))

pub second_of_and : (P : List Term → Type 0) (c d : Condition) → IsWithin P d (And c d)
second_of_and P c d = (omega arith, all_second P (queries_of c) (queries_of d))

pub first_of_or : (P : List Term → Type 0) (c d : Condition) → IsWithin P c (Or c d)
first_of_or P c d = (omega arith, all_first P (queries_of c) (queries_of d))

pub second_of_or : (P : List Term → Type 0) (c d : Condition) → IsWithin P d (Or c d)
second_of_or P c d = (omega arith, all_second P (queries_of c) (queries_of d))

-- so it is of what is the same
pub within_is : (P : List Term → Type 0) (t : ℕ) (inner whole part tree : Tree) → IsWithin P (condition_of inner) (condition_of whole) → part ≡ inner → tree ≡ whole → parts (condition_of tree) ≡ t →
    AllByRecursion P (queries_of (condition_of tree)) → (parts (condition_of part) < t) × AllByRecursion P (queries_of (condition_of part))
within_is P t inner whole part tree is same at count all = (
  subst (λ (x : Tree). parts (condition_of x) < t) (sym same) (subst (λ n. parts (condition_of inner) < n) (sym (ap (λ (x : Tree). parts (condition_of x)) at) ∙ count) is.0),
  subst (λ (x : Tree). AllByRecursion P (queries_of (condition_of x))) (sym same) (is.1 (subst (λ (x : Tree). AllByRecursion P (queries_of (condition_of x))) at all)),
)

pub meant_either : (c d : Condition) (world : World) (events : List EventQueue) (last_run : ℕ) (cursors middle : List ℕ) (one other : Bool) →
    IsMeant c world events last_run cursors one → middle ≡ cursors_after c cursors → IsMeant d world events last_run middle other →
    IsMeant (Or c d) world events last_run cursors (one || other)
meant_either c d world events last_run cursors middle one other left after right state w e =
    ap (λ b. b || other) (left state w e) ∙ ap (λ b. holds c last_run cursors state || b) (right state w e ∙ ap (λ (xs : List ℕ). holds d last_run xs state) after)
