-- One step, and the end, of a loop over a list.
use Rattle.std.proofs.Common.{◌≡◌, ℕ, ◌+◌, ◌<◌, ◌≤◌, List, [], ◌∷◌, ◌++◌, length, take, drop, get_or, flat_map, append_assoc, sym, ap, ◌∙◌}
use Rattle.std.proofs.lemmas.List.{take_more, take_all, flat_map_more, at_drop_more, at_drop_all, append-nil}
use Rattle.model.specs.access.Access.{no_params}
use Rattle.model.specs.steps.Schedule.{Schedule, ScheduledSystem, system_at}
use Rattle.schedule_drawing.specs.Places.{next_row}

-- each element adds some
pub flat_next : {X Y : Type 0} (f : X → List Y) (xs : List X) (i : ℕ) (d x : X) (first old new : List Y) → i < length xs → x ≡ get_or xs i d → old ≡ first ++ flat_map f (take i xs) → new ≡ old ++ f x →
    new ≡ first ++ flat_map f (take (i + 1) xs)
flat_next f xs i d x first old new low here is more =
    more ∙ (ap (λ ys. ys ++ f x) is ∙ (ap (λ y. (first ++ flat_map f (take i xs)) ++ f y) here ∙ (flat_map_more f first (take i xs) (get_or xs i d) ∙ ap (λ zs. first ++ flat_map f zs) (sym (take_more xs i d low)))))

pub flat_all : {X Y : Type 0} (f : X → List Y) (xs all : List X) (i : ℕ) (first made : List Y) → length xs ≤ i → xs ≡ all → made ≡ first ++ flat_map f (take i xs) → made ≡ first ++ flat_map f all
flat_all f xs all i first made past same is = is ∙ ap (λ zs. first ++ flat_map f zs) (take_all i xs past ∙ same)

-- each adds some, by its number, before those that are left
pub counted_next : {X Y : Type 0} (rest : ℕ → List X → List Y) (piece : List Y) (xs : List X) (i : ℕ) (d x : X) (k next : ℕ) (old new all : List Y) → i < length xs → x ≡ get_or xs i d → rest k (x ∷ drop (i + 1) xs) ≡ piece ++ rest (next_row k) (drop (i + 1) xs) →
    old ++ rest k (drop i xs) ≡ all → new ≡ old ++ piece → next ≡ next_row k → new ++ rest next (drop (i + 1) xs) ≡ all
counted_next rest piece xs i d x k next old new all low here step is more count =
    let left = drop (i + 1) xs in
    let now : rest k (drop i xs) ≡ piece ++ rest (next_row k) left = at_drop_more (rest k) xs i d low ∙ (ap (λ y. rest k (y ∷ left)) (sym here) ∙ step) in
    ap (λ ys. ys ++ rest next left) more ∙ (append_assoc old piece (rest next left) ∙ (ap (λ n. old ++ (piece ++ rest n left)) count ∙ (ap (λ ys. old ++ ys) (sym now) ∙ is)))

pub counted_all : {X Y : Type 0} (rest : List X → List Y) (xs : List X) (i : ℕ) (made all : List Y) → length xs ≤ i → rest [] ≡ [] → made ++ rest (drop i xs) ≡ all → made ≡ all
counted_all rest xs i made all past none is =
    sym (append-nil made) ∙ (ap (λ ys. made ++ ys) (sym none ∙ sym (at_drop_all rest xs i past)) ∙ is)

-- what the elements that are left lead to stays the same
pub left_next : {X Y : Type 0} (F G : List X → Y) (xs : List X) (i : ℕ) (d x : X) (all : Y) → i < length xs → x ≡ get_or xs i d → F (drop i xs) ≡ all → F (x ∷ drop (i + 1) xs) ≡ G (drop (i + 1) xs) → G (drop (i + 1) xs) ≡ all
left_next F G xs i d x all low here is step = sym step ∙ (ap (λ y. F (y ∷ drop (i + 1) xs)) here ∙ (sym (at_drop_more F xs i d low) ∙ is))

-- it is what an element gives
pub left_found : {X Y : Type 0} (F : List X → Y) (xs : List X) (i : ℕ) (d x : X) (found all : Y) → i < length xs → x ≡ get_or xs i d → F (drop i xs) ≡ all → F (x ∷ drop (i + 1) xs) ≡ found → found ≡ all
left_found F xs i d x found all low here is step = sym step ∙ (ap (λ y. F (y ∷ drop (i + 1) xs)) here ∙ (sym (at_drop_more F xs i d low) ∙ is))

-- none are left
pub left_none : {X Y : Type 0} (F : List X → Y) (xs : List X) (i : ℕ) (last all : Y) → length xs ≤ i → F [] ≡ last → F (drop i xs) ≡ all → last ≡ all
left_none F xs i last all past end is = sym end ∙ (sym (at_drop_all F xs i past) ∙ is)

-- what is read of a system by its number
pub predecessors_at : (s : Schedule) (systems : List ScheduledSystem) (n : ℕ) (x : ScheduledSystem) (before : List ℕ) → before ≡ x.predecessors → ((d : ScheduledSystem) → x ≡ get_or systems n d) → systems ≡ s.systems → before ≡ (system_at s n).predecessors
predecessors_at s systems n x before are here same =
    let d : ScheduledSystem = record { params = no_params; predecessors = []; level = 0 } in
    are ∙ (ap (λ (y : ScheduledSystem). y.predecessors) (here d) ∙ ap (λ xs. (get_or xs n d).predecessors) same)
