-- What races, one pair after the other.
use Rattle.std.proofs.Common.{◌≡◌, ℕ, ◌+◌, ◌-◌, ◌==◌, ◌||◌, ◌<◌, ◌≤◌, Bool, true, false, cond, List, [], ◌∷◌, ◌++◌, length, drop, get_or, append_assoc, refl, sym, ap, ◌∙◌}
use Rattle.std.proofs.lemmas.List.{at_drop_more, at_drop_all, append-nil}
use Rattle.ambiguity_report.specs.declared.report.Pair.{Pair}
use Rattle.drawing.specs.declared.shape.Shape.{Shape}
use Rattle.model.specs.steps.Schedule.{Schedule}
use Rattle.schedule_drawing.specs.Drawn.{races_from}
use Rattle.schedule_drawing.specs.Marks.{boxes_of, lowest_after, race_shapes}

-- it is the same by the same boxes
pub races_same : (s : Schedule) (leaders : List ℕ) (f g : ℕ → Bool) (left : ℕ) (lowest : List ℕ) (pairs : List Pair) → ((n : ℕ) → f n ≡ g n) → races_from s leaders f left lowest pairs ≡ races_from s leaders g left lowest pairs
races_same s leaders f g left lowest [] same = refl
races_same s leaders f g left lowest (p ∷ pairs) same =
    let key : ℕ = boxes_of s leaders p in
    let piece : List Shape = race_shapes s leaders left lowest p in
    let low : List ℕ = lowest_after s leaders left lowest p in
    let f' : ℕ → Bool = λ n. (key == n) || f n in
    let g' : ℕ → Bool = λ n. (key == n) || g n in
    let skipped : races_from s leaders f left lowest pairs ≡ races_from s leaders g left lowest pairs = races_same s leaders f g left lowest pairs same in
    let drawn : races_from s leaders f' (left - 1) low pairs ≡ races_from s leaders g' (left - 1) low pairs = races_same s leaders f' g' (left - 1) low pairs (λ n. ap (λ b. (key == n) || b) (same n)) in
    ap (λ b. cond b (races_from s leaders f left lowest pairs) (piece ++ races_from s leaders f' (left - 1) low pairs)) (same key)
    ∙ (ap (λ xs. cond (g key) xs (piece ++ races_from s leaders f' (left - 1) low pairs)) skipped
    ∙ ap (λ xs. cond (g key) (races_from s leaders g left lowest pairs) (piece ++ xs)) drawn)

-- a pair whose boxes have a line
pub races_skipped : (s : Schedule) (leaders : List ℕ) (f : ℕ → Bool) (left : ℕ) (lowest : List ℕ) (pairs : List Pair) (i : ℕ) (d p : Pair) (made all : List Shape) → i < length pairs → p ≡ get_or pairs i d → f (boxes_of s leaders p) ≡ true →
    made ++ races_from s leaders f left lowest (drop i pairs) ≡ all → made ++ races_from s leaders f left lowest (drop (i + 1) pairs) ≡ all
races_skipped s leaders f left lowest pairs i d p made all low here is rest =
    let left_pairs : List Pair = drop (i + 1) pairs in
    let now : races_from s leaders f left lowest (drop i pairs) ≡ races_from s leaders f left lowest left_pairs =
    at_drop_more (races_from s leaders f left lowest) pairs i d low ∙ (ap (λ (x : Pair). races_from s leaders f left lowest (x ∷ left_pairs)) (sym here)
    ∙ ap (λ b. cond b (races_from s leaders f left lowest left_pairs) (race_shapes s leaders left lowest p ++ races_from s leaders (λ n. (boxes_of s leaders p == n) || f n) (left - 1) (lowest_after s leaders left lowest p) left_pairs)) is) in
    ap (λ xs. made ++ xs) (sym now) ∙ rest

-- a pair that is drawn
pub races_drawn : (s : Schedule) (leaders : List ℕ) (f g : ℕ → Bool) (left next : ℕ) (lowest later : List ℕ) (pairs : List Pair) (i : ℕ) (d p : Pair) (old new all : List Shape) → i < length pairs → p ≡ get_or pairs i d → f (boxes_of s leaders p) ≡ false →
    ((n : ℕ) → g n ≡ ((boxes_of s leaders p == n) || f n)) → new ≡ old ++ race_shapes s leaders left lowest p → next ≡ left - 1 → later ≡ lowest_after s leaders left lowest p →
    old ++ races_from s leaders f left lowest (drop i pairs) ≡ all → new ++ races_from s leaders g next later (drop (i + 1) pairs) ≡ all
races_drawn s leaders f g left next lowest later pairs i d p old new all low here is marked more next_is later_is rest =
    let left_pairs : List Pair = drop (i + 1) pairs in
    let piece : List Shape = race_shapes s leaders left lowest p in
    let f' : ℕ → Bool = λ n. (boxes_of s leaders p == n) || f n in
    let then : List Shape = races_from s leaders f' (left - 1) (lowest_after s leaders left lowest p) left_pairs in
    let now : races_from s leaders f left lowest (drop i pairs) ≡ piece ++ then =
    at_drop_more (races_from s leaders f left lowest) pairs i d low ∙ (ap (λ (x : Pair). races_from s leaders f left lowest (x ∷ left_pairs)) (sym here)
    ∙ ap (λ b. cond b (races_from s leaders f left lowest left_pairs) (piece ++ then)) is) in
    let same : races_from s leaders g next later left_pairs ≡ then =
    races_same s leaders g f' next later left_pairs marked ∙ (ap (λ n. races_from s leaders f' n later left_pairs) next_is ∙ ap (λ ls. races_from s leaders f' (left - 1) ls left_pairs) later_is) in
    ap (λ xs. xs ++ races_from s leaders g next later left_pairs) more
    ∙ (append_assoc old piece (races_from s leaders g next later left_pairs)
    ∙ (ap (λ xs. old ++ (piece ++ xs)) same ∙ (ap (λ xs. old ++ xs) (sym now) ∙ rest)))

-- none are left
pub races_end : (s : Schedule) (leaders : List ℕ) (f : ℕ → Bool) (left : ℕ) (lowest : List ℕ) (pairs : List Pair) (i : ℕ) (made all : List Shape) → length pairs ≤ i → made ++ races_from s leaders f left lowest (drop i pairs) ≡ all → made ≡ all
races_end s leaders f left lowest pairs i made all past is =
    sym (append-nil made) ∙ (ap (λ xs. made ++ xs) (sym (at_drop_all (races_from s leaders f left lowest) pairs i past)) ∙ is)
