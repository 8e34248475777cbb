-- Changes whose indices rise from place to place, and places that are told.
use Rattle.std.proofs.Common.{◌≡◌, ℕ, zero, suc, ◌+◌, ◌<◌, ◌≤◌, Bool, true, false, cond, ◌==◌, ◌⊎◌, inl, inr, List, [], ◌∷◌, length, get_or, take, Option, Some, None, option_map, refl, sym, ap, ◌∙◌, arith, eqb-true}
use Rattle.std.proofs.lemmas.Bool.{cases_lt}
use Rattle.std.proofs.lemmas.List.{take_more, length-take}
use Rattle.model.proofs.lists.Each.{each-at}
use Rattle.archetype_store.specs.declared.change.EntityChange.{EntityChange}
use Rattle.archetype_store.specs.Changes.{AreOfOtherIndices}
use Rattle.archetype_store.proofs.RowMoves.{index_flipped as turned}
use Rattle.command_queue.specs.declared.change_places.ChangePlaces.{ChangePlaces}
use Rattle.command_queue.specs.ChangePlaces.{place_told}
use Rattle.command_queue.specs.Pending.{place_of, put_change, AreInTurn, ArePlaced, IsNoted, IsLast, IsKnownPlace}
use Rattle.command_queue.proofs.Puts.{at_place, put_first, place_first, place_last}

-- where each index has the place that it had, the places that were told are still told
pub placed_same : (places : Option ChangePlaces) (cs ds : List EntityChange) → ((q : ℕ) → place_of q ds ≡ place_of q cs) → ArePlaced places cs → ArePlaced places ds
placed_same None cs ds same h = λ i j p q x y less. h i j p q (sym (same i) ∙ x) (sym (same j) ∙ y) less
placed_same (Some places) cs ds same h = λ q. h q ∙ sym (same q)

less : (a b : ℕ) → (a ≡ b → ⊥) → a ≤ b → a < b
less a b other l = go (cases_lt a b)
  where
    go : (a < b) ⊎ (b ≤ a) → a < b
    go (inl h) = h
    go (inr h) = (let same : a ≡ b = omega (arith, h, l) in absurd (other same))

-- ---- indices that rise

-- an index that isn't before the last one, and isn't it, has no change
pub none_last : (index : ℕ) (cs : List EntityChange) (n : ℕ) (d : EntityChange) → AreOfOtherIndices cs → AreInTurn cs → IsLast cs index → length cs ≡ suc n →
    ((get_or cs n d).entity.index ≡ index → ⊥) → None ≡ place_of index cs
none_last index cs n d apart turn last many other = go (place_of index cs) refl
  where
    go : (o : Option ℕ) → place_of index cs ≡ o → None ≡ o
    go None h = refl
    go (Some p) h =
        let at = place_last (get_or cs n d).entity.index cs n d apart many refl in
        let before = less (get_or cs n d).entity.index index other (last (get_or cs n d).entity.index n at) in
        let behind = turn (get_or cs n d).entity.index index n p at h before in
        let within = (at_place index cs p h).within in
        absurd (omega (arith, behind, within, many))

pub last_from : (index : ℕ) (cs : List EntityChange) (n : ℕ) (d : EntityChange) → AreOfOtherIndices cs → length cs ≡ suc n → (get_or cs n d).entity.index ≤ index → AreInTurn cs →
    IsLast cs index
last_from index cs n d apart many le turn = λ i p at. go i p at (cases_lt index i)
  where
    go : (i p : ℕ) → place_of i cs ≡ Some p → (index < i) ⊎ (i ≤ index) → i ≤ index
    go i p at (inl less) =
        let there = place_last (get_or cs n d).entity.index cs n d apart many refl in
        let behind = turn (get_or cs n d).entity.index i n p there at (omega (arith, less, le)) in
        let within = (at_place i cs p at).within in
        absurd (omega (arith, behind, within, many))
    go i p at (inr is) = is

pub last_none : (index : ℕ) (cs : List EntityChange) → length cs ≡ 0 → IsLast cs index
last_none index [] h = λ i p at. absurd (cc)
last_none index (c ∷ cs) h = absurd (cc)

-- a change of an index that isn't before the last one comes behind
pub turn_put : (c : EntityChange) (cs : List EntityChange) → AreInTurn cs → IsLast cs c.entity.index → place_of c.entity.index cs ≡ None → AreInTurn (put_change c cs)
turn_put c cs turn last none = λ i j p q x y less.
    go i j p q less (c.entity.index == i) refl (c.entity.index == j) refl (sym (place_first i c cs none) ∙ x) (sym (place_first j c cs none) ∙ y)
  where
    go : (i j p q : ℕ) → i < j → (b : Bool) → (c.entity.index == i) ≡ b → (e : Bool) → (c.entity.index == j) ≡ e →
        cond b (Some (length cs)) (place_of i cs) ≡ Some p → cond e (Some (length cs)) (place_of j cs) ≡ Some q → p < q
    go i j p q less true b true e x y = let one = eqb-true c.entity.index i b in let two = eqb-true c.entity.index j e in absurd (omega (arith, one, two, less))
    go i j p q less true b false e x y = let one = eqb-true c.entity.index i b in let l = last j q y in absurd (omega (arith, one, l, less))
    go i j p q less false b true e x y = let within = (at_place i cs p x).within in let is : length cs ≡ q = cc in omega (arith, within, is)
    go i j p q less false b false e x y = turn i j p q x y less

-- ---- a change more

pub placed_put : (old new : Option ChangePlaces) (c : EntityChange) (cs : List EntityChange) (n : ℕ) → n ≡ length cs → IsNoted old c.entity.index n new →
    ArePlaced old cs → IsKnownPlace old cs c.entity.index → place_of c.entity.index cs ≡ None → ArePlaced new (put_change c cs)
placed_put None None c cs n many noted h told none = turn_put c cs h told none
placed_put None (Some m) c cs n many noted h told none = absurd noted
placed_put (Some l) None c cs n many noted h told none = absurd noted
placed_put (Some l) (Some m) c cs n many noted h told none = λ q.
    noted q
    ∙ ap (λ k. cond (c.entity.index == q) (Some k) (place_told l q)) many
    ∙ ap (cond (c.entity.index == q) (Some (length cs))) (h q)
    ∙ sym (place_first q c cs none)

-- ---- places that are told

taken_first : (cs : List EntityChange) (n : ℕ) (d : EntityChange) → AreOfOtherIndices cs → n < length cs → place_of (get_or cs n d).entity.index (take n cs) ≡ None
taken_first [] n d apart l = absurd (omega arith)
taken_first (c ∷ cs) zero d apart l = refl
taken_first (c ∷ cs) (suc n) d apart l =
    let other = each-at (λ (x : EntityChange). (x.entity.index == c.entity.index) ≡ false) cs n d (omega arith) apart.0 in
    ap (λ (b : Bool). cond b (Some 0) (option_map suc (place_of (get_or cs n d).entity.index (take n cs)))) (turned (get_or cs n d).entity.index c.entity.index other)
    ∙ ap (option_map suc) (taken_first cs n d apart.1 (omega arith))

-- the places of one change more
pub place_taken : (q : ℕ) (cs : List EntityChange) (n : ℕ) (d : EntityChange) → AreOfOtherIndices cs → n < length cs →
    place_of q (take (n + 1) cs) ≡ cond ((get_or cs n d).entity.index == q) (Some n) (place_of q (take n cs))
place_taken q cs n d apart l =
    let c = get_or cs n d in
    let first = taken_first cs n d apart l in
    let long = length-take n cs in
    let many : length (take n cs) ≡ n = omega (arith, long, l) in
    ap (place_of q) (take_more cs n d l ∙ put_first c (take n cs) first)
    ∙ place_first q c (take n cs) first
    ∙ ap (λ m. cond (c.entity.index == q) (Some m) (place_of q (take n cs))) many
