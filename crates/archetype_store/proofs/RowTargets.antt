-- Where a row goes that is moved.
use Rattle.archetype_store.proofs.Common.{◌≡◌, ◌≢◌, ℕ, ◌+◌, ◌≤◌, Bool, true, false, cond, ◌==◌, List, [], ◌∷◌, Option, Some, None, refl, sym, ap, ◌∙◌, arith, is_there, with_at, StampedValue, TableValue, EntityLocation, RowMove, place_of, other_table, arrives_in, stays_there, stays_in, is_table, one_if, room_at, is_in, eqb-true}
use Rattle.archetype_store.proofs.PlacesAfterRowChange.{with_at_apart}

here_from : (o : Option EntityLocation) (to : ℕ) → other_table o (Some to) ≡ None → (p : EntityLocation) × (o ≡ Some p) × (p.table ≡ to)
here_from None to h = absurd (cc)
here_from (Some p) to h = go (to == p.table) refl h
  where
    go : (b : Bool) → (to == p.table) ≡ b → cond b None (Some to) ≡ None → (q : EntityLocation) × (Some p ≡ Some q) × (q.table ≡ to)
    go true same k = (p, refl, sym (eqb-true to p.table same))
    go false other k = absurd (cc)

-- a row that stays in its table
pub arrives_here : (P : List (Option EntityLocation)) (m : RowMove) (to : ℕ) → m.to ≡ Some to → arrives_in P m ≡ None →
    (p : EntityLocation) × (place_of P m.change.now.entity.index ≡ Some p) × (p.table ≡ to)
arrives_here P m to is none = here_from (place_of P m.change.now.entity.index) to (sym (ap (other_table (place_of P m.change.now.entity.index)) is) ∙ none)

-- a row that comes into some table comes where it goes
arrives_from : (b : Bool) (to x : ℕ) → cond b None (Some to) ≡ Some x → cond b None (Some to) ≡ Some to
arrives_from true to x e = absurd (cc)
arrives_from false to x e = refl

pub arrives_there : (P : List (Option EntityLocation)) (m : RowMove) (to x : ℕ) → m.to ≡ Some to → arrives_in P m ≡ Some x → arrives_in P m ≡ Some to
arrives_there P m to x is at =
    let from = place_of P m.change.now.entity.index in
    let step : arrives_in P m ≡ cond (is_in from to) None (Some to) = ap (other_table from) is in
    step ∙ arrives_from (is_in from to) to x (sym step ∙ at)

-- a row that comes into some table doesn't stay
leaves_from : (b : Bool) (to x : ℕ) → cond b None (Some to) ≡ Some x → b ≡ false
leaves_from true to x e = absurd (cc)
leaves_from false to x e = refl

pub arrives_moves : (P : List (Option EntityLocation)) (m : RowMove) (to x : ℕ) → m.to ≡ Some to → arrives_in P m ≡ Some x → stays_in P m ≡ false
arrives_moves P m to x is at = let from = place_of P m.change.now.entity.index in ap (stays_there from) is ∙ leaves_from (is_in from to) to x (sym (ap (other_table from) is) ∙ at)

pub some_there : (ss : List StampedValue) → is_there ss ≡ true → ss ≢ []
some_there [] h = absurd (cc)
some_there (s ∷ ss) h = λ e. cc

pub others_kept : (P P' : List (Option EntityLocation)) (n : ℕ) (o : Option EntityLocation) → ((i : ℕ) → place_of P' i ≡ with_at n o (place_of P) i) → (i : ℕ) → (i ≡ n → ⊥) → place_of P' i ≡ place_of P i
others_kept P P' n o h i apart = h i ∙ with_at_apart n i o (place_of P) apart

-- ---- rooms

pub rooms_same : (T T' : List TableValue) (b : ℕ → Bool) → ((t : ℕ) → room_at T' t ≡ room_at T t) → (t : ℕ) → room_at T t ≤ one_if (b t) + room_at T' t
rooms_same T T' b h t = let e = h t in omega (arith, e)

pub rooms_joined : (T T' T'' : List TableValue) (P : List (Option EntityLocation)) (m : RowMove) (to : ℕ) → arrives_in P m ≡ Some to → ((t : ℕ) → room_at T' t ≡ room_at T t) →
    ((t : ℕ) → room_at T' t ≤ one_if (t == to) + room_at T'' t) → (t : ℕ) → room_at T t ≤ one_if (is_table (arrives_in P m) t) + room_at T'' t
rooms_joined T T' T'' P m to at h k t =
    let a = h t in let b = k t in let z : one_if (is_table (arrives_in P m) t) ≡ one_if (t == to) = ap (λ o. one_if (is_table o t)) at in omega (arith, a, b, z)
