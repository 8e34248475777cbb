-- The columns that are picked, archetype by archetype and kind by kind.
use Rattle.std.proofs.Common.{◌≡◌, ℕ, zero, suc, ◌+◌, ◌<◌, Bool, true, false, cond, List, [], ◌∷◌, ◌++◌, length, take, map, get_or, refl, sym, ap, ◌∙◌, append_assoc, append-nil, arith}
use Rattle.std.proofs.Math.ListN.{get_or-map}
use Rattle.std.proofs.lemmas.List.{length-map, get_or_default}
use Rattle.model.specs.access.Query.{Term, touches, writes}
use Rattle.query_plan.specs.Picks.{Picked, picked_in}

in_step : (b : Bool) (p : Picked) (xs ys zs : List Picked) → xs ≡ ys ++ zs → cond b (p ∷ xs) xs ≡ cond b (p ∷ ys) ys ++ zs
in_step true p xs ys zs h = ap (λ ps. p ∷ ps) h
in_step false p xs ys zs h = h

-- one more kind
pub picked_in-take-suc : (query : List Term) (n : ℕ) (kinds : List ℕ) (i d : ℕ) → i < length kinds
    → picked_in query n (take (suc i) kinds) ≡ picked_in query n (take i kinds)
    ++ cond (touches query (get_or kinds i d)) (record { archetype = n; kind = get_or kinds i d; is_written = writes query (get_or kinds i d) } ∷ []) []
picked_in-take-suc query n [] i d h = absurd (omega arith)
picked_in-take-suc query n (k ∷ kinds) zero d h = refl
picked_in-take-suc query n (k ∷ kinds) (suc i) d h =
    in_step (touches query k) (record { archetype = n; kind = k; is_written = writes query k }) (picked_in query n (take (suc i) kinds)) (picked_in query n (take i kinds)) _
    (picked_in-take-suc query n kinds i d (omega arith))

module _ (query : List Term) (n i d : ℕ) (kinds : List ℕ) (before so_far : List Picked) (below : i < length kinds) (held : so_far ≡ before ++ picked_in query n (take i kinds)) (is : d ≡ get_or kinds i d) where
  next_kind : picked_in query n (take (i + 1) kinds) ≡ picked_in query n (take i kinds) ++ cond (touches query d) (record { archetype = n; kind = d; is_written = writes query d } ∷ []) []
  next_kind = ap (λ k. picked_in query n (take k kinds)) (let e : i + 1 ≡ suc i = omega arith in e) ∙ picked_in-take-suc query n kinds i d below
      ∙ ap (λ k. picked_in query n (take i kinds) ++ cond (touches query k) (record { archetype = n; kind = k; is_written = writes query k } ∷ []) []) (sym is)

  -- a kind that isn't touched is passed over
  pub kind_passed : touches query d ≡ false → so_far ≡ before ++ picked_in query n (take (i + 1) kinds)
  kind_passed untouched =
      held ∙ ap (λ ps. before ++ ps) (sym (next_kind
      ∙ ap (λ b. picked_in query n (take i kinds) ++ cond b (record { archetype = n; kind = d; is_written = writes query d } ∷ []) []) untouched ∙ append-nil (picked_in query n (take i kinds))))

  -- one that is touched is picked
  pub kind_picked : (next : List Picked) → touches query d ≡ true → next ≡ so_far ++ record { archetype = n; kind = d; is_written = writes query d } ∷ [] →
      next ≡ before ++ picked_in query n (take (i + 1) kinds)
  kind_picked next touched pushed =
      pushed ∙ ap (λ ps. ps ++ record { archetype = n; kind = d; is_written = writes query d } ∷ []) held
      ∙ append_assoc before (picked_in query n (take i kinds)) (record { archetype = n; kind = d; is_written = writes query d } ∷ [])
      ∙ ap (λ ps. before ++ ps) (sym (next_kind ∙ ap (λ b. picked_in query n (take i kinds) ++ cond b (record { archetype = n; kind = d; is_written = writes query d } ∷ []) []) touched))

-- ---- from lists of what has the numbers

item_is : {X A : Type 0} (f : X → A) (xs : List X) (i : ℕ) (d : X) → i < length xs → f (get_or xs i d) ≡ get_or (map f xs) i (f (get_or xs i d))
item_is f xs i d below = sym (get_or-map f xs i d) ∙ get_or_default (map f xs) i (f d) (f (get_or xs i d)) (let e = length-map xs f in omega arith)

module _ {X : Type 0} (f : X → ℕ) (query : List Term) (n i : ℕ) (xs : List X) (d : X) (before so_far : List Picked) (below : i < length xs)
    (held : so_far ≡ before ++ picked_in query n (take i (map f xs))) where
  pub passed_over : touches query (f (get_or xs i d)) ≡ false → so_far ≡ before ++ picked_in query n (take (i + 1) (map f xs))
  passed_over untouched = kind_passed query n i (f (get_or xs i d)) (map f xs) before so_far (let e = length-map xs f in omega arith) held (item_is f xs i d below) untouched

  pub picked_one : (next : List Picked) (w : Bool) → touches query (f (get_or xs i d)) ≡ true → w ≡ writes query (f (get_or xs i d)) →
      next ≡ so_far ++ record { archetype = n; kind = f (get_or xs i d); is_written = w } ∷ [] → next ≡ before ++ picked_in query n (take (i + 1) (map f xs))
  picked_one next w touched written pushed = kind_picked query n i (f (get_or xs i d)) (map f xs) before so_far (let e = length-map xs f in omega arith) held (item_is f xs i d below) next touched
      (pushed ∙ ap (λ b. so_far ++ (let p : Picked = record { archetype = n; kind = f (get_or xs i d); is_written = b } in p) ∷ []) written)
