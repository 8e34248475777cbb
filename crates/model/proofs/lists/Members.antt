-- What is in a list made of others, and numbers in options.
use Rattle.std.proofs.Common.{◌≡◌, ℕ, Bool, true, false, cond, inl, inr, refl, sym, ap, subst, ◌∙◌, List, [], ◌∷◌, map, filter, filter_map, flat_map, Option, Some, None, eqb-true, eq-eqb}
use Rattle.std.proofs.lemmas.Bool.{false≢true}
use Rattle.std.specs.List.{cons_option}
use Rattle.model.specs.Lists.{IsIn, is_number}
use Rattle.model.proofs.lists.Lists.{IsIn_left, IsIn_right}

-- what a function makes of what is in a list
pub in-map : {A B : Type 0} (f : A → B) (xs : List A) (x : A) → IsIn x xs → IsIn (f x) (map f xs)
in-map f [] x h = absurd h
in-map f (y ∷ ys) x (inl same) = inl (ap f same)
in-map f (y ∷ ys) x (inr more) = inr (in-map f ys x more)

-- what is in one of the lists that are joined
pub in-flat_map : {A B : Type 0} (f : A → List B) (xs : List A) (x : A) (y : B) → IsIn x xs → IsIn y (f x) → IsIn y (flat_map f xs)
in-flat_map f [] x y h e = absurd h
in-flat_map f (z ∷ zs) x y (inl same) e = IsIn_left y (f z) (flat_map f zs) (subst (λ w. IsIn y (f w)) same e)
in-flat_map f (z ∷ zs) x y (inr more) e = IsIn_right y (f z) (flat_map f zs) (in-flat_map f zs x y more e)

-- what a function gives for what is in a list
pub in-filter_map : {A B : Type 0} (f : A → Option B) (xs : List A) (x : A) (y : B) → IsIn x xs → f x ≡ Some y → IsIn y (filter_map f xs)
in-filter_map f [] x y h e = absurd h
in-filter_map {B} f (z ∷ zs) x y (inl same) e = go (f z) (ap f (sym same) ∙ e)
  where
    go : (o : Option B) → o ≡ Some y → IsIn y (cons_option o (filter_map f zs))
    go None e = cc
    go (Some w) e = inl (cc)
in-filter_map {B} f (z ∷ zs) x y (inr more) e = go (f z) (in-filter_map f zs x y more e)
  where
    go : (o : Option B) → IsIn y (filter_map f zs) → IsIn y (cons_option o (filter_map f zs))
    go None h = h
    go (Some w) h = inr h

-- what passes a test is kept
pub in-filter : {A : Type 0} (test : A → Bool) (xs : List A) (x : A) → IsIn x xs → test x ≡ true → IsIn x (filter test xs)
in-filter test [] x h e = absurd h
in-filter test (y ∷ ys) x (inl same) e = go (test y) (ap test (sym same) ∙ e)
  where
    go : (b : Bool) → b ≡ true → IsIn x (cond b (y ∷ filter test ys) (filter test ys))
    go true e = inl same
    go false e = absurd (false≢true e)
in-filter test (y ∷ ys) x (inr more) e = go (test y) (in-filter test ys x more e)
  where
    go : (b : Bool) → IsIn x (filter test ys) → IsIn x (cond b (y ∷ filter test ys) (filter test ys))
    go true h = inr h
    go false h = h

-- what is kept is in the list, and passes
pub from-filter : {A : Type 0} (test : A → Bool) (xs : List A) (x : A) → IsIn x (filter test xs) → IsIn x xs × (test x ≡ true)
from-filter test [] x h = absurd h
from-filter test (y ∷ ys) x h = go (test y) refl h (from-filter test ys x)
  where
    go : (b : Bool) → test y ≡ b → IsIn x (cond b (y ∷ filter test ys) (filter test ys)) → (IsIn x (filter test ys) → IsIn x ys × (test x ≡ true)) → IsIn x (y ∷ ys) × (test x ≡ true)
    go true e (inl same) rest = (inl same, ap test same ∙ e)
    go true e (inr more) rest = (inr (rest more).0, (rest more).1)
    go false e more rest = (inr (rest more).0, (rest more).1)

-- an option that names a number
pub number-of : (n : ℕ) (o : Option ℕ) → is_number n o ≡ true → o ≡ Some n
number-of n None e = absurd (false≢true e)
number-of n (Some m) e = ap Some (eqb-true m n e)

-- the number that an option names
pub number-is : (n : ℕ) → is_number n (Some n) ≡ true
number-is n = eq-eqb n n refl
