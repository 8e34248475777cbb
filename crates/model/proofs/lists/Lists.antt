-- Lemmas on the lists, options and maps by number that the definitions use.
use Rattle.std.proofs.Common.{ℕ, zero, suc, Bool, true, false, cond, ◌&&◌, ◌==◌, ◌≡◌, ◌≢◌, ◌⊎◌, List, [], ◌∷◌, ◌++◌, length, map, get_or, replicate, Option, Some, None, option_and_then, refl, sym, ap, ap₂, ◌∙◌, inl, inr, ⊎_elim}
use Rattle.std.specs.List.{list_any, list_all}
use Rattle.std.proofs.lemmas.Bool.{or_cases, or_left, or_right, and_parts, and_from, eqb-true, ne_eqb, eq-eqb, false≢true}
use mathlib.Core.Path.{fun_ext}
use Rattle.model.specs.Lists.{has, IsIn, map_index, all_index, update_at, with_at, provided}

-- ---- tests

-- two tests that pass together are one
pub same_tests : (a b : Bool) → (a ≡ true → b ≡ true) → (b ≡ true → a ≡ true) → a ≡ b
same_tests true b f g = sym (f refl)
same_tests false true f g = g refl
same_tests false false f g = refl

-- a number is itself
pub ==-same : (n : ℕ) → (n == n) ≡ true
==-same n = eq-eqb n n refl

-- ---- a list changed by index

-- elements that are changed alike give one list
pub map_index-same : {A B : Type 0} (f g : ℕ → A → B) (d : A) (xs : List A) → ((i : ℕ) → f i (get_or xs i d) ≡ g i (get_or xs i d)) → map_index f xs ≡ map_index g xs
map_index-same f g d [] h = refl
map_index-same f g d (x ∷ xs) h = ap₂ ◌∷◌ (h zero) (map_index-same (λ i. f (suc i)) (λ i. g (suc i)) d xs (λ i. h (suc i)))

-- a change of no element leaves the list
pub map_index-id : {A : Type 0} (f : ℕ → A → A) (d : A) (xs : List A) → ((i : ℕ) → f i (get_or xs i d) ≡ get_or xs i d) → map_index f xs ≡ xs
map_index-id f d [] h = refl
map_index-id f d (x ∷ xs) h = ap₂ ◌∷◌ (h zero) (map_index-id (λ i. f (suc i)) d xs (λ i. h (suc i)))

-- two changes after each other are one
pub map_index-map_index : {A B C : Type 0} (f : ℕ → B → C) (g : ℕ → A → B) (xs : List A) → map_index f (map_index g xs) ≡ map_index (λ i x. f i (g i x)) xs
map_index-map_index f g [] = refl
map_index-map_index f g (x ∷ xs) = ap (◌∷◌ (f zero (g zero x))) (map_index-map_index (λ i. f (suc i)) (λ i. g (suc i)) xs)

-- two changes of each element that can be swapped
pub map_index-comm : {A : Type 0} (f g : ℕ → A → A) (d : A) (xs : List A) → ((i : ℕ) → f i (g i (get_or xs i d)) ≡ g i (f i (get_or xs i d))) →
    map_index f (map_index g xs) ≡ map_index g (map_index f xs)
map_index-comm f g d xs h =
    map_index-map_index f g xs ∙ map_index-same (λ i x. f i (g i x)) (λ i x. g i (f i x)) d xs h ∙ sym (map_index-map_index g f xs)

-- the length stays
pub length-map_index : {A B : Type 0} (f : ℕ → A → B) (xs : List A) → length (map_index f xs) ≡ length xs
length-map_index f [] = refl
length-map_index f (x ∷ xs) = ap suc (length-map_index (λ i. f (suc i)) xs)

-- an element of the changed list is the changed element, where the default isn't changed
pub get_or-map_index : {A : Type 0} (f : ℕ → A → A) (xs : List A) (i : ℕ) (d : A) → f i d ≡ d → get_or (map_index f xs) i d ≡ f i (get_or xs i d)
get_or-map_index f [] i d h = sym h
get_or-map_index f (x ∷ xs) zero d h = refl
get_or-map_index f (x ∷ xs) (suc i) d h = get_or-map_index (λ j. f (suc j)) xs i d h

-- an element that isn't changed stays
pub get_or-map_index-same : {A : Type 0} (f : ℕ → A → A) (xs : List A) (i : ℕ) (d : A) → ((x : A) → f i x ≡ x) → get_or (map_index f xs) i d ≡ get_or xs i d
get_or-map_index-same f xs i d h = get_or-map_index f xs i d (h d) ∙ h (get_or xs i d)

-- what no change alters of an element stays
pub get_or-map_index-view : {A B : Type 0} (view : A → B) (f : ℕ → A → A) (xs : List A) (i : ℕ) (d : A) → ((j : ℕ) (x : A) → view (f j x) ≡ view x) →
    view (get_or (map_index f xs) i d) ≡ view (get_or xs i d)
get_or-map_index-view view f [] i d h = refl
get_or-map_index-view view f (x ∷ xs) zero d h = h zero x
get_or-map_index-view view f (x ∷ xs) (suc i) d h = get_or-map_index-view view (λ j. f (suc j)) xs i d (λ j. h (suc j))

-- elements that aren't changed, at the end
pub map_index-replicate : {A : Type 0} (f : ℕ → A → A) (n : ℕ) (d : A) → ((i : ℕ) → f i d ≡ d) → map_index f (replicate n d) ≡ replicate n d
map_index-replicate f zero d h = refl
map_index-replicate f (suc n) d h = ap₂ ◌∷◌ (h zero) (map_index-replicate (λ i. f (suc i)) n d (λ i. h (suc i)))

-- the same behind other elements, which are changed
pub map_index-append_replicate : {A : Type 0} (f : ℕ → A → A) (xs : List A) (n : ℕ) (d : A) → ((i : ℕ) → f i d ≡ d) →
    map_index f (xs ++ replicate n d) ≡ map_index f xs ++ replicate n d
map_index-append_replicate f [] n d h = map_index-replicate f n d h
map_index-append_replicate f (x ∷ xs) n d h = ap (◌∷◌ (f zero x)) (map_index-append_replicate (λ i. f (suc i)) xs n d (λ i. h (suc i)))

-- elements like the default at the end aren't distinguished
pub get_or-append_replicate : {A : Type 0} (xs : List A) (n i : ℕ) (d : A) → get_or (xs ++ replicate n d) i d ≡ get_or xs i d
get_or-append_replicate [] zero i d = refl
get_or-append_replicate [] (suc n) zero d = refl
get_or-append_replicate [] (suc n) (suc i) d = get_or-append_replicate [] n i d
get_or-append_replicate (x ∷ xs) n zero d = refl
get_or-append_replicate (x ∷ xs) n (suc i) d = get_or-append_replicate xs n i d

-- ---- a test of each element at its index

-- tests that agree at each element
pub all_index-same : {A : Type 0} (f g : ℕ → A → Bool) (d : A) (xs : List A) → ((i : ℕ) → f i (get_or xs i d) ≡ g i (get_or xs i d)) → all_index f xs ≡ all_index g xs
all_index-same f g d [] h = refl
all_index-same f g d (x ∷ xs) h = ap₂ ◌&&◌ (h zero) (all_index-same (λ i. f (suc i)) (λ i. g (suc i)) d xs (λ i. h (suc i)))

-- the test of a changed list
pub all_index-map_index : {A B : Type 0} (test : ℕ → B → Bool) (f : ℕ → A → B) (xs : List A) → all_index test (map_index f xs) ≡ all_index (λ i x. test i (f i x)) xs
all_index-map_index test f [] = refl
all_index-map_index test f (x ∷ xs) = ap (◌&&◌ (test zero (f zero x))) (all_index-map_index (λ i. test (suc i)) (λ i. f (suc i)) xs)

-- ---- a change at one index

-- the length stays
pub length-update_at : {A : Type 0} (i : ℕ) (f : A → A) (xs : List A) → length (update_at i f xs) ≡ length xs
length-update_at i f [] = refl
length-update_at zero f (x ∷ xs) = refl
length-update_at (suc i) f (x ∷ xs) = ap suc (length-update_at i f xs)

-- another element stays
pub get_or-update_at_other : {A : Type 0} (m n : ℕ) (f : A → A) (xs : List A) (d : A) → m ≢ n → get_or (update_at m f xs) n d ≡ get_or xs n d
get_or-update_at_other m n f [] d h = refl
get_or-update_at_other zero zero f (x ∷ xs) d h = absurd (h refl)
get_or-update_at_other zero (suc n) f (x ∷ xs) d h = refl
get_or-update_at_other (suc m) zero f (x ∷ xs) d h = refl
get_or-update_at_other (suc m) (suc n) f (x ∷ xs) d h = get_or-update_at_other m n f xs d (λ e. h (ap suc e))

-- what the change doesn't alter of the element stays
pub get_or-update_at-view : {A B : Type 0} (view : A → B) (m n : ℕ) (f : A → A) (xs : List A) (d : A) → ((x : A) → view (f x) ≡ view x) →
    view (get_or (update_at m f xs) n d) ≡ view (get_or xs n d)
get_or-update_at-view view m n f [] d h = refl
get_or-update_at-view view zero zero f (x ∷ xs) d h = h x
get_or-update_at-view view zero (suc n) f (x ∷ xs) d h = refl
get_or-update_at-view view (suc m) zero f (x ∷ xs) d h = refl
get_or-update_at-view view (suc m) (suc n) f (x ∷ xs) d h = get_or-update_at-view view m n f xs d h

-- changes at two indices can be swapped
pub update_at-comm : {A : Type 0} (m n : ℕ) (f g : A → A) (xs : List A) → m ≢ n → update_at m f (update_at n g xs) ≡ update_at n g (update_at m f xs)
update_at-comm m n f g [] h = refl
update_at-comm zero zero f g (x ∷ xs) h = absurd (h refl)
update_at-comm zero (suc n) f g (x ∷ xs) h = refl
update_at-comm (suc m) zero f g (x ∷ xs) h = refl
update_at-comm (suc m) (suc n) f g (x ∷ xs) h = ap (◌∷◌ x) (update_at-comm m n f g xs (λ e. h (ap suc e)))

-- ---- a map by number

-- two values at two numbers can be set in either order
pub with_at-comm : {A : Type 0} (m n : ℕ) (x y : A) (f : ℕ → A) → m ≢ n → with_at m x (with_at n y f) ≡ with_at n y (with_at m x f)
with_at-comm {A} m n x y f h = fun_ext (λ k. go k (k == m) (k == n) refl refl)
  where
    go : (k : ℕ) (a b : Bool) → (k == m) ≡ a → (k == n) ≡ b → cond a x (cond b y (f k)) ≡ cond b y (cond a x (f k))
    go k true true p q = absurd (h (sym (eqb-true k m p) ∙ eqb-true k n q))
    go k true false p q = refl
    go k false b p q = refl

-- another value stays
pub with_at_other : {A : Type 0} (m n : ℕ) (x : A) (f : ℕ → A) → m ≢ n → with_at m x f n ≡ f n
with_at_other m n x f h = ap (λ b. cond b x (f n)) (ne_eqb n m (λ e. h (sym e)))

-- ---- elements

-- an element that passes a test makes some pass
pub list_any-IsIn : {A : Type 0} (test : A → Bool) (x : A) (xs : List A) → IsIn x xs → test x ≡ true → list_any test xs ≡ true
list_any-IsIn test x [] i h = absurd i
list_any-IsIn test x (y ∷ ys) (inl e) h = or_left (test y) (list_any test ys) (ap test (sym e) ∙ h)
list_any-IsIn test x (y ∷ ys) (inr i) h = or_right (test y) (list_any test ys) (list_any-IsIn test x ys i h)

-- where some pass, one does
pub IsIn_from_any : {A : Type 0} (test : A → Bool) (xs : List A) → list_any test xs ≡ true → (x : A) × IsIn x xs × (test x ≡ true)
IsIn_from_any test [] h = absurd (false≢true h)
IsIn_from_any {A} test (y ∷ ys) h = go (or_cases (test y) (list_any test ys) h) (IsIn_from_any test ys)
  where
    go : (test y ≡ true) ⊎ (list_any test ys ≡ true) → (list_any test ys ≡ true → (x : A) × IsIn x ys × (test x ≡ true)) →
        (x : A) × IsIn x (y ∷ ys) × (test x ≡ true)
    go (inl p) f = (y, inl refl, p)
    go (inr p) f = let r : (x : A) × IsIn x ys × (test x ≡ true) = f p in (r.0, inr r.1, r.2)

-- where all pass, each does
pub list_all-IsIn : {A : Type 0} (test : A → Bool) (x : A) (xs : List A) → list_all test xs ≡ true → IsIn x xs → test x ≡ true
list_all-IsIn test x [] h i = absurd i
list_all-IsIn test x (y ∷ ys) h (inl e) = ap test e ∙ (and_parts (test y) (list_all test ys) h).0
list_all-IsIn test x (y ∷ ys) h (inr i) = list_all-IsIn test x ys (and_parts (test y) (list_all test ys) h).1 i

-- where each passes, all do
pub list_all_from : {A : Type 0} (test : A → Bool) (xs : List A) → ((x : A) → IsIn x xs → test x ≡ true) → list_all test xs ≡ true
list_all_from test [] h = refl
list_all_from test (y ∷ ys) h = and_from (test y) (list_all test ys) (h y (inl refl)) (list_all_from test ys (λ x i. h x (inr i)))

-- an element is among two lists where it is in one of them
pub IsIn-append : {A : Type 0} (x : A) (xs ys : List A) → IsIn x (xs ++ ys) → IsIn x xs ⊎ IsIn x ys
IsIn-append x [] ys i = inr i
IsIn-append x (z ∷ zs) ys (inl e) = inl (inl e)
IsIn-append x (z ∷ zs) ys (inr i) = ⊎_elim (λ j. inl (inr j)) (λ j. inr j) (IsIn-append x zs ys i)

-- an element of the first list is among both
pub IsIn_left : {A : Type 0} (x : A) (xs ys : List A) → IsIn x xs → IsIn x (xs ++ ys)
IsIn_left x [] ys i = absurd i
IsIn_left x (z ∷ zs) ys (inl e) = inl e
IsIn_left x (z ∷ zs) ys (inr i) = inr (IsIn_left x zs ys i)

-- so is one of the second
pub IsIn_right : {A : Type 0} (x : A) (xs ys : List A) → IsIn x ys → IsIn x (xs ++ ys)
IsIn_right x [] ys i = i
IsIn_right x (z ∷ zs) ys i = inr (IsIn_right x zs ys i)

-- a number that is an element is among the list
pub has-IsIn : (n : ℕ) (ns : List ℕ) → IsIn n ns → has n ns ≡ true
has-IsIn n ns i = list_any-IsIn (λ x. x == n) n ns i (==-same n)

-- a number that is among the list is an element
pub IsIn_from_has : (n : ℕ) (ns : List ℕ) → has n ns ≡ true → IsIn n ns
IsIn_from_has n [] h = absurd (false≢true h)
IsIn_from_has n (m ∷ ms) h = go (or_cases (m == n) (has n ms) h) (IsIn_from_has n ms)
  where
    go : ((m == n) ≡ true) ⊎ (has n ms ≡ true) → (has n ms ≡ true → IsIn n ms) → IsIn n (m ∷ ms)
    go (inl p) f = inl (sym (eqb-true m n p))
    go (inr p) f = inr (f p)

-- functions that agree on the elements
pub map-same : {A B : Type 0} (f g : A → B) (xs : List A) → ((x : A) → IsIn x xs → f x ≡ g x) → map f xs ≡ map g xs
map-same f g [] h = refl
map-same f g (x ∷ xs) h = ap₂ ◌∷◌ (h x (inl refl)) (map-same f g xs (λ y i. h y (inr i)))

-- tests that agree on the elements
pub list_all-same : {A : Type 0} (f g : A → Bool) (xs : List A) → ((x : A) → IsIn x xs → f x ≡ g x) → list_all f xs ≡ list_all g xs
list_all-same f g [] h = refl
list_all-same f g (x ∷ xs) h = ap₂ ◌&&◌ (h x (inl refl)) (list_all-same f g xs (λ y i. h y (inr i)))

-- ---- options

-- functions that agree on what is there
pub option_and_then-same : {A B : Type 0} (f g : A → Option B) (o : Option A) → ((x : A) → o ≡ Some x → f x ≡ g x) → option_and_then f o ≡ option_and_then g o
option_and_then-same f g None h = refl
option_and_then-same f g (Some x) h = h x refl

-- two functions after each other
pub option_and_then-assoc : {A B C : Type 0} (f : A → Option B) (g : B → Option C) (o : Option A) →
    option_and_then g (option_and_then f o) ≡ option_and_then (λ x. option_and_then g (f x)) o
option_and_then-assoc f g None = refl
option_and_then-assoc f g (Some x) = refl

-- nothing is done after
pub option_and_then-Some : {A : Type 0} (o : Option A) → option_and_then (λ x. Some x) o ≡ o
option_and_then-Some None = refl
option_and_then-Some (Some x) = refl

-- where a provided value is there its test is passed
pub provided-Some : {A : Type 0} (test : Bool) (x y : A) → provided test x ≡ Some y → (test ≡ true) × (x ≡ y)
provided-Some true x y e = (refl, (cc))
provided-Some false x y e = absurd (cc)
