-- What a table of places by name tells of declared items, what is looked up in it, and the numbers of what is declared.
use Rattle.std.proofs.Common.{◌≡◌, ℕ, zero, suc, ◌<◌, ◌≤◌, ◌+◌, inl, inr, Bool, true, false, cond, List, [], ◌∷◌, ◌++◌, length, map, flat_map, get_or, take, Option, Some, None, is_some, unwrap_or, string_bytes, refl, arith, subst, sym, ap, ◌∙◌}
use Rattle.std.specs.declared.alloc.Global.{Global}
use Rattle.std.specs.declared.string.String.{String}
use Rattle.std.specs.Str.{bytes_eq}
use Rattle.std.specs.BTreeMap.{get_by_text}
use Rattle.std.proofs.lemmas.Slice.Eq.{bytes_eq-Decides}
use Rattle.std.proofs.lemmas.Bool.{false≢true}
use Rattle.std.proofs.lemmas.List.{append-nil, append_assoc, map-append, take_more, take_all, length-append}
use Rattle.std.proofs.lemmas.List.Concat.{flat_map-append}
use Rattle.model.specs.declarations.Walks.{EachIs, IsFirstBad}
use Rattle.model.specs.declarations.Declarations.{Declared, DeclaredItem, DeclaredChain, plain_item, items_of, name_of, first_named, number_of, bounded, names_in, names_along, looked_up, holders_in, orders_before, orders_after, orders_in, plain_orders_in, neighbours, orders_along, plain_orders_along, from_each, hierarchy_of, declared_orders, plain_orders, silences_in, declared_silences}
use Rattle.model.specs.declarations.Refusals.{RepeatsName, IsKnown, KnowsNames}
use Rattle.schedule_builder.specs.declared.fault.BuildFault.{BuildFault}
use Rattle.schedule_builder.specs.declared.fault.BuildFault.TheVariants.{UnknownName}
use Rattle.schedule_builder.specs.Answers.{IsAnswered}
use Rattle.cycle_search.specs.declared.order.Order.{Order}
use Rattle.system_set.specs.Pairs.{pair_of, pairs_of}
use Rattle.schedule_builder.specs.Orders.{Places, IsPlaceAmong, TellsPlaces, IsLacking, IsWhole, link}
use Rattle.model.proofs.lists.Firsts.{EachIs-append, IsFirstBad-front, IsFirstBad-rest, each_in, first_here}

-- ---- one more name in the table

noted_by : (f : List ℕ → Option ℕ) (name : List ℕ) (number : ℕ) (x : List ℕ) (b : Bool) (o : Option ℕ) → is_some (f name) ≡ false → bytes_eq name x ≡ b → f x ≡ o → cond b (Some number) o ≡ cond b (Some (unwrap_or o number)) o
noted_by f name number x false o h e w = refl
noted_by f name number x true None h e w = refl
noted_by f name number x true (Some p) h e w =
    let same : name ≡ x = (bytes_eq-Decides name x).0 e in
    absurd (false≢true (sym h ∙ (ap (λ y. is_some (f y)) same ∙ ap is_some w)))

pub noted : (f : List ℕ → Option ℕ) (name : List ℕ) (number : ℕ) (x : List ℕ) → is_some (f name) ≡ false → cond (bytes_eq name x) (Some number) (f x) ≡ cond (bytes_eq name x) (Some (unwrap_or (f x) number)) (f x)
noted f name number x h = noted_by f name number x (bytes_eq name x) (f x) h refl refl

-- ---- repeated names

pub repeats : (d : Declared) (places : Places) (n p : ℕ) → TellsPlaces d places → get_by_text places (name_of d n) ≡ Some p → p < n → RepeatsName d n
repeats d places n p t e l =
    let found = subst (λ (o : Option ℕ). IsPlaceAmong d (length (items_of d)) (name_of d n) o) e (t.tells (name_of d n)) in
    (p, l, found.1)

pub repeats_not : (d : Declared) (places : Places) (n : ℕ) → TellsPlaces d places → n < length (items_of d) → (o : Option ℕ) → get_by_text places (name_of d n) ≡ o → ((p : ℕ) → o ≡ Some p → n ≤ p) → RepeatsName d n → ⊥
repeats_not d places n t l None e h r =
    let found = subst (λ (o : Option ℕ). IsPlaceAmong d (length (items_of d)) (name_of d n) o) e (t.tells (name_of d n)) in
    found n l refl
repeats_not d places n t l (Some p) e h r =
    let found = subst (λ (o : Option ℕ). IsPlaceAmong d (length (items_of d)) (name_of d n) o) e (t.tells (name_of d n)) in
    let high : n ≤ p = h p refl in
    found.2 r.0 (omega (arith, r.1, high)) r.2

-- ---- the number of a name

-- no item
abbrev pub no_item : DeclaredItem
no_item = plain_item []

named_here : (i : DeclaredItem) (items : List DeclaredItem) (x : List ℕ) → i.name ≡ x → first_named (i ∷ items) x ≡ 0
named_here i items x same = ap (λ (b : Bool). cond b 0 (suc (first_named items x))) ((bytes_eq-Decides i.name x).1 same)

named_later : (i : DeclaredItem) (items : List DeclaredItem) (x : List ℕ) → (i.name ≡ x → ⊥) → first_named (i ∷ items) x ≡ suc (first_named items x)
named_later i items x other = go (bytes_eq i.name x) refl
  where
    go : (b : Bool) → bytes_eq i.name x ≡ b → cond b 0 (suc (first_named items x)) ≡ suc (first_named items x)
    go true e = absurd (other ((bytes_eq-Decides i.name x).0 e))
    go false e = refl

first_named-is : (items : List DeclaredItem) (x : List ℕ) (p : ℕ) → p < length items → (get_or items p no_item).name ≡ x → ((m : ℕ) → m < p → (get_or items m no_item).name ≡ x → ⊥) → first_named items x ≡ p
first_named-is [] x p low here before = absurd (omega arith)
first_named-is (i ∷ items) x zero low here before = named_here i items x here
first_named-is (i ∷ items) x (suc p) low here before =
    named_later i items x (before 0 (omega arith)) ∙ ap suc (first_named-is items x p (omega arith) here (λ m l e. before (suc m) (omega arith) e))

-- ---- the number of a name, from the table

first_named-none : (items : List DeclaredItem) (x : List ℕ) → ((m : ℕ) → m < length items → (get_or items m no_item).name ≡ x → ⊥) → first_named items x ≡ length items
first_named-none [] x none = refl
first_named-none (i ∷ items) x none = named_later i items x (none 0 (omega arith)) ∙ ap suc (first_named-none items x (λ m l e. none (suc m) (omega arith) e))

place_by : (d : Declared) (x : List ℕ) (o : Option ℕ) → IsPlaceAmong d (length (items_of d)) x o → number_of d x ≡ unwrap_or o (length (items_of d))
place_by d x (Some p) h = first_named-is (items_of d) x p h.0 h.1 h.2
place_by d x None h = first_named-none (items_of d) x h

pub place_is : (d : Declared) (places : Places) (x : List ℕ) → TellsPlaces d places → number_of d x ≡ unwrap_or (get_by_text places x) (length (items_of d))
place_is d places x t = place_by d x (get_by_text places x) (t.tells x)

-- ---- names that are known

here_by : (i : DeclaredItem) (items : List DeclaredItem) (x : List ℕ) → (first_named items x < length items → (get_or items (first_named items x) no_item).name ≡ x) → (b : Bool) → bytes_eq i.name x ≡ b → first_named (i ∷ items) x < suc (length items)
    → (get_or (i ∷ items) (first_named (i ∷ items) x) no_item).name ≡ x
here_by i items x later true e l =
    let same : i.name ≡ x = (bytes_eq-Decides i.name x).0 e in
    subst (λ (k : ℕ). (get_or (i ∷ items) k no_item).name ≡ x) (sym (named_here i items x same)) same
here_by i items x later false e l =
    let other : first_named (i ∷ items) x ≡ suc (first_named items x) = ap (λ (b : Bool). cond b 0 (suc (first_named items x))) e in
    subst (λ (k : ℕ). (get_or (i ∷ items) k no_item).name ≡ x) (sym other) (later (omega (arith, other)))

first_named-here : (items : List DeclaredItem) (x : List ℕ) → first_named items x < length items → (get_or items (first_named items x) no_item).name ≡ x
first_named-here [] x l = absurd (omega arith)
first_named-here (i ∷ items) x l = here_by i items x (first_named-here items x) (bytes_eq i.name x) refl l

least_by : (i : DeclaredItem) (items : List DeclaredItem) (x : List ℕ) (n : ℕ) → first_named items x ≤ n → (b : Bool) → bytes_eq i.name x ≡ b → first_named (i ∷ items) x ≤ suc n
least_by i items x n low true f = let first : first_named (i ∷ items) x ≡ 0 = ap (λ (b : Bool). cond b 0 (suc (first_named items x))) f in omega arith
least_by i items x n low false f = let later : first_named (i ∷ items) x ≡ suc (first_named items x) = ap (λ (b : Bool). cond b 0 (suc (first_named items x))) f in omega arith

first_named-least : (items : List DeclaredItem) (x : List ℕ) (n : ℕ) → n < length items → (get_or items n no_item).name ≡ x → first_named items x ≤ n
first_named-least [] x n l e = absurd (omega arith)
first_named-least (i ∷ items) x zero l e = omega (arith, named_here i items x e)
first_named-least (i ∷ items) x (suc n) l e = least_by i items x n (first_named-least items x n (omega arith) e) (bytes_eq i.name x) refl

pub is_known : (d : Declared) (bound : ℕ) (x : List ℕ) → bound ≤ length (items_of d) → number_of d x < bound → IsKnown d (bound, x)
is_known d bound x few l = (number_of d x, l, first_named-here (items_of d) x (omega arith))

pub known_below : (d : Declared) (bound : ℕ) (x : List ℕ) → bound ≤ length (items_of d) → IsKnown d (bound, x) → number_of d x < bound
known_below d bound x few named =
    let low : named.0 < bound = named.1 in
    let least : number_of d x ≤ named.0 = first_named-least (items_of d) x named.0 (omega arith) named.2 in
    omega arith

-- ---- names that are looked up

-- a name with how many items it may name
abbrev pub with_bound : ℕ → String Global → ℕ × List ℕ
with_bound bound name = (bound, string_bytes name)

pub bounded-names : (bound : ℕ) (names : List (String Global)) → bounded bound (map string_bytes names) ≡ map (with_bound bound) names
bounded-names bound [] = refl
bounded-names bound (x ∷ names) = ap (λ ys. with_bound bound x ∷ ys) (bounded-names bound names)

pub lacks_here : (d : Declared) (bound : ℕ) (names : List (String Global)) (i : ℕ) (x told : String Global) → bound ≤ length (items_of d) → i < length names → x ≡ get_or names i x →
    EachIs (IsKnown d) (map (with_bound bound) (take i names)) → bound ≤ number_of d (string_bytes x) → string_bytes told ≡ string_bytes x → IsLacking d (bounded bound (map string_bytes names)) (UnknownName told)
lacks_here d bound names i x told few l e known high same = inr (record {
  name = told;
  told = refl;
  bound = bound;
  first =
      subst (λ ys. IsFirstBad (IsKnown d) (λ y. IsKnown d y → ⊥) ys (bound, string_bytes told)) (sym (bounded-names bound names))
      (subst (λ y. IsFirstBad (IsKnown d) (λ z. IsKnown d z → ⊥) (map (with_bound bound) names) (bound, y)) (sym same)
      (first_here (IsKnown d) (λ y. IsKnown d y → ⊥) (with_bound bound) names i x l e known
      (λ k. let low : number_of d (string_bytes x) < bound = known_below d bound (string_bytes x) few k in absurd (omega arith))));
})

pub lacking_front : (d : Declared) (xs ys : List (ℕ × List ℕ)) (fault : BuildFault) → IsLacking d xs fault → IsLacking d (xs ++ ys) fault
lacking_front d xs ys fault (inl e) = inl e
lacking_front d xs ys fault (inr h) = inr (record { name = h.name; told = h.told; bound = h.bound; first = IsFirstBad-front (IsKnown d) (λ x. IsKnown d x → ⊥) xs ys (h.bound, string_bytes h.name) h.first })

pub lacking_rest : (d : Declared) (xs ys : List (ℕ × List ℕ)) (fault : BuildFault) → EachIs (IsKnown d) xs → IsLacking d ys fault → IsLacking d (xs ++ ys) fault
lacking_rest d xs ys fault k (inl e) = inl e
lacking_rest d xs ys fault k (inr h) = inr (record { name = h.name; told = h.told; bound = h.bound; first = IsFirstBad-rest (IsKnown d) (λ x. IsKnown d x → ⊥) xs ys (h.bound, string_bytes h.name) k h.first })

pub known_both : (d : Declared) (xs ys : List (ℕ × List ℕ)) → EachIs (IsKnown d) xs → EachIs (IsKnown d) ys → EachIs (IsKnown d) (xs ++ ys)
known_both d xs ys h k = EachIs-append (IsKnown d) xs ys h k

-- what is lacking among all names is told
pub lacking_answered : (d : Declared) (fault : BuildFault) → IsLacking d (looked_up d) fault → IsAnswered d fault
lacking_answered d fault (inl e) = subst (λ (f : BuildFault). IsAnswered d f) (sym e) tt
lacking_answered d fault (inr h) = subst (λ (f : BuildFault). IsAnswered d f) (sym h.told) (record { bound = h.bound; first = h.first })

-- ---- one element after the other

-- the elements that a function makes of those before one, of this one, and of those after it
flat_map-split : {A B : Type 0} (f : A → List B) (xs : List A) (i : ℕ) (d : A) → i < length xs → (rest : List B) × (flat_map f xs ≡ flat_map f (take i xs) ++ (f (get_or xs i d) ++ rest))
flat_map-split f [] i d l = absurd (omega arith)
flat_map-split f (x ∷ xs) zero d l = (flat_map f xs, refl)
flat_map-split f (x ∷ xs) (suc i) d l =
    let r = flat_map-split f xs i d (omega arith) in
    (r.0, ap (λ ys. f x ++ ys) r.1 ∙ sym (append_assoc (f x) (flat_map f (take i xs)) (f (get_or xs i d) ++ r.0)))

pub flat_map-one_more : {A B : Type 0} (f : A → List B) (xs : List A) (i : ℕ) (d : A) → i < length xs → flat_map f (take (i + 1) xs) ≡ flat_map f (take i xs) ++ f (get_or xs i d)
flat_map-one_more f xs i d l = ap (flat_map f) (take_more xs i d l) ∙ (flat_map-append f (take i xs) (get_or xs i d ∷ []) ∙ ap (λ ys. flat_map f (take i xs) ++ ys) (append-nil (f (get_or xs i d))))

pub lacking_at : {A : Type 0} (d : Declared) (f : A → List (ℕ × List ℕ)) (xs : List A) (i : ℕ) (x : A) (fault : BuildFault) → i < length xs → EachIs (IsKnown d) (flat_map f (take i xs)) → IsLacking d (f (get_or xs i x)) fault → IsLacking d (flat_map f xs) fault
lacking_at d f xs i x fault l k h =
    let r = flat_map-split f xs i x l in
    subst (λ ys. IsLacking d ys fault) (sym r.1) (lacking_rest d (flat_map f (take i xs)) (f (get_or xs i x) ++ r.0) fault k (lacking_front d (f (get_or xs i x)) r.0 fault h))

pub known_more : {A : Type 0} (d : Declared) (f : A → List (ℕ × List ℕ)) (xs : List A) (i : ℕ) (x : A) → i < length xs → EachIs (IsKnown d) (flat_map f (take i xs)) → EachIs (IsKnown d) (f (get_or xs i x)) → EachIs (IsKnown d) (flat_map f (take (i + 1) xs))
known_more d f xs i x l k h = subst (λ ys. EachIs (IsKnown d) ys) (sym (flat_map-one_more f xs i x l)) (known_both d (flat_map f (take i xs)) (f (get_or xs i x)) k h)

pub known_all : {A : Type 0} (d : Declared) (f : A → List (ℕ × List ℕ)) (xs : List A) (i : ℕ) → length xs ≤ i → EachIs (IsKnown d) (flat_map f (take i xs)) → EachIs (IsKnown d) (flat_map f xs)
known_all d f xs i l k = subst (λ ys. EachIs (IsKnown d) (flat_map f ys)) (take_all i xs l) k

-- ---- one item more, and one chain more

from_each-more : {A : Type 0} (f : ℕ → DeclaredItem → List A) (n : ℕ) (items : List DeclaredItem) (i : ℕ) → i < length items → from_each f n (take (suc i) items) ≡ from_each f n (take i items) ++ f (n + i) (get_or items i no_item)
from_each-more f n [] i l = absurd (omega arith)
from_each-more f n (x ∷ items) zero l = append-nil (f n x) ∙ (let same : n ≡ n + 0 = omega arith in ap (λ (k : ℕ). f k x) same)
from_each-more f n (x ∷ items) (suc i) l =
    let same : suc n + i ≡ n + suc i = omega arith in
    ap (λ ys. f n x ++ ys) (from_each-more f (suc n) items i (omega arith) ∙ ap (λ (k : ℕ). from_each f (suc n) (take i items) ++ f k (get_or items i no_item)) same)
    ∙ sym (append_assoc (f n x) (from_each f (suc n) (take i items)) (f (n + suc i) (get_or items i no_item)))

pub from_each-next : {A : Type 0} (f : ℕ → DeclaredItem → List A) (items : List DeclaredItem) (i : ℕ) → i < length items → from_each f 0 (take (i + 1) items) ≡ from_each f 0 (take i items) ++ f i (get_or items i no_item)
from_each-next f items i l =
    let next : i + 1 ≡ suc i = omega arith in
    let same : 0 + i ≡ i = omega arith in
    ap (λ (k : ℕ). from_each f 0 (take k items)) next ∙ (from_each-more f 0 items i l ∙ ap (λ (k : ℕ). from_each f 0 (take i items) ++ f k (get_or items i no_item)) same)

pub from_each-all : {A : Type 0} (f : ℕ → DeclaredItem → List A) (items : List DeclaredItem) (i : ℕ) → length items ≤ i → from_each f 0 (take i items) ≡ from_each f 0 items
from_each-all f items i l = ap (from_each f 0) (take_all i items l)

pub sets_few : (d : Declared) → length d.sets ≤ length (items_of d)
sets_few d = rw (length-append d.sets (map (λ s. s.item) d.systems)) (omega arith)

-- ---- numbers are those of items

-- a pair of numbers below bounds
abbrev pub IsPairBelow : ℕ → ℕ → (ℕ × ℕ) → Type 0
IsPairBelow m n p = (p.0 < m) × (p.1 < n)

EachIs-front : {A : Type 0} (Good : A → Type 0) (xs ys : List A) → EachIs Good (xs ++ ys) → EachIs Good xs
EachIs-front Good [] ys h = tt
EachIs-front Good (x ∷ xs) ys h = (h.0, EachIs-front Good xs ys h.1)

EachIs-back : {A : Type 0} (Good : A → Type 0) (xs ys : List A) → EachIs Good (xs ++ ys) → EachIs Good ys
EachIs-back Good [] ys h = h
EachIs-back Good (x ∷ xs) ys h = EachIs-back Good xs ys h.1

-- what holds of all that a function makes holds of what it makes of each
each_of_flat : {A B : Type 0} (Good : B → Type 0) (f : A → List B) (xs : List A) → EachIs Good (flat_map f xs) → EachIs (λ x. EachIs Good (f x)) xs
each_of_flat Good f [] h = tt
each_of_flat Good f (x ∷ xs) h = (EachIs-front Good (f x) (flat_map f xs) h, each_of_flat Good f xs (EachIs-back Good (f x) (flat_map f xs) h))

flat_of_each : {A B : Type 0} (Fit : A → Type 0) (Good : B → Type 0) (f : A → List B) (xs : List A) → ((x : A) → Fit x → EachIs Good (f x)) → EachIs Fit xs → EachIs Good (flat_map f xs)
flat_of_each Fit Good f [] g h = tt
flat_of_each Fit Good f (x ∷ xs) g h = EachIs-append Good (f x) (flat_map f xs) (g x h.0) (flat_of_each Fit Good f xs g h.1)

from_of_each : {A : Type 0} (Fit : DeclaredItem → Type 0) (Good : A → Type 0) (f : ℕ → DeclaredItem → List A) (count n : ℕ) (items : List DeclaredItem) → n + length items ≤ count → ((m : ℕ) (i : DeclaredItem) → m < count → Fit i → EachIs Good (f m i)) → EachIs Fit items
    → EachIs Good (from_each f n items)
from_of_each Fit Good f count n [] l g h = tt
from_of_each Fit Good f count n (i ∷ items) l g h = EachIs-append Good (f n i) (from_each f (suc n) items) (g n i (omega arith) h.0) (from_of_each Fit Good f count (suc n) items (omega arith) g h.1)

before_below : (d : Declared) (count bound n : ℕ) (names : List (List ℕ)) → n < count → bound ≤ length (items_of d) → EachIs (IsKnown d) (bounded bound names) → EachIs (IsPairBelow count bound) (orders_before d n names)
before_below d count bound n [] l few h = tt
before_below d count bound n (x ∷ names) l few h = ((l, known_below d bound x few h.0), before_below d count bound n names l few h.1)

after_below : (d : Declared) (count bound n : ℕ) (names : List (List ℕ)) → n < count → bound ≤ length (items_of d) → EachIs (IsKnown d) (bounded bound names) → EachIs (IsPairBelow bound count) (orders_after d n names)
after_below d count bound n [] l few h = tt
after_below d count bound n (x ∷ names) l few h = ((known_below d bound x few h.0, l), after_below d count bound n names l few h.1)

neighbours_below : (d : Declared) (names : List (List ℕ)) → EachIs (IsKnown d) (bounded (length (items_of d)) names) → EachIs (IsPairBelow (length (items_of d)) (length (items_of d))) (neighbours (map (number_of d) names))
neighbours_below d [] h = tt
neighbours_below d (x ∷ []) h = tt
neighbours_below d (x ∷ y ∷ names) h =
    ((known_below d (length (items_of d)) x (omega arith) h.0, known_below d (length (items_of d)) y (omega arith) h.1.0), neighbours_below d (y ∷ names) h.1)

-- the parts of the names of an item
abbrev IsItemKnown : Declared → DeclaredItem → Type 0
IsItemKnown d i = EachIs (IsKnown d) (names_in (length d.sets) (length (items_of d)) i)

record PartsKnown (d : Declared) (i : DeclaredItem) : Type 0 where
  inside : EachIs (IsKnown d) (bounded (length d.sets) i.inside)
  before : EachIs (IsKnown d) (bounded (length (items_of d)) i.before)
  after : EachIs (IsKnown d) (bounded (length (items_of d)) i.after)
  before_ignore : EachIs (IsKnown d) (bounded (length (items_of d)) i.before_ignore_deferred)
  after_ignore : EachIs (IsKnown d) (bounded (length (items_of d)) i.after_ignore_deferred)
  ambiguous : EachIs (IsKnown d) (bounded (length (items_of d)) i.ambiguous_with)

parts_of : (d : Declared) (i : DeclaredItem) → IsItemKnown d i → PartsKnown d i
parts_of d i h =
    let count : ℕ = length (items_of d) in
    let a = bounded (length d.sets) i.inside in
    let b = bounded count i.before in
    let e = bounded count i.after in
    let f = bounded count i.before_ignore_deferred in
    let g = bounded count i.after_ignore_deferred in
    let k = bounded count i.ambiguous_with in
    let h1 = EachIs-back (IsKnown d) a (b ++ (e ++ (f ++ (g ++ k)))) h in
    let h2 = EachIs-back (IsKnown d) b (e ++ (f ++ (g ++ k))) h1 in
    let h3 = EachIs-back (IsKnown d) e (f ++ (g ++ k)) h2 in
    let h4 = EachIs-back (IsKnown d) f (g ++ k) h3 in
    record {
      inside = EachIs-front (IsKnown d) a (b ++ (e ++ (f ++ (g ++ k)))) h;
      before = EachIs-front (IsKnown d) b (e ++ (f ++ (g ++ k))) h1;
      after = EachIs-front (IsKnown d) e (f ++ (g ++ k)) h2;
      before_ignore = EachIs-front (IsKnown d) f (g ++ k) h3;
      after_ignore = EachIs-front (IsKnown d) g k h4;
      ambiguous = EachIs-back (IsKnown d) g k h4;
    }

plain_below : (d : Declared) (m : ℕ) (i : DeclaredItem) → m < length (items_of d) → IsItemKnown d i → EachIs (IsPairBelow (length (items_of d)) (length (items_of d))) (plain_orders_in d m i)
plain_below d m i l h =
    let p = parts_of d i h in
    let count : ℕ = length (items_of d) in
    EachIs-append (IsPairBelow count count) (orders_before d m i.before) (orders_after d m i.after) (before_below d count count m i.before l (omega arith) p.before) (after_below d count count m i.after l (omega arith) p.after)

orders_below : (d : Declared) (m : ℕ) (i : DeclaredItem) → m < length (items_of d) → IsItemKnown d i → EachIs (IsPairBelow (length (items_of d)) (length (items_of d))) (orders_in d m i)
orders_below d m i l h =
    let p = parts_of d i h in
    let count : ℕ = length (items_of d) in
    let more : List (ℕ × ℕ) = orders_before d m i.before_ignore_deferred ++ orders_after d m i.after_ignore_deferred in
    EachIs-append (IsPairBelow count count) (plain_orders_in d m i) more (plain_below d m i l h)
    (EachIs-append (IsPairBelow count count) (orders_before d m i.before_ignore_deferred) (orders_after d m i.after_ignore_deferred)
    (before_below d count count m i.before_ignore_deferred l (omega arith) p.before_ignore) (after_below d count count m i.after_ignore_deferred l (omega arith) p.after_ignore))

plain_along_below : (d : Declared) (c : DeclaredChain) → EachIs (IsKnown d) (names_along (length (items_of d)) c) → (b : Bool) → EachIs (IsPairBelow (length (items_of d)) (length (items_of d))) (cond b [] (orders_along d c))
plain_along_below d c h true = tt
plain_along_below d c h false = neighbours_below d c.items h

-- where all names are known, what is declared is of items
pub whole_of : (d : Declared) → KnowsNames d → IsWhole d
whole_of d k =
    let count : ℕ = length (items_of d) in
    let sets : ℕ = length d.sets in
    let named = flat_map (names_in sets count) (items_of d) in
    let along = flat_map (names_along count) d.chains in
    let items : EachIs (IsItemKnown d) (items_of d) = each_of_flat (IsKnown d) (names_in sets count) (items_of d) (EachIs-front (IsKnown d) named along k) in
    let chains = each_of_flat (IsKnown d) (names_along count) d.chains (EachIs-back (IsKnown d) named along k) in
    let inside = from_of_each (IsItemKnown d) (IsPairBelow count sets) (holders_in d) count 0 (items_of d) (omega arith) (λ m i l h. before_below d count sets m i.inside l (sets_few d) (parts_of d i h).inside) items in
    let ordered = EachIs-append (IsPairBelow count count) (from_each (orders_in d) 0 (items_of d)) (flat_map (orders_along d) d.chains)
    (from_of_each (IsItemKnown d) (IsPairBelow count count) (orders_in d) count 0 (items_of d) (omega arith) (orders_below d) items)
    (flat_of_each (λ c. EachIs (IsKnown d) (names_along count c)) (IsPairBelow count count) (orders_along d) d.chains (λ c h. neighbours_below d c.items h) chains) in
    let plainly = EachIs-append (IsPairBelow count count) (from_each (plain_orders_in d) 0 (items_of d)) (flat_map (plain_orders_along d) d.chains)
    (from_of_each (IsItemKnown d) (IsPairBelow count count) (plain_orders_in d) count 0 (items_of d) (omega arith) (plain_below d) items)
    (flat_of_each (λ c. EachIs (IsKnown d) (names_along count c)) (IsPairBelow count count) (plain_orders_along d) d.chains (λ c h. plain_along_below d c h c.ignores_deferred) chains) in
    let silenced = from_of_each (IsItemKnown d) (IsPairBelow count count) (silences_in d) count 0 (items_of d) (omega arith) (λ m i l h. before_below d count count m i.ambiguous_with l (omega arith) (parts_of d i h).ambiguous) items in
    record {
      held = λ item holder h. each_in (IsPairBelow count sets) (hierarchy_of d).inside inside (item, holder) h;
      ordered = λ m n h. each_in (IsPairBelow count count) (declared_orders d) ordered (m, n) h;
      plainly = λ m n h. each_in (IsPairBelow count count) (plain_orders d) plainly (m, n) h;
      silenced = λ m n h. each_in (IsPairBelow count count) (declared_silences d) silenced (m, n) h;
    }

-- ---- the same names, and the same items

pub lacks_as : (d : Declared) (bound : ℕ) (xs ys : List (List ℕ)) (fault : BuildFault) → xs ≡ ys → IsLacking d (bounded bound xs) fault → IsLacking d (bounded bound ys) fault
lacks_as d bound xs ys fault e h = subst (λ (zs : List (List ℕ)). IsLacking d (bounded bound zs) fault) e h

pub knows_as : (d : Declared) (bound : ℕ) (xs ys : List (List ℕ)) → xs ≡ ys → EachIs (IsKnown d) (bounded bound xs) → EachIs (IsKnown d) (bounded bound ys)
knows_as d bound xs ys e h = subst (λ (zs : List (List ℕ)). EachIs (IsKnown d) (bounded bound zs)) e h

pub item_lacks : (d : Declared) (s t k l : ℕ) (i j : DeclaredItem) (fault : BuildFault) → s ≡ t → k ≡ l → i ≡ j → IsLacking d (names_in s k i) fault → IsLacking d (names_in t l j) fault
item_lacks d s t k l i j fault e f g h =
    subst (λ (x : DeclaredItem). IsLacking d (names_in t l x) fault) g (subst (λ (x : ℕ). IsLacking d (names_in t x i) fault) f (subst (λ (x : ℕ). IsLacking d (names_in x k i) fault) e h))

pub item_knows : (d : Declared) (s t k l : ℕ) (i j : DeclaredItem) → s ≡ t → k ≡ l → i ≡ j → EachIs (IsKnown d) (names_in s k i) → EachIs (IsKnown d) (names_in t l j)
item_knows d s t k l i j e f g h =
    subst (λ (x : DeclaredItem). EachIs (IsKnown d) (names_in t l x)) g (subst (λ (x : ℕ). EachIs (IsKnown d) (names_in t x i)) f (subst (λ (x : ℕ). EachIs (IsKnown d) (names_in x k i)) e h))

-- ---- the six lists of names of an item

pub known_six : (d : Declared) (s k : ℕ) (i : DeclaredItem) → EachIs (IsKnown d) (bounded s i.inside) → EachIs (IsKnown d) (bounded k i.before) → EachIs (IsKnown d) (bounded k i.after) → EachIs (IsKnown d) (bounded k i.before_ignore_deferred) → EachIs (IsKnown d) (bounded k i.after_ignore_deferred) → EachIs (IsKnown d) (bounded k i.ambiguous_with)
    → EachIs (IsKnown d) (names_in s k i)
known_six d s k i p q r t u v =
    known_both d (bounded s i.inside) (bounded k i.before ++ (bounded k i.after ++ (bounded k i.before_ignore_deferred ++ (bounded k i.after_ignore_deferred ++ bounded k i.ambiguous_with)))) p
    (known_both d (bounded k i.before) (bounded k i.after ++ (bounded k i.before_ignore_deferred ++ (bounded k i.after_ignore_deferred ++ bounded k i.ambiguous_with))) q
    (known_both d (bounded k i.after) (bounded k i.before_ignore_deferred ++ (bounded k i.after_ignore_deferred ++ bounded k i.ambiguous_with)) r
    (known_both d (bounded k i.before_ignore_deferred) (bounded k i.after_ignore_deferred ++ bounded k i.ambiguous_with) t
    (known_both d (bounded k i.after_ignore_deferred) (bounded k i.ambiguous_with) u v))))

-- ---- orders, one after the other

-- the order of an item before one of a name, and after it; and the number of a name
abbrev pub before_name : Declared → ℕ → String Global → ℕ × ℕ
before_name d n name = (n, number_of d (string_bytes name))

abbrev pub after_name : Declared → ℕ → String Global → ℕ × ℕ
after_name d n name = (number_of d (string_bytes name), n)

abbrev pub place_name : Declared → String Global → ℕ
place_name d name = number_of d (string_bytes name)

pub before_names : (d : Declared) (n : ℕ) (names : List (String Global)) → map (before_name d n) names ≡ orders_before d n (map string_bytes names)
before_names d n [] = refl
before_names d n (x ∷ names) = ap (λ ys. before_name d n x ∷ ys) (before_names d n names)

pub after_names : (d : Declared) (n : ℕ) (names : List (String Global)) → map (after_name d n) names ≡ orders_after d n (map string_bytes names)
after_names d n [] = refl
after_names d n (x ∷ names) = ap (λ ys. after_name d n x ∷ ys) (after_names d n names)

pub place_names : (d : Declared) (names : List (String Global)) → map (place_name d) names ≡ map (number_of d) (map string_bytes names)
place_names d [] = refl
place_names d (x ∷ names) = ap (λ ys. place_name d x ∷ ys) (place_names d names)

take_next : (names : List (String Global)) (i : ℕ) (x : String Global) → i < length names → x ≡ get_or names i x → take (i + 1) names ≡ take i names ++ x ∷ []
take_next names i x l e = take_more names i x l ∙ ap (λ (y : String Global). take i names ++ y ∷ []) (sym e)

pub pushed_pair : (g : String Global → ℕ × ℕ) (names : List (String Global)) (i : ℕ) (x : String Global) (base : List (ℕ × ℕ)) (old new : List Order) (o : Order) → i < length names → x ≡ get_or names i x →
    pairs_of old ≡ base ++ map g (take i names) → pair_of o ≡ g x → new ≡ old ++ o ∷ [] → pairs_of new ≡ base ++ map g (take (i + 1) names)
pushed_pair g names i x base old new o l e inv same pushed =
    ap pairs_of pushed
    ∙ (map-append pair_of old (o ∷ [])
    ∙ (ap (λ ps. ps ++ pair_of o ∷ []) inv
    ∙ (append_assoc base (map g (take i names)) (pair_of o ∷ [])
    ∙ ap (λ ps. base ++ ps)
    (ap (λ (p : ℕ × ℕ). map g (take i names) ++ p ∷ []) same
    ∙ (sym (map-append g (take i names) (x ∷ [])) ∙ ap (map g) (sym (take_next names i x l e)))))))

pub pushed_all : (g : String Global → ℕ × ℕ) (names : List (String Global)) (i : ℕ) (base qs : List (ℕ × ℕ)) (orders : List Order) → length names ≤ i → map g names ≡ qs → pairs_of orders ≡ base ++ map g (take i names) → pairs_of orders ≡ base ++ qs
pushed_all g names i base qs orders l e inv = inv ∙ ap (λ ps. base ++ ps) (ap (map g) (take_all i names l) ∙ e)

pub from_more : (f : ℕ → DeclaredItem → List (ℕ × ℕ)) (items : List DeclaredItem) (i : ℕ) (old new more : List (ℕ × ℕ)) → i < length items → old ≡ from_each f 0 (take i items) → new ≡ old ++ more → more ≡ f i (get_or items i no_item) → new ≡ from_each f 0 (take (i + 1) items)
from_more f items i old new more l inv pushed same = pushed ∙ (ap (λ ps. ps ++ more) inv ∙ (ap (λ ps. from_each f 0 (take i items) ++ ps) same ∙ sym (from_each-next f items i l)))

pub flat_more : {A : Type 0} (f : A → List (ℕ × ℕ)) (xs : List A) (i : ℕ) (x : A) (base old new : List (ℕ × ℕ)) → i < length xs → x ≡ get_or xs i x → old ≡ base ++ flat_map f (take i xs) → new ≡ old ++ f x → new ≡ base ++ flat_map f (take (i + 1) xs)
flat_more f xs i x base old new l e inv pushed =
    pushed
    ∙ (ap (λ ps. ps ++ f x) inv
    ∙ (append_assoc base (flat_map f (take i xs)) (f x)
    ∙ ap (λ ps. base ++ ps) (ap (λ y. flat_map f (take i xs) ++ f y) e ∙ sym (flat_map-one_more f xs i x l))))

pub flat_all : {A : Type 0} (f : A → List (ℕ × ℕ)) (xs ys : List A) (i : ℕ) (base all : List (ℕ × ℕ)) → length xs ≤ i → xs ≡ ys → all ≡ base ++ flat_map f (take i xs) → all ≡ base ++ flat_map f ys
flat_all f xs ys i base all l e inv = inv ∙ ap (λ zs. base ++ flat_map f zs) (take_all i xs l ∙ e)

pub flat_none : (base all : List (ℕ × ℕ)) → all ≡ base → all ≡ base ++ []
flat_none base all e = e ∙ sym (append-nil base)

-- ---- the orders of a chain, one after the other

-- the last of some numbers
abbrev pub last_number : List ℕ → Option ℕ
last_number [] = None
last_number (n ∷ []) = Some n
last_number (m ∷ n ∷ ns) = last_number (n ∷ ns)

neighbours_push : (ns : List ℕ) (n : ℕ) → neighbours (ns ++ n ∷ []) ≡ neighbours ns ++ link (last_number ns) n
neighbours_push [] n = refl
neighbours_push (m ∷ []) n = refl
neighbours_push (m ∷ k ∷ ns) n = ap (λ ps. (m, k) ∷ ps) (neighbours_push (k ∷ ns) n)

last_push : (ns : List ℕ) (n : ℕ) → last_number (ns ++ n ∷ []) ≡ Some n
last_push [] n = refl
last_push (m ∷ []) n = refl
last_push (m ∷ k ∷ ns) n = last_push (k ∷ ns) n

-- the orders of the first so many items of a chain, and the number of the last of these
pub record IsAlong (d : Declared) (base : List (ℕ × ℕ)) (names : List (String Global)) (i : ℕ) (previous : Option ℕ) (pairs : List (ℕ × ℕ)) : Type 0 where
  pub last : previous ≡ last_number (map (place_name d) (take i names))
  pub along : pairs ≡ base ++ neighbours (map (place_name d) (take i names))

numbers_next : (d : Declared) (names : List (String Global)) (i : ℕ) (x : String Global) → i < length names → x ≡ get_or names i x → map (place_name d) (take (i + 1) names) ≡ map (place_name d) (take i names) ++ place_name d x ∷ []
numbers_next d names i x l e = ap (map (place_name d)) (take_next names i x l e) ∙ map-append (place_name d) (take i names) (x ∷ [])

pub along_none : (d : Declared) (base pairs : List (ℕ × ℕ)) (names : List (String Global)) → pairs ≡ base → IsAlong d base names 0 None pairs
along_none d base pairs names e = record { last = refl; along = e ∙ sym (append-nil base) }

pub along_more : (d : Declared) (base : List (ℕ × ℕ)) (names : List (String Global)) (i : ℕ) (x : String Global) (previous : Option ℕ) (old new : List (ℕ × ℕ)) (place : ℕ) → i < length names → x ≡ get_or names i x → IsAlong d base names i previous old →
    place ≡ number_of d (string_bytes x) → new ≡ old ++ link previous place → IsAlong d base names (i + 1) (Some place) new
along_more d base names i x previous old new place l e h same pushed =
    let before : List ℕ = map (place_name d) (take i names) in
    record {
      last = ap (λ (n : ℕ). Some n) same ∙ (sym (last_push before (place_name d x)) ∙ ap last_number (sym (numbers_next d names i x l e)));
      along =
          pushed
          ∙ (ap (λ (n : ℕ). old ++ link previous n) same
          ∙ (ap (λ (o : Option ℕ). old ++ link o (place_name d x)) h.last
          ∙ (ap (λ ps. ps ++ link (last_number before) (place_name d x)) h.along
          ∙ (append_assoc base (neighbours before) (link (last_number before) (place_name d x))
          ∙ ap (λ ps. base ++ ps) (sym (neighbours_push before (place_name d x)) ∙ ap neighbours (sym (numbers_next d names i x l e)))))));
    }

pub along_all : (d : Declared) (base : List (ℕ × ℕ)) (names : List (String Global)) (i : ℕ) (previous : Option ℕ) (pairs : List (ℕ × ℕ)) (items : List (List ℕ)) → length names ≤ i → map string_bytes names ≡ items → IsAlong d base names i previous pairs →
    pairs ≡ base ++ neighbours (map (number_of d) items)
along_all d base names i previous pairs items l e h =
    h.along ∙ ap (λ (ns : List ℕ). base ++ neighbours ns) (ap (map (place_name d)) (take_all i names l) ∙ (place_names d names ∙ ap (map (number_of d)) e))
