-- What is refused: that nothing at all is what was looked for.
use Rattle.std.proofs.Common.{◌≡◌, ◌∙◌, ◌↔◌, ℕ, ℤ, zero, suc, ◌<◌, Bool, true, false, IsTrue, All, Some, List, [], ◌∷◌, length, map, get_or, Result, Ok, Err, IfErr, IsErrAnd, MatchResult, Bor, refl, ap, sym, subst, arith}
use Rattle.std.proofs.lemmas.List.Elements.{All-from_recursion}
use Rattle.std.specs.List.{AllZip, AllByRecursion}
use Rattle.parsing.specs.Reads.{Refuses}
use Rattle.parsing.specs.declared.read_error.ReadError.{ReadError}
use Rattle.parsing.specs.declared.read_error.ReadError.TheVariants as error
use Rattle.toml.specs.Data.{Data, Members, string, integer, array, table}
use Rattle.toml.specs.View.{view, items_of}
use Rattle.toml.specs.declared.value.Value.{Value as TomlValue}
use Rattle.program_file.specs.Keys.{HasItems, HasTexts, HasNames, HasTable, HasTables, AreIntegers}
use Rattle.tokens.specs.Name.{IsName}
use Rattle.program_file.specs.Readings.{AreSpelled}
use Rattle.program_file.specs.PlaceFault.{NoneIs, NoneIsAt, fault_at, place_fault_of}
use Rattle.program_file.specs.declared.place.Place.{Place}
use Rattle.program_file.specs.declared.fault.FileFault.{FileFault}
use Rattle.program_file.specs.declared.fault.FileFault.TheVariants as file
use Rattle.program_file.specs.declared.place_fault.PlaceFault.{PlaceFault}
use Rattle.program_file.specs.declared.place_fault.PlaceFault.TheVariants.{Value, Text, Memory}

-- ---- faults

-- nothing is what has a part that nothing is
pub NoneIs-part : {X Y : Type 0} (P : X → Type 0) (Q : Y → Type 0) (fault : PlaceFault) → ((y : Y) → Q y → (x : X) × P x) → NoneIs P fault → NoneIs Q fault
NoneIs-part P Q Value part h = λ y q. let (x, p) = part y q in h x p
NoneIs-part P Q Text part h = λ y q. let (x, p) = part y q in h x p
NoneIs-part P Q Memory part h = tt

-- nothing is it, whatever the fault is
pub NoneIs-never : {X : Type 0} (P : X → Type 0) (fault : PlaceFault) → ((x : X) → P x → ⊥) → NoneIs P fault
NoneIs-never P Value h = h
NoneIs-never P Text h = h
NoneIs-never P Memory h = tt

-- the exit of a `?` with a fault
pub NoneIs-exit : {X T : Type 0} (P : X → Type 0) (r : Result T PlaceFault) (fault : PlaceFault) → IsErrAnd r (λ told. told ≡ fault) → NoneIs P fault → IfErr r (NoneIs P)
NoneIs-exit P (Ok x) fault told h = absurd told
NoneIs-exit P (Err e) fault told h = subst (NoneIs P) (sym told) h

-- nothing is what has a part that nothing is
pub NoneIsAt-part : {X Y : Type 0} (P : X → Type 0) (Q : Y → Type 0) (fault : FileFault) → ((y : Y) → Q y → (x : X) × P x) → NoneIsAt P fault → NoneIsAt Q fault
NoneIsAt-part P Q file.Document part h = absurd h
NoneIsAt-part P Q (file.Value place) part h = λ y q. let (x, p) = part y q in h x p
NoneIsAt-part P Q (file.Text place) part h = λ y q. let (x, p) = part y q in h x p
NoneIsAt-part P Q file.Memory part h = tt

-- ---- lists

-- a list that is mapped has at each place what the other has there
pub mapped-at : {A B C : Type 0} (f : A → C) (g : B → C) (xs : List A) (ys : List B) (i : ℕ) (d : B) → map g ys ≡ map f xs → i < length ys → (x : A) × (g (get_or ys i d) ≡ f x)
mapped-at f g [] [] i d e below = absurd (omega (arith, below))
mapped-at f g (x ∷ xs) [] i d e below = absurd (omega (arith, below))
mapped-at f g [] (y ∷ ys) i d e below = absurd (let no : g y ∷ map g ys ≡ [] = e in cc)
mapped-at f g (x ∷ xs) (y ∷ ys) zero d e below = (x, let same : g y ∷ map g ys ≡ f x ∷ map f xs = e in cc)
mapped-at f g (x ∷ xs) (y ∷ ys) (suc i) d e below = mapped-at f g xs ys i d (let same : g y ∷ map g ys ≡ f x ∷ map f xs = e in cc) (omega (arith, below))

-- lists that are mapped to one list are one
pub mapped-one : {A C : Type 0} (f : A → C) → ((x y : A) → f x ≡ f y → x ≡ y) → (xs ys : List A) → map f xs ≡ map f ys → xs ≡ ys
mapped-one f apart [] [] e = refl
mapped-one f apart [] (y ∷ ys) e = absurd (let no : [] ≡ f y ∷ map f ys = e in cc)
mapped-one f apart (x ∷ xs) [] e = absurd (let no : f x ∷ map f xs ≡ [] = e in cc)
mapped-one f apart (x ∷ xs) (y ∷ ys) e =
    let same : f x ∷ map f xs ≡ f y ∷ map f ys = e in
    let heads : x ≡ y = apart x y (cc) in
    let tails : xs ≡ ys = mapped-one f apart xs ys (cc) in
    cc

-- what is beside an element
pub zip-at : {A B : Type 0} (R : A → B → Type 0) (xs : List A) (ys : List B) (i : ℕ) (d : A) → AllZip R xs ys → i < length xs → (y : B) × R (get_or xs i d) y
zip-at R [] ys i d h below = absurd (omega (arith, below))
zip-at R (x ∷ xs) [] i d h below = absurd h
zip-at R (x ∷ xs) (y ∷ ys) zero d h below = (y, h.0)
zip-at R (x ∷ xs) (y ∷ ys) (suc i) d h below = zip-at R xs ys i d h.1 (omega (arith, below))

-- the same of what is seen of one side
pub zip-seen : {A B C : Type 0} (R : A → B → Type 0) (f : C → A) (xs : List C) (ys : List B) → AllZip R (map f xs) ys → AllZip (λ x y. R (f x) y) xs ys
zip-seen R f [] [] h = tt
zip-seen R f [] (y ∷ ys) h = absurd h
zip-seen R f (x ∷ xs) [] h = absurd h
zip-seen R f (x ∷ xs) (y ∷ ys) h = (h.0, zip-seen R f xs ys h.1)

-- an element beside which nothing stands
pub zip-refused : {A B : Type 0} (R : A → B → Type 0) (xs : List A) (i : ℕ) (x d : A) (fault : PlaceFault) → i < length xs → x ≡ get_or xs i d → NoneIs (R x) fault → NoneIs (AllZip R xs) fault
zip-refused {A} R xs i x d fault below is =
    NoneIs-part (R x) (AllZip R xs) fault (λ ys h. let (y, r) = zip-at R xs ys i d h below in (y, subst (λ (z : A). R z y) (sym is) r))

pub zip-refused-at : {A B : Type 0} (R : A → B → Type 0) (xs : List A) (i : ℕ) (x d : A) (fault : FileFault) → i < length xs → x ≡ get_or xs i d → NoneIsAt (R x) fault → NoneIsAt (AllZip R xs) fault
zip-refused-at {A} R xs i x d fault below is =
    NoneIsAt-part (R x) (AllZip R xs) fault (λ ys h. let (y, r) = zip-at R xs ys i d h below in (y, subst (λ (z : A). R z y) (sym is) r))

-- ---- the one list at a key

pub items_of-one : (xs ys : List Data) → items_of xs ≡ items_of ys → xs ≡ ys
items_of-one [] [] e = refl
items_of-one [] (y ∷ ys) e = absurd (let no : items_of [] ≡ items_of (y ∷ ys) = e in cc)
items_of-one (x ∷ xs) [] e = absurd (let no : items_of (x ∷ xs) ≡ items_of [] = e in cc)
items_of-one (x ∷ xs) (y ∷ ys) e =
    let same : items_of (x ∷ xs) ≡ items_of (y ∷ ys) = e in
    let tails : xs ≡ ys = items_of-one xs ys (cc) in
    let heads : x ≡ y = cc in
    cc

pub one-list : (key : List ℕ) (owner : Members) (xs ys : List Data) → HasItems key xs owner → HasItems key ys owner → xs ≡ ys
one-list key owner xs ys h k = items_of-one xs ys (let same : Some (items_of xs) ≡ Some (items_of ys) = sym h ∙ k in cc)

pub one-texts : (key : List ℕ) (owner : Members) (xs ys : List (List ℕ)) → HasTexts key xs owner → HasTexts key ys owner → xs ≡ ys
one-texts key owner xs ys h k = mapped-one string (λ x y e. let same : string x ≡ string y = e in cc) xs ys (one-list key owner (map string xs) (map string ys) h k)

pub one-tables : (key : List ℕ) (owner : Members) (xs ys : List Members) → HasTables key xs owner → HasTables key ys owner → xs ≡ ys
one-tables key owner xs ys h k = mapped-one table (λ x y e. let same : table x ≡ table y = e in cc) xs ys (one-list key owner (map table xs) (map table ys) h k)

-- an item that is none of what the list is of
pub list-refused : {X : Type 0} (f : X → Data) (key : List ℕ) (owner : Members) (items : List TomlValue) (i : ℕ) (item d : TomlValue) (fault : PlaceFault)
    → HasItems key (map view items) owner → i < length items → item ≡ get_or items i d → NoneIs (λ (x : X). view item ≡ f x) fault → NoneIs (λ (xs : List X). HasItems key (map f xs) owner) fault
list-refused {X} f key owner items i item d fault there below is =
    NoneIs-part (λ (x : X). view item ≡ f x) (λ (xs : List X). HasItems key (map f xs) owner) fault
    (λ xs h. let (x, e) = mapped-at f view xs items i d (one-list key owner (map view items) (map f xs) there h) below in (x, ap view is ∙ e))

-- the same of the array that a value is
pub integers-refused : (value : Data) (items : List TomlValue) (i : ℕ) (item d : TomlValue) (fault : PlaceFault)
    → value ≡ array (items_of (map view items)) → i < length items → item ≡ get_or items i d → NoneIs (λ (n : ℤ). view item ≡ integer n) fault → NoneIs (λ (ns : List ℤ). AreIntegers ns value) fault
integers-refused value items i item d fault there below is =
    NoneIs-part (λ (n : ℤ). view item ≡ integer n) (λ (ns : List ℤ). AreIntegers ns value) fault
    (λ ns h.
    let both : array (items_of (map view items)) ≡ array (items_of (map integer ns)) = sym there ∙ h in
    let (n, e) = mapped-at integer view ns items i d (items_of-one (map view items) (map integer ns) (cc)) below in
    (n, ap view is ∙ e))

-- a text that is the name of none
pub named-refused : {X : Type 0} (name_of : X → List ℕ) (key : List ℕ) (owner : Members) (names : List (Bor (List ℕ))) (i : ℕ) (name d : Bor (List ℕ)) (fault : PlaceFault)
    → HasNames key names owner → i < length names → name ≡ get_or names i d → ((x : X) → name.now ≡ name_of x → ⊥) → NoneIs (λ (xs : List X). HasTexts key (map name_of xs) owner) fault
named-refused {X} name_of key owner names i name d fault there below is none =
    NoneIs-never (λ (xs : List X). HasTexts key (map name_of xs) owner) fault
    (λ xs h.
    let (x, e) = mapped-at name_of (λ (n : Bor (List ℕ)). n.now) xs names i d (one-texts key owner (map (λ (n : Bor (List ℕ)). n.now) names) (map name_of xs) there h) below in
    none x (ap (λ (n : Bor (List ℕ)). n.now) is ∙ e))

-- ---- names

seen-all : {A B : Type 0} (P : B → Type 0) (f : A → B) (xs : List A) → AllByRecursion P (map f xs) → AllByRecursion (λ x. P (f x)) xs
seen-all P f [] h = tt
seen-all P f (x ∷ xs) h = (h.0, seen-all P f xs h.1)

-- texts of which some is no name
pub names-refused : (key : List ℕ) (owner : Members) (names : List (Bor (List ℕ))) (b : Bool) → b ≡ false → IsTrue b ↔ All (λ (n : Bor (List ℕ)). IsName n.now) names → HasNames key names owner
    → (texts : List (List ℕ)) → HasTexts key texts owner × AllByRecursion IsName texts → ⊥
names-refused key owner names b is says there texts (h, named) =
    let same : texts ≡ map (λ (n : Bor (List ℕ)). n.now) names = one-texts key owner texts (map (λ (n : Bor (List ℕ)). n.now) names) h there in
    let all : All (λ (n : Bor (List ℕ)). IsName n.now) names =
    All-from_recursion (λ (n : Bor (List ℕ)). IsName n.now) names (seen-all IsName (λ (n : Bor (List ℕ)). n.now) names (subst (λ (ts : List (List ℕ)). AllByRecursion IsName ts) same named)) in
    let yes : b ≡ true = says.1 all in
    let no : true ≡ false = sym yes ∙ is in absurd (cc)

-- ---- texts that are read

spelled-at : {A : Type 0} (Spells : A → List ℕ → Type 0) (xs : List A) (texts : List (Bor (List ℕ))) (i : ℕ) (d : Bor (List ℕ)) → AreSpelled Spells xs (map (λ text. text.now) texts) → i < length texts
    → (x : A) × Spells x ((get_or texts i d).now)
spelled-at Spells xs [] i d h below = absurd (omega (arith, below))
spelled-at Spells [] (t ∷ ts) i d h below = absurd h
spelled-at Spells (x ∷ xs) (t ∷ ts) zero d h below = (x, h.0.0)
spelled-at Spells (x ∷ xs) (t ∷ ts) (suc i) d h below = spelled-at Spells xs ts i d h.1 (omega (arith, below))

-- the error of a reader, as a fault
refuses-told : {A : Type 0} (Spells : A → List ℕ → Type 0) (text : List ℕ) (e : ReadError) → Refuses Spells text e → NoneIs (λ (x : A). Spells x text) (place_fault_of e)
refuses-told Spells text error.Outside h = h
refuses-told Spells text error.Memory h = tt

-- a text that spells nothing, where texts are read
pub spelled-refused : {A : Type 0} (Spells : A → List ℕ → Type 0) (texts : List (Bor (List ℕ))) (i : ℕ) (d : Bor (List ℕ)) (e : ReadError) → i < length texts → Refuses Spells ((get_or texts i d).now) e
    → NoneIs (λ (xs : List A). AreSpelled Spells xs (map (λ text. text.now) texts)) (place_fault_of e)
spelled-refused {A} Spells texts i d e below h =
    NoneIs-part (λ (x : A). Spells x ((get_or texts i d).now)) (λ (xs : List A). AreSpelled Spells xs (map (λ text. text.now) texts)) (place_fault_of e)
    (λ xs spelled. spelled-at Spells xs texts i d spelled below) (refuses-told Spells ((get_or texts i d).now) e h)

-- texts at a key that are read, and so any texts there
pub spelled-one : {A : Type 0} (Spells : A → List ℕ → Type 0) (key : List ℕ) (owner : Members) (names : List (Bor (List ℕ))) (texts : List (List ℕ)) (xs : List A)
    → HasNames key names owner → HasTexts key texts owner → AreSpelled Spells xs texts → AreSpelled Spells xs (map (λ text. text.now) names)
spelled-one Spells key owner names texts xs there given spelled =
    subst (λ (ts : List (List ℕ)). AreSpelled Spells xs ts) (one-texts key owner texts (map (λ (text : Bor (List ℕ)). text.now) names) given there) spelled

-- the one table at a key
pub one-table : (key : List ℕ) (owner a b : Members) → HasTable key a owner → HasTable key b owner → a ≡ b
one-table key owner a b h k = let same : Some a ≡ Some b = sym h ∙ k in cc
