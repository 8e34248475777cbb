-- What is told of a table that is wrong, and of the first of several.
use Rattle.std.proofs.Common.{◌≡◌, ◌∙◌, ℕ, zero, suc, ◌<◌, Some, List, [], ◌∷◌, map, take, length, get_or, Result, Ok, Err, IfErr, IsErrAnd, MatchResult, sym, subst, slice_get, refl, arith}
use Rattle.std.specs.List.{AllZip, AllByRecursion}
use Rattle.toml.specs.Data.{Members}
use Rattle.program_file.specs.PlaceFault.{IsNoText, IsNoValue, NoneIs, fault_at}
use Rattle.program_file.specs.Tables.{AreValuesIn, IsEntityIn, IsSetIn, IsSystemIn, IsChainIn}
use Rattle.program_file.specs.Faults.{TopTables, AreFine, HasTop, HasValues, HasEntity, HasChain, HasSetKeys, HasSystemKeys, IsTop, IsUnkeyed, IsWrong, IsFirstWrong, IsListFault, IsFaultOf}
use Rattle.program_file.specs.declared.place.Place.{Place}
use Rattle.program_file.specs.declared.place.Place.TheVariants.{Top, Resources, Entity, Set, System, Chain}
use Rattle.program_file.specs.declared.fault.FileFault.{FileFault}
use Rattle.program_file.specs.declared.fault.FileFault.TheVariants as file
use Rattle.program_file.specs.declared.place_fault.PlaceFault.{PlaceFault}
use Rattle.program_file.specs.declared.place_fault.PlaceFault.TheVariants.{Value, Text, Memory}

-- ---- results

-- two things that are known of an error
pub err-both : {T E : Type 0} (P Q : E → Type 0) (r : Result T E) → IfErr r P → IfErr r Q → IfErr r (λ e. P e × Q e)
err-both P Q (Ok x) h k = tt
err-both P Q (Err e) h k = (h, k)

-- the fault of a place, where it was told
pub told-at : {T : Type 0} (P : PlaceFault → Type 0) (Q : FileFault → Type 0) (place : Place) (r : Result T PlaceFault) (told : Result T FileFault) (fault : FileFault) (Told : PlaceFault → FileFault → Type 0)
    → MatchResult r (λ x. told ≡ Ok x) (λ e. IsErrAnd told (Told e)) → told ≡ Err fault → IfErr r P → ((e : PlaceFault) (f : FileFault) → Told e f → f ≡ fault_at place e)
    → ((e : PlaceFault) → P e → Q (fault_at place e)) → Q fault
told-at P Q place (Ok x) told fault Told cases is h place_of then = absurd (let no : Ok x ≡ Err fault = sym cases ∙ is in cc)
told-at P Q place (Err e) (Ok x) fault Told cases is h place_of then = absurd cases
told-at P Q place (Err e) (Err f) fault Told cases is h place_of then =
    let same : f ≡ fault = cc in
    subst Q (sym (place_of e f cases) ∙ same) (then e h)

-- ---- one table

-- keys of which some part is nowhere
pub unkeyed : {X : Type 0} (P : X → Type 0) (Keys : Type 0) (fault : PlaceFault) → (Keys → (x : X) × P x) → NoneIs P fault → IsNoText fault → IsUnkeyed Keys fault
unkeyed P Keys Value part none only = λ keys. let (x, p) = part keys in none x p
unkeyed P Keys Text part none only = absurd only
unkeyed P Keys Memory part none only = tt

pub unkeyed-part : (Part Keys : Type 0) (fault : PlaceFault) → (Keys → Part) → IsUnkeyed Part fault → IsUnkeyed Keys fault
unkeyed-part Part Keys Value part none = λ keys. none (part keys)
unkeyed-part Part Keys Text part none = absurd none
unkeyed-part Part Keys Memory part none = tt

-- keys that are told of themselves
pub unkeyed-value : (Keys : Type 0) (fault : PlaceFault) → fault ≡ Value → (Keys → ⊥) → IsUnkeyed Keys fault
unkeyed-value Keys fault is none = subst (IsUnkeyed Keys) (sym is) none

-- a value is no text
pub value-no_text : (fault : PlaceFault) → fault ≡ Value → IsNoText fault
value-no_text fault is = subst IsNoText (sym is) tt

-- the keys are wrong, and so the table
pub wrong-keys : (Keys Whole : Type 0) (fault : PlaceFault) → IsUnkeyed Keys fault → IsWrong Keys Whole fault
wrong-keys Keys Whole Value none = none
wrong-keys Keys Whole Text none = absurd none
wrong-keys Keys Whole Memory none = tt

-- the keys are there, and a text is wrong
pub wrong-text : {X : Type 0} (P : X → Type 0) (Keys Whole : Type 0) (fault : PlaceFault) → Keys → (Whole → (x : X) × P x) → NoneIs P fault → IsNoValue fault → IsWrong Keys Whole fault
wrong-text P Keys Whole Value keys part none only = absurd only
wrong-text P Keys Whole Text keys part none only = (keys, λ whole. let (x, p) = part whole in none x p)
wrong-text P Keys Whole Memory keys part none only = tt

-- the same of a larger table, whose keys are wrong where those of its part are, or are there
pub wrong-part : (Keys Whole Keys' Whole' : Type 0) (fault : PlaceFault) → (Keys' → Keys) → (Keys → Keys') → (Whole' → Whole) → IsWrong Keys Whole fault → IsWrong Keys' Whole' fault
wrong-part Keys Whole Keys' Whole' Value back there part wrong = λ keys. wrong (back keys)
wrong-part Keys Whole Keys' Whole' Text back there part wrong = (there wrong.0, λ whole. wrong.1 (part whole))
wrong-part Keys Whole Keys' Whole' Memory back there part wrong = tt

-- a table without texts
pub wrong-whole : {X : Type 0} (P : X → Type 0) (fault : PlaceFault) → NoneIs P fault → IsNoText fault → IsWrong ((x : X) × P x) ((x : X) × P x) fault
wrong-whole P Value none only = λ whole. none whole.0 whole.1
wrong-whole P Text none only = absurd only
wrong-whole P Memory none only = tt

-- ---- tables in a row

-- those that were read are fine
pub fine-read : {A X Y : Type 0} (Is : Members → X → Type 0) (f : A → Members) (g : Y → X) (k : ℕ) (xs : List A) (ys : List Y) → AllZip (λ a y. Is (f a) (g y)) (take k xs) ys → AreFine Is (take k (map f xs))
fine-read Is f g zero [] ys h = tt
fine-read Is f g (suc k) [] ys h = tt
fine-read Is f g zero (x ∷ xs) ys h = tt
fine-read Is f g (suc k) (x ∷ xs) [] h = absurd h
fine-read Is f g (suc k) (x ∷ xs) (y ∷ ys) h = ((g y, h.0), fine-read Is f g k xs ys h.1)

pub fine-all : {A X Y : Type 0} (Is : Members → X → Type 0) (f : A → Members) (g : Y → X) (xs : List A) (ys : List Y) → AllZip (λ a y. Is (f a) (g y)) xs ys → AreFine Is (map f xs)
fine-all Is f g [] ys h = tt
fine-all Is f g (x ∷ xs) [] h = absurd h
fine-all Is f g (x ∷ xs) (y ∷ ys) h = ((g y, h.0), fine-all Is f g xs ys h.1)

seen-at : {A : Type 0} (f : A → Members) (xs : List A) (i : ℕ) (d : A) → i < length xs → slice_get (map f xs) i ≡ Some (f (get_or xs i d))
seen-at f [] i d below = absurd (omega (arith, below))
seen-at f (x ∷ xs) zero d below = refl
seen-at f (x ∷ xs) (suc i) d below = seen-at f xs i d (omega (arith, below))

-- what holds of each that is seen
pub seen-each : {A : Type 0} (P : Members → Type 0) (f : A → Members) (xs : List A) (i : ℕ) (d : A) → i < length xs → AllByRecursion P (map f xs) → P (f (get_or xs i d))
seen-each P f [] i d below h = absurd (omega (arith, below))
seen-each P f (x ∷ xs) zero d below h = h.0
seen-each P f (x ∷ xs) (suc i) d below h = seen-each P f xs i d (omega (arith, below)) h.1

-- the next of them is wrong
module _ {A X Y : Type 0} (HasKeys : Members → Type 0) (Is : Members → X → Type 0) (f : A → Members) (g : Y → X) (place_of : ℕ → Place) (k : ℕ) (xs : List A) (ys : List Y) (x d : A)
    (read : AllZip (λ a y. Is (f a) (g y)) (take k xs) ys) (below : k < length xs) (is : x ≡ get_or xs k d) where
  first : (fault : PlaceFault) → IsWrong (HasKeys (f x)) ((y : X) × Is (f x) y) fault → IsFirstWrong HasKeys Is (map f xs) k fault
  first fault wrong = record {
    before = fine-read Is f g k xs ys read;
    table = f x;
    there = subst (λ (z : A). slice_get (map f xs) k ≡ Some (f z)) (sym is) (seen-at f xs k d below);
    wrong = wrong;
  }

  pub next-wrong : (fault : PlaceFault) → IsWrong (HasKeys (f x)) ((y : X) × Is (f x) y) fault → IsListFault place_of HasKeys Is (map f xs) (fault_at (place_of k) fault)
  next-wrong Value wrong = (k, refl, first Value wrong)
  next-wrong Text wrong = (k, refl, first Text wrong)
  next-wrong Memory wrong = tt

-- ---- a document

-- the top, and what it gives of resources
pub top-told : (document : Members) (fault : PlaceFault) → IsUnkeyed (HasTop document) fault → IsFaultOf document (fault_at Top fault)
top-told document Value none = none
top-told document Text none = absurd none
top-told document Memory none = tt

module _ (document : Members) (top : TopTables) (there : IsTop document top) where
  pub resources-told : (fault : PlaceFault) → NoneIs (AreValuesIn top.resources) fault × IsNoText fault → IsFaultOf document (fault_at Resources fault)
  resources-told Value (none, only) = (top, there, λ values. none values.0 values.1)
  resources-told Text (none, only) = absurd only
  resources-told Memory (none, only) = tt

  pub entities-told : (fault : FileFault) → HasValues top.resources → IsListFault (λ number. Entity number) HasEntity IsEntityIn top.entities fault → IsFaultOf document fault
  entities-told file.Document values told = absurd told
  entities-told (file.Value place) values (number, is, wrong) = rw is (top, there, (values, wrong))
  entities-told (file.Text place) values (number, is, wrong) = rw is (top, there, (values, wrong))
  entities-told file.Memory values told = tt

  pub sets-told : (fault : FileFault) → HasValues top.resources → AreFine IsEntityIn top.entities → IsListFault (λ number. Set number) HasSetKeys IsSetIn top.sets fault → IsFaultOf document fault
  sets-told file.Document values entities told = absurd told
  sets-told (file.Value place) values entities (number, is, wrong) = rw is (top, there, (values, entities, wrong))
  sets-told (file.Text place) values entities (number, is, wrong) = rw is (top, there, (values, entities, wrong))
  sets-told file.Memory values entities told = tt

  pub systems-told : (fault : FileFault) → HasValues top.resources → AreFine IsEntityIn top.entities → AreFine IsSetIn top.sets → IsListFault (λ number. System number) HasSystemKeys IsSystemIn top.systems fault → IsFaultOf document fault
  systems-told file.Document values entities sets told = absurd told
  systems-told (file.Value place) values entities sets (number, is, wrong) = rw is (top, there, (values, entities, sets, wrong))
  systems-told (file.Text place) values entities sets (number, is, wrong) = rw is (top, there, (values, entities, sets, wrong))
  systems-told file.Memory values entities sets told = tt

  pub chains-told : (fault : FileFault) → HasValues top.resources → AreFine IsEntityIn top.entities → AreFine IsSetIn top.sets → AreFine IsSystemIn top.systems → IsListFault (λ number. Chain number) HasChain IsChainIn top.chains fault
      → IsFaultOf document fault
  chains-told file.Document values entities sets systems told = absurd told
  chains-told (file.Value place) values entities sets systems (number, is, wrong) = rw is (top, there, (values, entities, sets, systems, wrong))
  chains-told (file.Text place) values entities sets systems (number, is, wrong) = rw is (top, there, (values, entities, sets, systems, wrong))
  chains-told file.Memory values entities sets systems told = tt
