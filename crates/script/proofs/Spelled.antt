-- The words of an instruction, by its form.
use lib.Pointwise.{pointwise}
use Rattle.std.proofs.Common.{◌≡◌, ◌≢◌, ℕ, ◌<◌, ◌≤◌, true, false, List, [], ◌∷◌, codes, length, get_or, map, eqb, refl, sym, ap, ◌∙◌, arith}
use Rattle.std.proofs.lemmas.Bool.{eq-eqb}
use Rattle.parsing.specs.Reads.{SpellsNone, SpellsOnly}
use Rattle.kinds.specs.declared.kind.Kind.{Kind}
use Rattle.kinds.specs.Kind.{IsKind}
use Rattle.script.specs.declared.operands.Target.{Target}
use Rattle.script.specs.declared.operands.Source.{Source}
use Rattle.script.specs.declared.operands.Subject.{Subject}
use Rattle.script.specs.declared.operands.Values.{Values}
use Rattle.script.specs.declared.operands.Values.TheVariants.{Empty, One, Two, Many}
use Rattle.script.specs.declared.instruction.Operation.{Operation}
use Rattle.script.specs.declared.instruction.Operation.TheVariants.{Set, Add, Sub, Mul, Min, Max}
use Rattle.script.specs.declared.instruction.Relation.{Relation}
use Rattle.script.specs.declared.instruction.Relation.TheVariants.{Less, Equal, Greater}
use Rattle.script.specs.declared.instruction.Instruction.{Instruction}
use Rattle.script.specs.declared.instruction.Instruction.TheVariants.{Change, Compare, Has, Emit, Spawn, Insert, Remove, Despawn}
use Rattle.script.specs.Operands.{IsTarget, IsSource, IsSubject, AreValues}
use Rattle.script.specs.Instruction.{IsOperation, IsRelation, IsCount, AreInstruction, IsNoInsert}

-- ---- words

same_itself : (word : List ℕ) → pointwise eqb word word ≡ true
same_itself [] = refl
same_itself (c ∷ cs) = rw (eq-eqb c c refl) (same_itself cs)

-- words that differ where they are compared are two
pub apart : (word other : List ℕ) → pointwise eqb word other ≡ false → word ≡ other → ⊥
apart word other differ e = let same : pointwise eqb word other ≡ true = ap (pointwise eqb word) (sym e) ∙ same_itself word in cc

-- what is the word of no operation names none
pub names_none : (word : List ℕ) → word ≢ codes "set" → word ≢ codes "add" → word ≢ codes "sub" → word ≢ codes "mul" → word ≢ codes "min" → word ≢ codes "max" → SpellsNone IsOperation word
names_none word set add sub mul min max Set e = set e
names_none word set add sub mul min max Add e = add e
names_none word set add sub mul min max Sub e = sub e
names_none word set add sub mul min max Mul e = mul e
names_none word set add sub mul min max Min e = min e
names_none word set add sub mul min max Max e = max e

-- ---- comparisons

-- four words, of which the first is not `insert`, spell a comparison of their parts or nothing
pub only_compare : (a b c d : List ℕ) (relation : Relation) (left right : Source) (passed : ℕ) → a ≢ codes "insert"
    → SpellsOnly IsRelation a relation → SpellsOnly IsSource b left → SpellsOnly IsSource c right → SpellsOnly IsCount d passed
    → (v : Instruction) → AreInstruction v (a ∷ b ∷ c ∷ d ∷ []) → v ≡ Compare relation left right passed
only_compare a b c d relation left right passed no_insert first second third fourth (Change o t s) spelled = absurd spelled
only_compare a b c d relation left right passed no_insert first second third fourth (Compare r x y n) spelled =
    rw (first.1 r spelled.0, second.1 x spelled.1, third.1 y spelled.2, fourth.1 n spelled.3) refl
only_compare a b c d relation left right passed no_insert first second third fourth (Has k n) spelled = absurd spelled
only_compare a b c d relation left right passed no_insert first second third fourth (Emit e s) spelled = absurd spelled
only_compare a b c d relation left right passed no_insert first second third fourth (Spawn n) spelled = absurd spelled
only_compare a b c d relation left right passed no_insert first second third fourth (Insert s k vs) spelled = absurd (no_insert spelled.0)
only_compare a b c d relation left right passed no_insert first second third fourth (Remove s k) spelled = absurd spelled
only_compare a b c d relation left right passed no_insert first second third fourth (Despawn s) spelled = absurd spelled

pub no_compare : (a b c d : List ℕ) → a ≢ codes "insert"
    → ((r : Relation) (x y : Source) (n : ℕ) → IsRelation r a → IsSource x b → IsSource y c → IsCount n d → ⊥) → SpellsNone AreInstruction (a ∷ b ∷ c ∷ d ∷ [])
no_compare a b c d no_insert none (Change o t s) spelled = spelled
no_compare a b c d no_insert none (Compare r x y n) spelled = none r x y n spelled.0 spelled.1 spelled.2 spelled.3
no_compare a b c d no_insert none (Has k n) spelled = spelled
no_compare a b c d no_insert none (Emit e s) spelled = spelled
no_compare a b c d no_insert none (Spawn n) spelled = spelled
no_compare a b c d no_insert none (Insert s k vs) spelled = no_insert spelled.0
no_compare a b c d no_insert none (Remove s k) spelled = spelled
no_compare a b c d no_insert none (Despawn s) spelled = spelled

-- ---- changes

-- three words, of which the first is none of four, spell a change by their parts or nothing
module _ (a b c : List ℕ) (no_has : a ≢ codes "has") (no_emit : a ≢ codes "emit") (no_insert : a ≢ codes "insert") (no_remove : a ≢ codes "remove") where
  pub only_change : (operation : Operation) (target : Target) (source : Source)
      → SpellsOnly IsOperation a operation → SpellsOnly IsTarget b target → SpellsOnly IsSource c source
      → (v : Instruction) → AreInstruction v (a ∷ b ∷ c ∷ []) → v ≡ Change operation target source
  only_change operation target source first second third (Change o t s) spelled = rw (first.1 o spelled.0, second.1 t spelled.1, third.1 s spelled.2) refl
  only_change operation target source first second third (Compare r x y n) spelled = absurd spelled
  only_change operation target source first second third (Has k n) spelled = absurd (no_has spelled.0)
  only_change operation target source first second third (Emit e s) spelled = absurd (no_emit spelled.0)
  only_change operation target source first second third (Spawn n) spelled = absurd spelled
  only_change operation target source first second third (Insert s k vs) spelled = absurd (no_insert spelled.0)
  only_change operation target source first second third (Remove s k) spelled = absurd (no_remove spelled.0)
  only_change operation target source first second third (Despawn s) spelled = absurd spelled

  pub no_change : ((o : Operation) (t : Target) (s : Source) → IsOperation o a → IsTarget t b → IsSource s c → ⊥) → SpellsNone AreInstruction (a ∷ b ∷ c ∷ [])
  no_change none (Change o t s) spelled = none o t s spelled.0 spelled.1 spelled.2
  no_change none (Compare r x y n) spelled = spelled
  no_change none (Has k n) spelled = no_has spelled.0
  no_change none (Emit e s) spelled = no_emit spelled.0
  no_change none (Spawn n) spelled = spelled
  no_change none (Insert s k vs) spelled = no_insert spelled.0
  no_change none (Remove s k) spelled = no_remove spelled.0
  no_change none (Despawn s) spelled = spelled

-- ---- insertions

-- no operation and no relation is named `insert`
no_operation : (o : Operation) → IsOperation o (codes "insert") → ⊥
no_operation Set e = apart (codes "insert") (codes "set") refl e
no_operation Add e = apart (codes "insert") (codes "add") refl e
no_operation Sub e = apart (codes "insert") (codes "sub") refl e
no_operation Mul e = apart (codes "insert") (codes "mul") refl e
no_operation Min e = apart (codes "insert") (codes "min") refl e
no_operation Max e = apart (codes "insert") (codes "max") refl e

no_relation : (r : Relation) → IsRelation r (codes "insert") → ⊥
no_relation Less e = apart (codes "insert") (codes "less") refl e
no_relation Equal e = apart (codes "insert") (codes "equal") refl e
no_relation Greater e = apart (codes "insert") (codes "greater") refl e

-- words of which the first is `insert` spell an insertion by their parts or nothing
no_other : (b c : List ℕ) (words : List (List ℕ)) (P : Instruction → Type 0) → ((s : Subject) (k : Kind) (vs : Values) → IsSubject s b → IsKind k c → AreValues vs words → P (Insert s k vs))
    → (v : Instruction) → AreInstruction v (codes "insert" ∷ b ∷ c ∷ words) → P v
no_other b c [] P told (Change o t s) spelled = absurd (no_operation o spelled.0)
no_other b c (w ∷ words) P told (Change o t s) spelled = absurd spelled
no_other b c [] P told (Compare r x y n) spelled = absurd spelled
no_other b c (w ∷ []) P told (Compare r x y n) spelled = absurd (no_relation r spelled.0)
no_other b c (w ∷ u ∷ words) P told (Compare r x y n) spelled = absurd spelled
no_other b c [] P told (Has k n) spelled = absurd (apart (codes "insert") (codes "has") refl spelled.0)
no_other b c (w ∷ words) P told (Has k n) spelled = absurd spelled
no_other b c [] P told (Emit e s) spelled = absurd (apart (codes "insert") (codes "emit") refl spelled.0)
no_other b c (w ∷ words) P told (Emit e s) spelled = absurd spelled
no_other b c words P told (Spawn n) spelled = absurd spelled
no_other b c words P told (Insert s k vs) spelled = told s k vs spelled.1 spelled.2 spelled.3
no_other b c [] P told (Remove s k) spelled = absurd (apart (codes "insert") (codes "remove") refl spelled.0)
no_other b c (w ∷ words) P told (Remove s k) spelled = absurd spelled
no_other b c words P told (Despawn s) spelled = absurd spelled

pub only_insert : (b c : List ℕ) (words : List (List ℕ)) (subject : Subject) (kind : Kind) (values : Values)
    → SpellsOnly IsSubject b subject → SpellsOnly IsKind c kind → SpellsOnly AreValues words values
    → SpellsOnly AreInstruction (codes "insert" ∷ b ∷ c ∷ words) (Insert subject kind values)
only_insert b c words subject kind values first second third = (
  (refl, first.0, second.0, third.0),
  no_other b c words (λ v. v ≡ Insert subject kind values) (λ s k vs x y z. rw (first.1 s x, second.1 k y, third.1 vs z) refl),
)

pub no_insert : (b c : List ℕ) (words : List (List ℕ)) → ((s : Subject) (k : Kind) (vs : Values) → IsSubject s b → IsKind k c → AreValues vs words → ⊥)
    → SpellsNone AreInstruction (codes "insert" ∷ b ∷ c ∷ words)
no_insert b c words none = no_other b c words (λ v. ⊥) none

-- ---- how many words there are

-- one word alone, or two, or three, or four, as places name them
pub of_one : {A B : Type 0} (f : A → B) (xs : List A) (d : A) → 1 ≤ length xs → length xs < 2 → map f xs ≡ f (get_or xs 0 d) ∷ []
of_one f [] d l h = absurd (omega arith)
of_one f (a ∷ []) d l h = refl
of_one f (a ∷ b ∷ xs) d l h = absurd (omega arith)

pub of_two : {A B : Type 0} (f : A → B) (xs : List A) (d : A) → 2 ≤ length xs → length xs < 3 → map f xs ≡ f (get_or xs 0 d) ∷ f (get_or xs 1 d) ∷ []
of_two f [] d l h = absurd (omega arith)
of_two f (a ∷ xs) d l h = ap (λ ys. f a ∷ ys) (of_one f xs d (omega arith) (omega arith))

pub of_three : {A B : Type 0} (f : A → B) (xs : List A) (d : A) → 3 ≤ length xs → length xs < 4 → map f xs ≡ f (get_or xs 0 d) ∷ f (get_or xs 1 d) ∷ f (get_or xs 2 d) ∷ []
of_three f [] d l h = absurd (omega arith)
of_three f (a ∷ xs) d l h = ap (λ ys. f a ∷ ys) (of_two f xs d (omega arith) (omega arith))

pub of_four : {A B : Type 0} (f : A → B) (xs : List A) (d : A) → 4 ≤ length xs → length xs < 5 → map f xs ≡ f (get_or xs 0 d) ∷ f (get_or xs 1 d) ∷ f (get_or xs 2 d) ∷ f (get_or xs 3 d) ∷ []
of_four f [] d l h = absurd (omega arith)
of_four f (a ∷ xs) d l h = ap (λ ys. f a ∷ ys) (of_three f xs d (omega arith) (omega arith))

pub of_none : {A B : Type 0} (f : A → B) (xs : List A) → length xs < 1 → map f xs ≡ []
of_none f [] h = refl
of_none f (x ∷ xs) h = absurd (omega arith)

-- the first of three words or more is not `insert`, where they are no insertion
pub first_is_other : {A : Type 0} (f : A → List ℕ) (xs : List A) (d : A) → 3 ≤ length xs → IsNoInsert (map f xs) → f (get_or xs 0 d) ≢ codes "insert"
first_is_other f [] d l h = absurd (omega arith)
first_is_other f (a ∷ []) d l h = absurd (omega arith)
first_is_other f (a ∷ b ∷ []) d l h = absurd (omega arith)
first_is_other f (a ∷ b ∷ c ∷ xs) d l h = h

-- no word, and one, are no instruction
no_word : (v : Instruction) → AreInstruction v [] → ⊥
no_word (Change o t s) spelled = spelled
no_word (Compare r x y n) spelled = spelled
no_word (Has k n) spelled = spelled
no_word (Emit e s) spelled = spelled
no_word (Spawn n) spelled = spelled
no_word (Insert s k vs) spelled = spelled
no_word (Remove s k) spelled = spelled
no_word (Despawn s) spelled = spelled

no_single : (a : List ℕ) (v : Instruction) → AreInstruction v (a ∷ []) → ⊥
no_single a (Change o t s) spelled = spelled
no_single a (Compare r x y n) spelled = spelled
no_single a (Has k n) spelled = spelled
no_single a (Emit e s) spelled = spelled
no_single a (Spawn n) spelled = spelled
no_single a (Insert s k vs) spelled = spelled
no_single a (Remove s k) spelled = spelled
no_single a (Despawn s) spelled = spelled

pub too_few : {A : Type 0} (f : A → List ℕ) (xs : List A) → length xs < 2 → SpellsNone AreInstruction (map f xs)
too_few f [] l v spelled = no_word v spelled
too_few f (a ∷ []) l v spelled = no_single (f a) v spelled
too_few f (a ∷ b ∷ xs) l v spelled = absurd (omega arith)

-- no word is no value
pub only_empty : (v : Values) → AreValues v [] → v ≡ Empty
only_empty Empty spelled = refl
only_empty (One value) spelled = absurd spelled
only_empty (Two first second) spelled = absurd spelled
only_empty (Many named) spelled = absurd spelled
