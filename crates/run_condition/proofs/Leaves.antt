-- Conditions that hold no other: what is inside of their brackets.
use Rattle.std.specs.Option.{ok_or}
use Rattle.std.proofs.Common.{◌≡◌, ◌≢◌, ℕ, suc, ℤ, ◌<◌, List, [], ◌∷◌, ◌++◌, length, get_or, Option, Some, None, Result, refl, sym, subst, ◌∙◌, arith}
use Rattle.model.specs.access.Condition.{Condition}
use Rattle.model.specs.access.Query.{Term}
use Rattle.kinds.specs.declared.res.Res.{Res}
use Rattle.kinds.specs.declared.res.Event.{Event}
use Rattle.kinds.specs.Res.{IsRes, IsEvent, res_number, event_number}
use Rattle.parsing.specs.Integer.{IsInteger}
use Rattle.parsing.specs.declared.read_error.ReadError.{ReadError}
use Rattle.parsing.specs.declared.read_error.ReadError.TheVariants.{Outside, Memory}
use Rattle.parsing.specs.Reads.{SpellsNone, SpellsOnly, Refuses, Reads, ReadsUnlessMemory, SpellsSeen}
use Rattle.parsing.specs.Words.{AreWordsOf, Lacks}
use Rattle.parsing.specs.Parts.{ArePartsOf}
use Rattle.parsing.proofs.WordsOfText.{same_words}
use Rattle.parsing.proofs.PartsOfText.{same_parts}
use Rattle.parsing.proofs.Grammars.{only_seen, none_seen}
use Rattle.query.specs.Grammar.{IsQuery}
use Rattle.run_condition.specs.declared.word.Word.TheVariants as word
use Rattle.run_condition.specs.Grammar.{ByWord, AreResAndInteger, AreNumberAndInteger, IsLeaf}
use Rattle.run_condition.specs.Fronts.{Closes, InBrackets}
use Rattle.run_condition.proofs.Readers.{only_made, refuses_made, same_pair}

-- ---- brackets up to the next closing one

-- a byte that is at no place is lacking
pub lacks_at : (b : ℕ) (text : List ℕ) → ((i : ℕ) → i < length text → get_or text i 0 ≢ b) → Lacks b text
lacks_at b [] h = tt
lacks_at b (x ∷ xs) h = (h 0 (omega arith), lacks_at b xs (λ i below. h (suc i) (omega arith)))

-- a text is cut at the first of a byte in one way
first_same : (b : ℕ) (xs ys vs ws : List ℕ) → xs ++ b ∷ ys ≡ vs ++ b ∷ ws → Lacks b xs → Lacks b vs → (xs ≡ vs) × (ys ≡ ws)
first_same b [] ys [] ws e h k = let same : ys ≡ ws = cc in (refl, same)
first_same b [] ys (v ∷ vs) ws e h k = let same : v ≡ b = cc in absurd (k.0 same)
first_same b (x ∷ xs) ys [] ws e h k = let same : x ≡ b = cc in absurd (h.0 same)
first_same b (x ∷ xs) ys (v ∷ vs) ws e h k =
    let first : x ≡ v = cc in
    let more : xs ++ b ∷ ys ≡ vs ++ b ∷ ws = cc in
    let i = first_same b xs ys vs ws more h.1 k.1 in
    (rw (first, i.0) refl, i.1)

-- a byte that is lacking is not between two parts
lacks_no : (b : ℕ) (text front back : List ℕ) → ((i : ℕ) → i < length text → get_or text i 0 ≢ b) → text ≢ front ++ b ∷ back
lacks_no b text front back h e = gone text (lacks_at b text h) front e where
  gone : (text : List ℕ) → Lacks b text → (front : List ℕ) → text ≢ front ++ b ∷ back
  gone [] l [] e = cc
  gone [] l (f ∷ front) e = cc
  gone (x ∷ xs) l [] e = let same : x ≡ b = cc in l.0 same
  gone (x ∷ xs) l (f ∷ front) e = let same : xs ≡ front ++ b ∷ back = cc in gone xs l.1 front same

module _ (L : Condition → List ℕ → Type 0) (text : List ℕ) where
  abbrev Held : Condition × List ℕ → List ℕ → Type 0
  Held = InBrackets (λ c inside. Lacks 41 inside × L c inside)

  -- no closing bracket
  pub held_open : ((i : ℕ) → i < length text → get_or text i 0 ≢ 41) → SpellsNone (InBrackets (λ c inside. Lacks 41 inside × L c inside)) text
  held_open none v h = lacks_no 41 text h.0 h.1 none h.2

  module _ (inside after : List ℕ) (e : text ≡ inside ++ 41 ∷ after) (lacks : (i : ℕ) → i < length inside → get_or inside i 0 ≢ 41) where
    held_parts : (v : Condition × List ℕ) → Held v text → L v.0 inside × Closes v.1 after
    held_parts v h =
        let same = first_same 41 inside after h.0 h.1 (sym e ∙ h.2) (lacks_at 41 inside lacks) h.4.0 in
        (subst (λ t. L v.0 t) (sym same.0) h.4.1, subst (λ t. Closes v.1 t) (sym same.1) h.3)

    pub held_not_closed : SpellsNone Closes after → SpellsNone (InBrackets (λ c inside. Lacks 41 inside × L c inside)) text
    held_not_closed none v h = none v.1 (held_parts v h).1

    pub held_only : (c : Condition) (rest : List ℕ) → SpellsOnly Closes after rest → SpellsOnly L inside c → SpellsOnly (InBrackets (λ c inside. Lacks 41 inside × L c inside)) text (c, rest)
    held_only c rest closes only = ((inside, after, e, closes.0, (lacks_at 41 inside lacks, only.0)), others) where
      others : (v : Condition × List ℕ) → Held v text → v ≡ (c, rest)
      others v h =
          let k = held_parts v h in
          let left : v.0 ≡ c = only.1 v.0 k.0 in
          let right : v.1 ≡ rest = closes.1 v.1 k.1 in
          same_pair v c rest left right

    pub held_refuses : (e : ReadError) → Refuses L inside e → Refuses (InBrackets (λ c inside. Lacks 41 inside × L c inside)) text e
    held_refuses Outside none = λ v h. none v.0 (held_parts v h).0
    held_refuses Memory h = tt

-- ---- single words

-- the word of a text is known
module _ {A : Type 0} (Spells : A → List ℕ → Type 0) (text name : List ℕ) (only : SpellsOnly (λ w t. AreWordsOf (w ∷ []) t) text name) where
  by_word_out : (x : A) → ByWord Spells x text → Spells x name
  by_word_out x h = subst (λ w. Spells x w) (only.1 h.0 h.1) h.2

  pub by_word_only : (x : A) → SpellsOnly Spells name x → SpellsOnly (ByWord Spells) text x
  by_word_only x h = ((name, only.0, h.0), λ v s. h.1 v (by_word_out v s))

  pub by_word_none : SpellsNone Spells name → SpellsNone (ByWord Spells) text
  by_word_none h v s = h v (by_word_out v s)

-- what the word is
pub by_word_reads : {A : Type 0} (Spells : A → List ℕ → Type 0) (text name : List ℕ) → SpellsOnly (λ w t. AreWordsOf (w ∷ []) t) text name → (o : Option A) (r : Result A ReadError)
    → Reads Spells name o → r ≡ ok_or o Outside → ReadsUnlessMemory (ByWord Spells) text r
by_word_reads Spells text name only (Some x) r h e = rw e (by_word_only Spells text name only x h)
by_word_reads Spells text name only None r h e = rw e (by_word_none Spells text name only h)

-- there is not one word
pub by_word_refuses : {A : Type 0} (Spells : A → List ℕ → Type 0) (text : List ℕ) (e : ReadError) → Refuses (λ w t. AreWordsOf (w ∷ []) t) text e → Refuses (ByWord Spells) text e
by_word_refuses Spells text Outside none = λ x h. none h.0 h.1
by_word_refuses Spells text Memory h = tt

-- the only word is the word
pub word_only : (text word : List ℕ) (words : List (List ℕ)) → AreWordsOf words text → words ≡ word ∷ [] → SpellsOnly (λ w t. AreWordsOf (w ∷ []) t) text word
word_only text word words h e =
    let here = subst (λ ws. AreWordsOf ws text) e h in
    (here, λ v k. let same : v ∷ [] ≡ word ∷ [] = same_words (v ∷ []) (word ∷ []) text k here in cc)

-- other words are not one
pub word_none : (text : List ℕ) (words : List (List ℕ)) → AreWordsOf words text → ((word : List ℕ) → words ≢ word ∷ []) → SpellsNone (λ w t. AreWordsOf (w ∷ []) t) text
word_none text words h other v k = other v (same_words words (v ∷ []) text h k)

-- ---- a resource and an integer

module _ (text left right : List ℕ) (are : ArePartsOf (left ∷ right ∷ []) text) where
  pair_out : (v : Res × ℤ) → AreResAndInteger v text → ByWord IsRes v.0 left × ByWord IsInteger v.1 right
  pair_out v (l, r, parts, res, value) =
      let same : l ∷ r ∷ [] ≡ left ∷ right ∷ [] = same_parts (l ∷ r ∷ []) (left ∷ right ∷ []) text parts are in
      let first : l ≡ left = cc in
      let second : r ≡ right = cc in
      (subst (λ t. ByWord IsRes v.0 t) first res, subst (λ t. ByWord IsInteger v.1 t) second value)

  pub pair_only : (res : Res) (value : ℤ) → SpellsOnly (ByWord IsRes) left res → SpellsOnly (ByWord IsInteger) right value → SpellsOnly AreResAndInteger text (res, value)
  pair_only res value first second = ((left, right, are, first.0, second.0), others) where
    others : (v : Res × ℤ) → AreResAndInteger v text → v ≡ (res, value)
    others v h =
        let k = pair_out v h in
        let a : v.0 ≡ res = first.1 v.0 k.0 in
        let b : v.1 ≡ value = second.1 v.1 k.1 in
        same_pair v res value a b

  pub pair_first : (e : ReadError) → Refuses (ByWord IsRes) left e → Refuses AreResAndInteger text e
  pair_first Outside none = λ v h. none v.0 (pair_out v h).0
  pair_first Memory h = tt

  pub pair_second : (e : ReadError) → Refuses (ByWord IsInteger) right e → Refuses AreResAndInteger text e
  pair_second Outside none = λ v h. none v.1 (pair_out v h).1
  pair_second Memory h = tt

pub pair_none : (text : List ℕ) (parts : List (List ℕ)) → ArePartsOf parts text → ((left right : List ℕ) → parts ≢ left ∷ right ∷ []) → SpellsNone AreResAndInteger text
pair_none text parts are other v (l, r, k, res, value) = other l r (same_parts parts (l ∷ r ∷ []) text are k)

-- the parts are two
pub parts_two : (text left right : List ℕ) (parts : List (List ℕ)) → ArePartsOf parts text → parts ≡ left ∷ right ∷ [] → ArePartsOf (left ∷ right ∷ []) text
parts_two text left right parts are e = subst (λ ps. ArePartsOf ps text) e are

-- ---- what each word makes of it

-- the number and the value of a pair
abbrev numbered : Res × ℤ → ℕ × ℤ
numbered p = (res_number p.0, p.1)

-- which condition each is
equals_out : (inside : List ℕ) (c : Condition) → IsLeaf c word.ResourceEquals inside → (v : ℕ × ℤ) × AreNumberAndInteger v inside × (c ≡ Condition.ResourceEquals v.0 v.1)
equals_out inside (Condition.ResourceEquals n v) h = ((n, v), h, refl)
equals_out inside _ h = absurd h

at_least_out : (inside : List ℕ) (c : Condition) → IsLeaf c word.ResourceAtLeast inside → (v : ℕ × ℤ) × AreNumberAndInteger v inside × (c ≡ Condition.ResourceAtLeast v.0 v.1)
at_least_out inside (Condition.ResourceAtLeast n v) h = ((n, v), h, refl)
at_least_out inside _ h = absurd h

changed_out : (inside : List ℕ) (c : Condition) → IsLeaf c word.ResourceChanged inside → (n : ℕ) × SpellsSeen res_number (ByWord IsRes) n inside × (c ≡ Condition.ResourceChanged n)
changed_out inside (Condition.ResourceChanged n) h = (n, h, refl)
changed_out inside _ h = absurd h

any_out : (inside : List ℕ) (c : Condition) → IsLeaf c word.AnyWith inside → (q : List Term) × IsQuery q inside × (c ≡ Condition.AnyWith q)
any_out inside (Condition.AnyWith q) h = (q, h, refl)
any_out inside _ h = absurd h

on_out : (inside : List ℕ) (c : Condition) → IsLeaf c word.OnEvent inside → (k : ℕ) × SpellsSeen event_number (ByWord IsEvent) k inside × (c ≡ Condition.OnEvent k)
on_out inside (Condition.OnEvent k) h = (k, h, refl)
on_out inside _ h = absurd h

-- ---- and how it is read

refuses_seen : {A B T : Type 0} (seen : A → B) (Spells : A → T → Type 0) (text : T) (e : ReadError) → Refuses Spells text e → Refuses (SpellsSeen seen Spells) text e
refuses_seen seen Spells text Outside none = none_seen seen Spells text none
refuses_seen seen Spells text Memory h = tt

module _ (inside : List ℕ) where
  pub equals_only : (res : Res) (value : ℤ) → SpellsOnly AreResAndInteger inside (res, value) → SpellsOnly (λ c. IsLeaf c word.ResourceEquals) inside (Condition.ResourceEquals (res_number res) value)
  equals_only res value h = only_made AreNumberAndInteger (λ c. IsLeaf c word.ResourceEquals) (λ (v : ℕ × ℤ). Condition.ResourceEquals v.0 v.1) inside inside (λ v k. k) (equals_out inside) (res_number res, value) (only_seen numbered AreResAndInteger inside (res, value) h)

  pub equals_refuses : (e : ReadError) → Refuses AreResAndInteger inside e → Refuses (λ c. IsLeaf c word.ResourceEquals) inside e
  equals_refuses e h = refuses_made AreNumberAndInteger (λ c. IsLeaf c word.ResourceEquals) (λ (v : ℕ × ℤ). Condition.ResourceEquals v.0 v.1) inside inside (λ v k. k) (equals_out inside) e (refuses_seen numbered AreResAndInteger inside e h)

  pub at_least_only : (res : Res) (value : ℤ) → SpellsOnly AreResAndInteger inside (res, value) → SpellsOnly (λ c. IsLeaf c word.ResourceAtLeast) inside (Condition.ResourceAtLeast (res_number res) value)
  at_least_only res value h = only_made AreNumberAndInteger (λ c. IsLeaf c word.ResourceAtLeast) (λ (v : ℕ × ℤ). Condition.ResourceAtLeast v.0 v.1) inside inside (λ v k. k) (at_least_out inside) (res_number res, value) (only_seen numbered AreResAndInteger inside (res, value) h)

  pub at_least_refuses : (e : ReadError) → Refuses AreResAndInteger inside e → Refuses (λ c. IsLeaf c word.ResourceAtLeast) inside e
  at_least_refuses e h = refuses_made AreNumberAndInteger (λ c. IsLeaf c word.ResourceAtLeast) (λ (v : ℕ × ℤ). Condition.ResourceAtLeast v.0 v.1) inside inside (λ v k. k) (at_least_out inside) e (refuses_seen numbered AreResAndInteger inside e h)

  pub changed_only : (res : Res) → SpellsOnly (ByWord IsRes) inside res → SpellsOnly (λ c. IsLeaf c word.ResourceChanged) inside (Condition.ResourceChanged (res_number res))
  changed_only res h = only_made (SpellsSeen res_number (ByWord IsRes)) (λ c. IsLeaf c word.ResourceChanged) (λ n. Condition.ResourceChanged n) inside inside (λ v k. k) (changed_out inside) (res_number res) (only_seen res_number (ByWord IsRes) inside res h)

  pub changed_refuses : (e : ReadError) → Refuses (ByWord IsRes) inside e → Refuses (λ c. IsLeaf c word.ResourceChanged) inside e
  changed_refuses e h = refuses_made (SpellsSeen res_number (ByWord IsRes)) (λ c. IsLeaf c word.ResourceChanged) (λ n. Condition.ResourceChanged n) inside inside (λ v k. k) (changed_out inside) e (refuses_seen res_number (ByWord IsRes) inside e h)

  pub any_only : (q : List Term) → SpellsOnly IsQuery inside q → SpellsOnly (λ c. IsLeaf c word.AnyWith) inside (Condition.AnyWith q)
  any_only q h = only_made IsQuery (λ c. IsLeaf c word.AnyWith) (λ q. Condition.AnyWith q) inside inside (λ v k. k) (any_out inside) q h

  pub any_refuses : (e : ReadError) → Refuses IsQuery inside e → Refuses (λ c. IsLeaf c word.AnyWith) inside e
  any_refuses e h = refuses_made IsQuery (λ c. IsLeaf c word.AnyWith) (λ q. Condition.AnyWith q) inside inside (λ v k. k) (any_out inside) e h

  pub on_only : (event : Event) → SpellsOnly (ByWord IsEvent) inside event → SpellsOnly (λ c. IsLeaf c word.OnEvent) inside (Condition.OnEvent (event_number event))
  on_only event h = only_made (SpellsSeen event_number (ByWord IsEvent)) (λ c. IsLeaf c word.OnEvent) (λ k. Condition.OnEvent k) inside inside (λ v k. k) (on_out inside) (event_number event) (only_seen event_number (ByWord IsEvent) inside event h)

  pub on_refuses : (e : ReadError) → Refuses (ByWord IsEvent) inside e → Refuses (λ c. IsLeaf c word.OnEvent) inside e
  on_refuses e h = refuses_made (SpellsSeen event_number (ByWord IsEvent)) (λ c. IsLeaf c word.OnEvent) (λ k. Condition.OnEvent k) inside inside (λ v k. k) (on_out inside) e (refuses_seen event_number (ByWord IsEvent) inside e h)
