-- How the parts of a condition's text make the whole.
use Rattle.std.proofs.Common.{◌≡◌, ◌≢◌, ℕ, Bool, true, false, ◌==◌, length, ◌<◌, ◌-◌, List, [], ◌∷◌, ◌++◌, Option, Some, None, Result, Bor, refl, sym, ap, subst, ◌∙◌, arith, append_assoc, inl, inr}
use Rattle.std.proofs.lemmas.Grind.{common_steps}
use Rattle.std.proofs.lemmas.List.{append-nil}
use Rattle.model.specs.access.Condition.{Condition}
use Rattle.parsing.specs.declared.read_error.ReadError.{ReadError}
use Rattle.parsing.specs.declared.read_error.ReadError.TheVariants.{Outside, Memory}
use Rattle.parsing.specs.Reads.{SpellsNone, SpellsOnly, Refuses}
use Rattle.parsing.specs.Words.{AreWordsOf, Lacks}
use Rattle.run_condition.specs.declared.word.Word.{Word}
use Rattle.run_condition.specs.declared.word.Word.TheVariants as word
use Rattle.run_condition.specs.Word.{word_text, IsConditionWord}
use Rattle.run_condition.specs.Grammar.{ByWord, ArePlain, IsText, AreTwo, IsLeaf, IsMade, IsConditionWithin}
use Rattle.run_condition.specs.Fronts.{StartsMark, AtFront, BeforeComma, IsClosing, InBrackets, Behind, ReadsRest}
use Rattle.run_condition.proofs.Marks.{cut_same, ends_mark, ends_closed, mark_ends}
use Rattle.run_condition.proofs.Readers.{reads_same, same_pair}

-- ---- a word and what is behind it

module _ {A : Type 0} (Made : A → Word → Option (List ℕ) → Type 0) (text head rest : List ℕ) (whole : text ≡ head ++ rest) (plain : ArePlain head) (starts : StartsMark rest) where
  into_front : (w : Word) → ByWord IsConditionWord w head → (v : A × List ℕ) → Behind (λ x. Made x w) v rest → AtFront (λ x. IsText (Made x)) v text
  into_front w h v (inl b) =
      (head, rw b.2 at whole, b.1, (w, None, (subst (λ name. AreWordsOf (name ∷ []) head) h.2 h.1, plain), b.0))
  into_front w h v (inr b) =
      let inside = b.2.0 in
      let tail = b.2.3.0 in (
        head ++ 40 ∷ (inside ++ 41 ∷ tail),
        joined,
        b.2.3.2,
        (w, Some inside, (head, tail, (subst (λ name. AreWordsOf (name ∷ []) head) h.2 h.1, plain), b.2.3.1, refl), b.2.4),
      )
    where
      joined : text ≡ (head ++ 40 ∷ (b.2.0 ++ 41 ∷ b.2.3.0)) ++ v.1
      joined = rw (append_assoc, append_assoc) (whole ∙ ap (λ r. head ++ r) (b.1 ∙ ap (λ r. 40 ∷ r) (b.2.2 ∙ ap (λ r. b.2.0 ++ 41 ∷ r) b.2.3.3)))

  out_front : (v : A × List ℕ) → AtFront (λ x. IsText (Made x)) v text → (w : Word) × ByWord IsConditionWord w head × Behind (λ x. Made x w) v rest
  out_front v (front, e, ends, (w, None, shape, made)) =
      let same = cut_same text head rest front v.1 whole plain starts e shape.1 (ends_mark v.1 ends) in
      (w, (word_text w, rw same.0 shape.0, refl), inl (made, ends, same.1))
  out_front v (front, e, ends, (w, Some inside, (first, tail, name, spaces, is), made)) =
      let same = cut_same text head rest first (40 ∷ (inside ++ 41 ∷ (tail ++ v.1))) whole plain starts (parted front first inside tail e is) name.1 refl in
      (w, (word_text w, rw same.0 name.0, refl), inr (inside ++ 41 ∷ (tail ++ v.1), same.1, (inside, tail ++ v.1, refl, (tail, spaces, ends, refl), made)))
    where
      parted : (front first inside tail : List ℕ) → text ≡ front ++ v.1 → front ≡ first ++ 40 ∷ (inside ++ 41 ∷ tail) → text ≡ first ++ 40 ∷ (inside ++ 41 ∷ (tail ++ v.1))
      parted front first inside tail e is = e ∙ ap (λ f. f ++ v.1) is ∙ append_assoc first (40 ∷ (inside ++ 41 ∷ tail)) v.1 ∙ ap (λ r. first ++ 40 ∷ r) (append_assoc inside (41 ∷ tail) v.1)

  -- the word is read, and what is behind it
  pub front_reads : (w : Word) → SpellsOnly (ByWord IsConditionWord) head w → (r : Result (A × Bor (List ℕ)) ReadError) → ReadsRest (Behind (λ x. Made x w)) rest r
      → ReadsRest (AtFront (λ x. IsText (Made x))) text r
  front_reads w only r h = reads_same (Behind (λ x. Made x w)) (AtFront (λ x. IsText (Made x))) rest text (into_front w only.0)
      (λ v s. let k = out_front v s in subst (λ o. Behind (λ x. Made x o) v rest) (only.1 k.0 k.1) k.2) r h

  -- the word is refused
  pub front_refuses : (e : ReadError) → Refuses (ByWord IsConditionWord) head e → Refuses (AtFront (λ x. IsText (Made x))) text e
  front_refuses Outside none = λ v s. let k = out_front v s in none k.0 k.1
  front_refuses Memory h = tt

-- ---- what is behind a word

module _ {A : Type 0} (Made : A → Option (List ℕ) → Type 0) (text : List ℕ) where
  -- an opening bracket
  pub behind_reads : (more : List ℕ) → text ≡ 40 ∷ more → (r : Result (A × Bor (List ℕ)) ReadError)
      → ReadsRest (InBrackets (λ x inside. Made x (Some inside))) more r → ReadsRest (Behind Made) text r
  behind_reads more e = reads_same (InBrackets (λ x inside. Made x (Some inside))) (Behind Made) more text (λ v b. inr (more, e, b)) out where
    out : (v : A × List ℕ) → Behind Made v text → InBrackets (λ x inside. Made x (Some inside)) v more
    out v (inl b) = absurd (ends_closed v.1 more b.1 (sym b.2 ∙ e))
    out v (inr b) = let same : b.0 ≡ more = cc in subst (λ m. InBrackets (λ x inside. Made x (Some inside)) v m) same b.2

-- nothing, where the word stands alone
pub behind_alone : (depth : ℕ) (text : List ℕ) → StartsMark text → ((rest : List ℕ) → text ≢ 40 ∷ rest)
    → SpellsOnly (Behind (λ c. IsMade depth c word.RunOnce)) text (Condition.RunOnce, text)
behind_alone depth text starts closed = (inl (tt, mark_ends text starts closed, refl), others) where
  alone : (c : Condition) → IsMade depth c word.RunOnce None → c ≡ Condition.RunOnce
  alone Condition.RunOnce h = refl
  alone _ h = absurd h

  others : (v : Condition × List ℕ) → Behind (λ c. IsMade depth c word.RunOnce) v text → v ≡ (Condition.RunOnce, text)
  others v (inl b) = let c : v.0 ≡ Condition.RunOnce = alone v.0 b.0 in let r : v.1 ≡ text = sym b.2 in same_pair v Condition.RunOnce text c r
  others v (inr b) = absurd (closed b.0 b.1)

-- other words do not stand alone
pub behind_none : (depth : ℕ) (w : Word) (text : List ℕ) → w ≢ word.RunOnce → ((rest : List ℕ) → text ≢ 40 ∷ rest)
    → SpellsNone (Behind (λ c. IsMade depth c w)) text
behind_none depth w text other closed v (inr b) = closed b.0 b.1
behind_none depth w text other closed v (inl b) = not_alone v.0 w other b.0 where
  not_alone : (c : Condition) (w : Word) → w ≢ word.RunOnce → IsMade depth c w None → ⊥
  not_alone Condition.RunOnce word.RunOnce other h = other refl
  not_alone _ _ other h = h

-- ---- a condition and the bracket behind it

module _ {A : Type 0} (P : A → List ℕ → Type 0) (text : List ℕ) where
  last_out : (v : A × List ℕ) → InBrackets P v text → (mid : List ℕ) × AtFront P (v.0, mid) text × IsClosing v.1 mid
  last_out v (inside, after, e, closes, p) = (41 ∷ after, (inside, e, inl refl, p), (after, refl, closes))

  last_into : (x : A) (mid rest : List ℕ) → AtFront P (x, mid) text → IsClosing rest mid → InBrackets P (x, rest) text
  last_into x mid rest (front, e, ends, p) (after, is, closes) = (front, after, e ∙ ap (λ m. front ++ m) is, closes, p)

  pub last_only : (x : A) (mid rest : List ℕ) → SpellsOnly (AtFront P) text (x, mid) → SpellsOnly IsClosing mid rest → SpellsOnly (InBrackets P) text (x, rest)
  last_only x mid rest only closing = (last_into x mid rest only.0 closing.0, others) where
    others : (v : A × List ℕ) → InBrackets P v text → v ≡ (x, rest)
    others v h =
        let k = last_out v h in
        let same = only.1 (v.0, k.0) k.1 in
        let left : v.0 ≡ x = ap (λ (p : A × List ℕ). p.0) same in
        let right : v.1 ≡ rest = closing.1 v.1 (subst (λ m. IsClosing v.1 m) (ap (λ (p : A × List ℕ). p.1) same) k.2) in
        same_pair v x rest left right

  pub last_none : (x : A) (mid : List ℕ) → SpellsOnly (AtFront P) text (x, mid) → SpellsNone IsClosing mid → SpellsNone (InBrackets P) text
  last_none x mid only none v h =
      let k = last_out v h in
      none v.1 (subst (λ m. IsClosing v.1 m) (ap (λ (p : A × List ℕ). p.1) (only.1 (v.0, k.0) k.1)) k.2)

  pub last_refuses : (e : ReadError) → Refuses (AtFront P) text e → Refuses (InBrackets P) text e
  last_refuses Outside none = λ v h. let k = last_out v h in none (v.0, k.0) k.1
  last_refuses Memory h = tt

  -- ---- a condition and the comma behind it

  pub left_only : (x : A) (mid after : List ℕ) → SpellsOnly (AtFront P) text (x, mid) → mid ≡ 44 ∷ after → SpellsOnly (BeforeComma P) text (x, after)
  left_only x mid after only e = (subst (λ m. AtFront P (x, m) text) e only.0, others) where
    others : (v : A × List ℕ) → BeforeComma P v text → v ≡ (x, after)
    others v h =
        let same = only.1 (v.0, 44 ∷ v.1) h in
        let left : v.0 ≡ x = ap (λ (p : A × List ℕ). p.0) same in
        let both : 44 ∷ v.1 ≡ 44 ∷ after = ap (λ (p : A × List ℕ). p.1) same ∙ e in
        let right : v.1 ≡ after = cc in
        same_pair v x after left right

  pub left_none : (x : A) (mid : List ℕ) → SpellsOnly (AtFront P) text (x, mid) → ((rest : List ℕ) → mid ≢ 44 ∷ rest) → SpellsNone (BeforeComma P) text
  left_none x mid only none v h = none v.1 (sym (ap (λ (p : A × List ℕ). p.1) (only.1 (v.0, 44 ∷ v.1) h)))

  pub left_refuses : (e : ReadError) → Refuses (AtFront P) text e → Refuses (BeforeComma P) text e
  left_refuses Outside none = λ v h. none (v.0, 44 ∷ v.1) h
  left_refuses Memory h = tt

  -- ---- two of them

  abbrev Both : A × A → List ℕ → Type 0
  Both v = AreTwo (P v.0) (P v.1)

  two_out : (v : (A × A) × List ℕ) → InBrackets Both v text → (mid : List ℕ) × BeforeComma P (v.0.0, mid) text × InBrackets P (v.0.1, v.1) mid
  two_out v (inside, after, e, closes, (left, right, p, q, is)) =
      (right ++ 41 ∷ after, (left, e ∙ ap (λ i. i ++ 41 ∷ after) is ∙ append_assoc left (44 ∷ right) (41 ∷ after), inr refl, p), (right, after, refl, closes, q))

  two_into : (x y : A) (mid rest : List ℕ) → BeforeComma P (x, mid) text → InBrackets P (y, rest) mid → InBrackets Both ((x, y), rest) text
  two_into x y mid rest (left, e, ends, p) (right, after, is, closes, q) =
      (left ++ 44 ∷ right, after, e ∙ ap (λ m. left ++ 44 ∷ m) is ∙ sym (append_assoc left (44 ∷ right) (41 ∷ after)), closes, (left, right, p, q, refl))

  pub two_only : (x y : A) (mid rest : List ℕ) → SpellsOnly (BeforeComma P) text (x, mid) → SpellsOnly (InBrackets P) mid (y, rest) → SpellsOnly (InBrackets Both) text ((x, y), rest)
  two_only x y mid rest first second = (two_into x y mid rest first.0 second.0, others) where
    others : (v : (A × A) × List ℕ) → InBrackets Both v text → v ≡ ((x, y), rest)
    others v h =
        let k = two_out v h in
        let same = first.1 (v.0.0, k.0) k.1 in
        let left : v.0.0 ≡ x = ap (λ (p : A × List ℕ). p.0) same in
        let more = second.1 (v.0.1, v.1) (subst (λ m. InBrackets P (v.0.1, v.1) m) (ap (λ (p : A × List ℕ). p.1) same) k.2) in
        let right : v.0.1 ≡ y = ap (λ (p : A × List ℕ). p.0) more in
        let end : v.1 ≡ rest = ap (λ (p : A × List ℕ). p.1) more in
        same_pair v (x, y) rest (same_pair v.0 x y left right) end

  pub two_first : (e : ReadError) → Refuses (BeforeComma P) text e → Refuses (InBrackets Both) text e
  two_first Outside none = λ v h. let k = two_out v h in none (v.0.0, k.0) k.1
  two_first Memory h = tt

  pub two_second : (x : A) (mid : List ℕ) → SpellsOnly (BeforeComma P) text (x, mid) → (e : ReadError) → Refuses (InBrackets P) mid e → Refuses (InBrackets Both) text e
  two_second x mid first Outside none = λ v h.
      let k = two_out v h in
      none (v.0.1, v.1) (subst (λ m. InBrackets P (v.0.1, v.1) m) (ap (λ (p : A × List ℕ). p.1) (first.1 (v.0.0, k.0) k.1)) k.2)
  two_second x mid first Memory h = tt

-- ---- `not`, `and` and `or`

module _ {A : Type 0} (Made : Condition → List ℕ → Type 0) (P : A → List ℕ → Type 0) (make : A → Condition)
    (into : (x : A) (inside : List ℕ) → P x inside → Made (make x) inside) (out : (c : Condition) (inside : List ℕ) → Made c inside → (x : A) × P x inside × (c ≡ make x)) (text : List ℕ) where
  private_out : (v : Condition × List ℕ) → InBrackets Made v text → (x : A) × InBrackets P (x, v.1) text × (v.0 ≡ make x)
  private_out v (inside, after, e, closes, made) = let k = out v.0 inside made in (k.0, (inside, after, e, closes, k.1), k.2)

  -- what is made of what is in brackets
  pub brackets_only : (x : A) (rest : List ℕ) → SpellsOnly (InBrackets P) text (x, rest) → SpellsOnly (InBrackets Made) text (make x, rest)
  brackets_only x rest only = ((only.0.0, only.0.1, only.0.2, only.0.3, into x only.0.0 only.0.4), others) where
    others : (v : Condition × List ℕ) → InBrackets Made v text → v ≡ (make x, rest)
    others v h =
        let k = private_out v h in
        let same = only.1 (k.0, v.1) k.1 in
        let left : v.0 ≡ make x = k.2 ∙ ap (λ (p : A × List ℕ). make p.0) same in
        let right : v.1 ≡ rest = ap (λ (p : A × List ℕ). p.1) same in
        same_pair v (make x) rest left right

  pub brackets_refuses : (e : ReadError) → Refuses (InBrackets P) text e → Refuses (InBrackets Made) text e
  brackets_refuses Outside none = λ v h. let k = private_out v h in none (k.0, v.1) k.1
  brackets_refuses Memory h = tt

pub not_into : (depth : ℕ) → 0 < depth → (c : Condition) (inside : List ℕ) → IsConditionWithin (depth - 1) c inside → IsMade depth (Condition.Not c) word.Not (Some inside)
not_into depth deep c inside h = (deep, h)

pub not_out : (depth : ℕ) (c : Condition) (inside : List ℕ) → IsMade depth c word.Not (Some inside)
    → (x : Condition) × IsConditionWithin (depth - 1) x inside × (c ≡ Condition.Not x)
not_out depth (Condition.Not c) inside h = (c, h.1, refl)
not_out depth _ inside h = absurd h.1

-- the two sides of a condition
abbrev pub BothWithin : ℕ → Condition × Condition → List ℕ → Type 0
BothWithin depth v = AreTwo (IsConditionWithin depth v.0) (IsConditionWithin depth v.1)

pub and_into : (depth : ℕ) → 0 < depth → (v : Condition × Condition) (inside : List ℕ) → BothWithin (depth - 1) v inside → IsMade depth (Condition.And v.0 v.1) word.And (Some inside)
and_into depth deep v inside h = (deep, h)

pub and_out : (depth : ℕ) (c : Condition) (inside : List ℕ) → IsMade depth c word.And (Some inside)
    → (v : Condition × Condition) × BothWithin (depth - 1) v inside × (c ≡ Condition.And v.0 v.1)
and_out depth (Condition.And c d) inside h = ((c, d), h.1, refl)
and_out depth _ inside h = absurd h.1

pub or_into : (depth : ℕ) → 0 < depth → (v : Condition × Condition) (inside : List ℕ) → BothWithin (depth - 1) v inside → IsMade depth (Condition.Or v.0 v.1) word.Or (Some inside)
or_into depth deep v inside h = (deep, h)

pub or_out : (depth : ℕ) (c : Condition) (inside : List ℕ) → IsMade depth c word.Or (Some inside)
    → (v : Condition × Condition) × BothWithin (depth - 1) v inside × (c ≡ Condition.Or v.0 v.1)
or_out depth (Condition.Or c d) inside h = ((c, d), h.1, refl)
or_out depth _ inside h = absurd h.1

-- there is none where they may go no deeper
pub not_flat : (depth : ℕ) (text : List ℕ) → depth ≡ 0 → SpellsNone (InBrackets (λ c inside. IsMade depth c word.Not (Some inside))) text
not_flat depth text flat v (inside, after, e, closes, made) = go v.0 made where
  go : (c : Condition) → IsMade depth c word.Not (Some inside) → ⊥
  go (Condition.Not c) h = let deep : 0 < depth = h.0 in absurd (omega arith)
  go _ h = absurd h.1

pub and_flat : (depth : ℕ) (text : List ℕ) → depth ≡ 0 → SpellsNone (InBrackets (λ c inside. IsMade depth c word.And (Some inside))) text
and_flat depth text flat v (inside, after, e, closes, made) = go v.0 made where
  go : (c : Condition) → IsMade depth c word.And (Some inside) → ⊥
  go (Condition.And c d) h = let deep : 0 < depth = h.0 in absurd (omega arith)
  go _ h = absurd h.1

pub or_flat : (depth : ℕ) (text : List ℕ) → depth ≡ 0 → SpellsNone (InBrackets (λ c inside. IsMade depth c word.Or (Some inside))) text
or_flat depth text flat v (inside, after, e, closes, made) = go v.0 made where
  go : (c : Condition) → IsMade depth c word.Or (Some inside) → ⊥
  go (Condition.Or c d) h = let deep : 0 < depth = h.0 in absurd (omega arith)
  go _ h = absurd h.1

-- ---- conditions that hold no other

held_into : (depth : ℕ) (c : Condition) (w : Word) (inside : List ℕ) → Lacks 41 inside × IsLeaf c w inside → IsMade depth c w (Some inside)
held_into depth (Condition.Not c) word.Not inside h = absurd h.1
held_into depth (Condition.And c d) word.And inside h = absurd h.1
held_into depth (Condition.Or c d) word.Or inside h = absurd h.1
held_into depth _ _ inside h = h

held_out : (depth : ℕ) (c : Condition) (w : Word) (inside : List ℕ) → w ≢ word.Not → w ≢ word.And → w ≢ word.Or → IsMade depth c w (Some inside) → Lacks 41 inside × IsLeaf c w inside
held_out depth (Condition.Not c) word.Not inside not and or h = absurd (not refl)
held_out depth (Condition.And c d) word.And inside not and or h = absurd (and refl)
held_out depth (Condition.Or c d) word.Or inside not and or h = absurd (or refl)
held_out depth _ _ inside not and or h = h

-- other words are those of conditions that hold no other
pub held_reads : (depth : ℕ) (w : Word) (text : List ℕ) → w ≢ word.Not → w ≢ word.And → w ≢ word.Or → (r : Result (Condition × Bor (List ℕ)) ReadError)
    → ReadsRest (InBrackets (λ c inside. Lacks 41 inside × IsLeaf c w inside)) text r → ReadsRest (InBrackets (λ c inside. IsMade depth c w (Some inside))) text r
held_reads depth w text not and or = reads_same (InBrackets (λ c inside. Lacks 41 inside × IsLeaf c w inside)) (InBrackets (λ c inside. IsMade depth c w (Some inside))) text text
    (λ v b. (b.0, b.1, b.2, b.3, held_into depth v.0 w b.0 b.4))
    (λ v b. (b.0, b.1, b.2, b.3, held_out depth v.0 w b.0 not and or b.4))

-- ---- the whole text

module _ (P : Condition → List ℕ → Type 0) (text : List ℕ) where
  whole_front : (c : Condition) → P c text → AtFront P (c, []) text
  whole_front c p = (text, sym (append-nil text), tt, p)

  pub whole_only : (c : Condition) (rest : List ℕ) → SpellsOnly (AtFront P) text (c, rest) → rest ≡ [] → SpellsOnly P text c
  whole_only c rest only e = (
    subst (λ t. P c t) (sym (append-nil only.0.0) ∙ ap (λ r. only.0.0 ++ r) (sym e) ∙ sym only.0.1) only.0.3,
    λ v p. ap (λ (k : Condition × List ℕ). k.0) (only.1 (v, []) (whole_front v p)),
  )

  pub whole_none : (c : Condition) (rest : List ℕ) → SpellsOnly (AtFront P) text (c, rest) → rest ≢ [] → SpellsNone P text
  whole_none c rest only left v p = left (sym (ap (λ (k : Condition × List ℕ). k.1) (only.1 (v, []) (whole_front v p))))

  pub whole_refuses : (e : ReadError) → Refuses (AtFront P) text e → Refuses P text e
  whole_refuses Outside none = λ v p. none (v, []) (whole_front v p)
  whole_refuses Memory h = tt

-- an empty text, and one that isn't
pub empty_is : (text : List ℕ) (empty : Bool) → empty ≡ (length text == 0) → empty ≡ true → text ≡ []
empty_is [] empty e h = refl
empty_is (b ∷ bs) empty e h = absurd (grind (arith, common_steps, e, h))

pub filled_is : (text : List ℕ) (empty : Bool) → empty ≡ (length text == 0) → empty ≡ false → text ≢ []
filled_is text empty e h is = let zero : length text ≡ 0 = ap length is in grind (arith, common_steps, e, h, zero)
