-- Rows that are read component by component.
use Rattle.std.proofs.Common.{◌≡◌, ℕ, zero, suc, ◌+◌, ◌<◌, ◌≤◌, ℤ, cond, nat_lt, ◌==◌, List, [], ◌∷◌, ◌++◌, length, map, drop, Some, slice_get, refl, sym, ap, subst, ◌∙◌, append_assoc, append-nil, arith}
use Rattle.std.proofs.lemmas.Bool.{cond-true, cond-false, ne_eqb, eq-eqb, le-ltb}
use Rattle.std.proofs.lemmas.List.{drop-drop, drop_at, drop_all, length-drop}
use Rattle.std.specs.List.{AllByRecursion}
use Rattle.kinds.specs.Components.{widths}
use Rattle.model.specs.state.State.{Component}
use Rattle.model.specs.state.Rows.{IsRising, new_component, changed_component, insert_component}
use Rattle.model.specs.state.Shape.{IsComponent}
use Rattle.model.proofs.shape.Rows.{rising-insert, each-insert, component-new, component-changed}
use Rattle.state_text.specs.LineWords.{IsRow, component_words, row_words}

-- what holds of all holds of the one at a place
pub holds_at : {A B : Type 0} (P : B → Type 0) (f : A → B) (xs : List A) (i : ℕ) (x : A) → slice_get xs i ≡ Some x → AllByRecursion P (map f xs) → P (f x)
holds_at P f [] i x e h = absurd (cc)
holds_at P f (y ∷ xs) zero x e h = let same : y ≡ x = cc in subst (λ z. P (f z)) same h.0
holds_at P f (y ∷ xs) (suc i) x e h = holds_at P f xs i x e h.1

-- ---- a component between others

pub all_between : {A : Type 0} (P : A → Type 0) (xs : List A) (y : A) (zs : List A) → AllByRecursion P (xs ++ y ∷ zs) → P y
all_between P [] y zs h = h.0
all_between P (x ∷ xs) y zs h = all_between P xs y zs h.1

pub all_behind : {A : Type 0} (P : A → Type 0) (xs : List A) (ys : List A) → AllByRecursion P (xs ++ ys) → AllByRecursion P ys
all_behind P [] ys h = h
all_behind P (x ∷ xs) ys h = all_behind P xs ys h.1

-- it stands behind those before it
pub stands : (xs : List Component) (c : Component) (cs : List Component) → IsRising (xs ++ c ∷ cs) → AllByRecursion (λ d. d.kind < c.kind) xs
stands [] c cs h = tt
stands (x ∷ xs) c cs h = (all_between (λ d. x.kind < d.kind) xs c cs h.0, stands xs c cs h.1)

-- ---- it is put behind those before it

module _ (kind : ℕ) (words : List ℤ) where
  put_new : (tick : ℕ) (xs : List Component) → AllByRecursion (λ d. d.kind < kind) xs → insert_component tick kind words xs ≡ xs ++ new_component tick kind words ∷ []
  put_new tick [] h = refl
  put_new tick (x ∷ xs) h =
      let low = h.0 in
      let more = x ∷ insert_component tick kind words xs in
      let other = cond (nat_lt kind x.kind) (new_component tick kind words ∷ x ∷ xs) more in
      cond-false (x.kind == kind) (changed_component tick words x ∷ xs) other (ne_eqb x.kind kind (λ e. omega (arith, e, low)))
      ∙ cond-false (nat_lt kind x.kind) (new_component tick kind words ∷ x ∷ xs) more (le-ltb kind x.kind (omega (arith, low)))
      ∙ ap (λ rest. x ∷ rest) (put_new tick xs h.1)

  put_again : (added tick : ℕ) (xs : List Component) → AllByRecursion (λ d. d.kind < kind) xs
      → insert_component tick kind words (xs ++ new_component added kind words ∷ []) ≡ xs ++ record { kind = kind; cell = record { words = words; added = added; changed = tick } } ∷ []
  put_again added tick [] h =
      let new = new_component added kind words in
      cond-true (kind == kind) (changed_component tick words new ∷ []) (cond (nat_lt kind kind) (new_component tick kind words ∷ new ∷ []) (new ∷ insert_component tick kind words [])) (eq-eqb kind kind refl)
  put_again added tick (x ∷ xs) h =
      let low = h.0 in
      let ys = xs ++ new_component added kind words ∷ [] in
      let more = x ∷ insert_component tick kind words ys in
      let other = cond (nat_lt kind x.kind) (new_component tick kind words ∷ x ∷ ys) more in
      cond-false (x.kind == kind) (changed_component tick words x ∷ ys) other (ne_eqb x.kind kind (λ e. omega (arith, e, low)))
      ∙ cond-false (nat_lt kind x.kind) (new_component tick kind words ∷ x ∷ ys) more (le-ltb kind x.kind (omega (arith, low)))
      ∙ ap (λ rest. x ∷ rest) (put_again added tick xs h.1)

  -- with both of its stamps
  pub put_behind : (added changed : ℕ) (xs : List Component) → AllByRecursion (λ d. d.kind < kind) xs
      → insert_component changed kind words (insert_component added kind words xs) ≡ xs ++ record { kind = kind; cell = record { words = words; added = added; changed = changed } } ∷ []
  put_behind added changed xs h = ap (insert_component changed kind words) (put_new added xs h) ∙ put_again added changed xs h

  -- anywhere it leaves a row
  pub put_anywhere : (clock added changed : ℕ) (row : List Component) → added ≤ clock → changed ≤ clock → length words ≡ widths kind → IsRow clock row
      → IsRow clock (insert_component changed kind words (insert_component added kind words row))
  put_anywhere clock added changed row past past' wide h = record {
    rising = rising-insert changed kind words (insert_component added kind words row) (rising-insert added kind words row h.rising);
    components = each-insert (IsComponent widths clock) changed kind words (insert_component added kind words row)
        (component-new widths clock changed kind words past' wide) (component-changed widths clock changed kind words past' wide)
        (each-insert (IsComponent widths clock) added kind words row
        (component-new widths clock added kind words past wide) (component-changed widths clock added kind words past wide) h.components);
  }

-- ---- word by word

-- these components, of which the first are the row, and the words behind so many are of the rest
pub record HasRead (texts : List (List ℕ)) (cs row : List Component) (taken : ℕ) : Type 0 where
  pub rest : List Component
  pub whole : cs ≡ row ++ rest
  pub left : drop taken texts ≡ row_words rest

-- the next one
pub record Next (texts : List (List ℕ)) (cs row : List Component) (taken : ℕ) : Type 0 where
  pub next : Component
  pub more : List Component
  pub whole : cs ≡ row ++ next ∷ more
  pub left : drop taken texts ≡ component_words next ++ row_words more

pub read_next : (texts : List (List ℕ)) (cs row : List Component) (taken : ℕ) → taken < length texts → HasRead texts cs row taken → Next texts cs row taken
read_next texts cs row taken low h = go h.rest h.whole h.left
  where
    go : (rest : List Component) → cs ≡ row ++ rest → drop taken texts ≡ row_words rest → Next texts cs row taken
    go [] whole left = absurd (let long = length-drop taken texts in let none = ap length left in omega (arith, low, long, none))
    go (next ∷ more) whole left = record { next = next; more = more; whole = whole; left = left }

pub read_more : (texts : List (List ℕ)) (cs row : List Component) (taken : ℕ) (h : Next texts cs row taken) (count : ℕ) (after : List Component) → count ≡ length (component_words h.next)
    → after ≡ row ++ h.next ∷ [] → HasRead texts cs after (taken + count)
read_more texts cs row taken h count after many e = record {
  rest = h.more;
  whole = h.whole ∙ sym (append_assoc row (h.next ∷ []) h.more) ∙ ap (λ front. front ++ h.more) (sym e);
  left = sym (drop-drop count taken texts) ∙ ap (drop count) h.left ∙ drop_at (component_words h.next) (row_words h.more) count (sym many);
}

pub read_all : (texts : List (List ℕ)) (cs row : List Component) (taken : ℕ) → length texts ≤ taken → HasRead texts cs row taken → row ≡ cs
read_all texts cs row taken past h = go h.rest h.whole (sym (drop_all taken texts past) ∙ h.left)
  where
    go : (rest : List Component) → cs ≡ row ++ rest → [] ≡ row_words rest → row ≡ cs
    go [] whole left = sym (whole ∙ append-nil row)
    go (c ∷ rest) whole left = absurd (let bad = ap length left in omega (arith, bad))
