-- The words of a row, where each term has the words of its kind.
use Rattle.std.proofs.Common.{◌≡◌, ◌≢◌, ℕ, Bool, true, false, cond, ◌||◌, ◌==◌, ℤ, List, [], ◌∷◌, map, Option, Some, None, refl, sym, ap, ap₂, ◌∙◌}
use mathlib.Core.Path.{fun_ext}
use Rattle.std.proofs.lemmas.Bool.{eqb-true, eq-eqb, ne_eqb}
use Rattle.model.specs.Lists.{first_some, is_number}
use Rattle.model.specs.access.Query.{Term, written, writes}
use Rattle.model.specs.access.QueryFaults.{fetched}
use Rattle.model.specs.shown.Outcome.{words_in_row}
use Rattle.event_buffers.proofs.ListsOfEvents.{choose}
use Rattle.body.specs.Seen.{fetches, words_shown, with_words}
use Rattle.body.specs.Sheet.{words_for, without_kind, written_in}

nothing : (b : Bool) → cond b None (let o : Option (List ℤ) = None in o) ≡ None
nothing true = refl
nothing false = refl

first-again : (v : Option (List ℤ)) (b : Bool) → first_some v (cond b v None) ≡ v
first-again None b = nothing b
first-again (Some w) b = refl

step-by : (x b : Bool) (u v rest : Option (List ℤ)) → (x ≡ true → u ≡ v) → rest ≡ cond b v None → first_some (cond x u None) rest ≡ cond (x || b) v None
step-by true b u v rest same h = ap (λ o. first_some o rest) (same refl) ∙ ap (first_some v) h ∙ first-again v b
step-by false b u v rest same h = h

step-at : (f : ℕ → Option (List ℤ)) (k : ℕ) (o : Option ℕ) (b : Bool) (rest : Option (List ℤ)) → rest ≡ cond b (f k) None → first_some (cond (is_number k o) (words_for o f) None) rest ≡ cond (is_number k o || b) (f k) None
step-at f k None b rest h = h
step-at f k (Some m) b rest h = step-by (m == k) b (f m) (f k) rest (λ e. ap f (eqb-true m k e)) h

-- ---- words at the first term of a kind

without-itself : (f : ℕ → Option (List ℤ)) (k : ℕ) (o : Option ℕ) → is_number k o ≡ true → without_kind o f k ≡ None
without-itself f k None n = absurd (cc)
without-itself f k (Some m) n = choose (k == m) true None (f k) (eq-eqb k m (sym (eqb-true m k n)))

without-other : (f : ℕ → Option (List ℤ)) (k : ℕ) (o : Option ℕ) → is_number k o ≡ false → without_kind o f k ≡ f k
without-other f k None n = refl
without-other f k (Some m) n = choose (k == m) false None (f k) (ne_eqb k m (λ e. let t = eq-eqb m k (sym e) in (let z : ⊥ = cc in z)))

written-step : (f : ℕ → Option (List ℤ)) (k : ℕ) (o : Option ℕ) (x b : Bool) (rest : Option (List ℤ)) → is_number k o ≡ x → rest ≡ cond b (without_kind o f k) None →
    first_some (cond x (words_for o f) None) rest ≡ cond (x || b) (f k) None
written-step f k None true b rest n h = absurd (cc)
written-step f k (Some m) true b rest n h =
    ap₂ first_some (ap f (eqb-true m k n)) (h ∙ ap (λ v. cond b v None) (without-itself f k (Some m) n) ∙ nothing b) ∙ last (f k)
  where
    last : (v : Option (List ℤ)) → first_some v None ≡ v
    last None = refl
    last (Some w) = refl
written-step f k o false b rest n h = h ∙ ap (λ v. cond b v None) (without-other f k o n)

-- the words of a kind that is written, and of one that is fetched
pub in_row-map : (terms : List Term) (f : ℕ → Option (List ℤ)) (k : ℕ) → words_in_row terms (written_in f terms) k ≡ cond (writes terms k) (f k) None
in_row-map [] f k = refl
in_row-map (t ∷ ts) f k = written-step f k (written t) (is_number k (written t)) (writes ts k) _ refl (in_row-map ts (without_kind (written t) f) k)

pub shown-map : (terms : List Term) (f : ℕ → Option (List ℤ)) (k : ℕ) → words_shown terms (map (λ t. words_for (fetched t) f) terms) k ≡ cond (fetches terms k) (f k) None
shown-map [] f k = refl
shown-map (t ∷ ts) f k = step-at f k (fetched t) (fetches ts k) _ (shown-map ts f k)

-- ---- a write

-- what differs at no kind
pub written_in-same : (terms : List Term) (f g : ℕ → Option (List ℤ)) → ((m : ℕ) → f m ≡ g m) → written_in f terms ≡ written_in g terms
written_in-same terms f g h = ap (λ e. written_in e terms) (fun_ext h)

for-other : (f g : ℕ → Option (List ℤ)) (k : ℕ) (o : Option ℕ) → is_number k o ≡ false → ((m : ℕ) → m ≢ k → g m ≡ f m) → words_for o f ≡ words_for o g
for-other f g k None n h = refl
for-other f g k (Some m) n h = sym (h m (λ e. let t = eq-eqb m k e in (let z : ⊥ = cc in z)))

for-same : (f g : ℕ → Option (List ℤ)) (k : ℕ) (w : List ℤ) (o : Option ℕ) → is_number k o ≡ true → g k ≡ Some w → Some w ≡ words_for o g
for-same f g k w None n h = absurd (cc)
for-same f g k w (Some m) n h = sym (ap g (eqb-true m k n) ∙ h)

-- without the kind that differs they are the same
without-same : (f g : ℕ → Option (List ℤ)) (k : ℕ) (o : Option ℕ) → is_number k o ≡ true → ((m : ℕ) → m ≢ k → g m ≡ f m) → (m : ℕ) → without_kind o f m ≡ without_kind o g m
without-same f g k None n h m = absurd (cc)
without-same f g k (Some j) n h m = at (m == j) refl
  where
    at : (b : Bool) → (m == j) ≡ b → cond b None (f m) ≡ cond b None (g m)
    at true e = refl
    at false e = sym (h m (λ p. let t = eq-eqb m j (p ∙ sym (eqb-true j k n)) in (let z : ⊥ = cc in z)))

without-kept : (f g : ℕ → Option (List ℤ)) (k : ℕ) (o : Option ℕ) → ((m : ℕ) → m ≢ k → g m ≡ f m) → (m : ℕ) → m ≢ k → without_kind o g m ≡ without_kind o f m
without-kept f g k None h m d = h m d
without-kept f g k (Some j) h m d = ap (λ v. cond (m == j) None v) (h m d)

write-at : (b : Bool) (t : Term) (ts : List Term) (f g : ℕ → Option (List ℤ)) (k : ℕ) (w : List ℤ) → is_number k (written t) ≡ b → g k ≡ Some w → ((m : ℕ) → m ≢ k → g m ≡ f m) →
    (writes ts k ≡ true → without_kind (written t) g k ≡ Some w → with_words ts k w (written_in (without_kind (written t) f) ts) ≡ written_in (without_kind (written t) g) ts) → (b || writes ts k) ≡ true →
    cond b (Some w ∷ written_in (without_kind (written t) f) ts) (words_for (written t) f ∷ with_words ts k w (written_in (without_kind (written t) f) ts)) ≡ words_for (written t) g ∷ written_in (without_kind (written t) g) ts
write-at true t ts f g k w n here others more any = ap₂ ◌∷◌ (for-same f g k w (written t) n here) (written_in-same ts (without_kind (written t) f) (without_kind (written t) g) (without-same f g k (written t) n others))
write-at false t ts f g k w n here others more any = ap₂ ◌∷◌ (for-other f g k (written t) n others) (more any (without-other g k (written t) n ∙ here))

-- a write of a kind
pub with_words-map : (terms : List Term) (f g : ℕ → Option (List ℤ)) (k : ℕ) (w : List ℤ) → writes terms k ≡ true → g k ≡ Some w → ((m : ℕ) → m ≢ k → g m ≡ f m) → with_words terms k w (written_in f terms) ≡ written_in g terms
with_words-map [] f g k w any here others = absurd (cc)
with_words-map (t ∷ ts) f g k w any here others =
    write-at (is_number k (written t)) t ts f g k w refl here others
    (λ more kept. with_words-map ts (without_kind (written t) f) (without_kind (written t) g) k w more kept (without-kept f g k (written t) others)) any
