-- A reader that leaves its work to another reads what that one does.
use Rattle.std.proofs.Common.{◌≡◌, ℕ, List, Result, Ok, Err, refl, sym, ap, subst, ◌∙◌, Bor}
use Rattle.parsing.specs.declared.read_error.ReadError.{ReadError}
use Rattle.parsing.specs.declared.read_error.ReadError.TheVariants.{Outside, Memory}
use Rattle.parsing.specs.Reads.{SpellsNone, SpellsOnly, Refuses, ReadsUnlessMemory}
use Rattle.std.specs.Result.{IsErrAnd}
use Rattle.run_condition.specs.Fronts.{ReadsRest}

-- ---- one grammar made of another

module _ {A B T U : Type 0} (R : A → T → Type 0) (S : B → U → Type 0) (make : A → B) (t : T) (u : U)
    (into : (a : A) → R a t → S (make a) u) (out : (b : B) → S b u → (a : A) × R a t × (b ≡ make a)) where
  pub only_made : (x : A) → SpellsOnly R t x → SpellsOnly S u (make x)
  only_made x h = (into x h.0, λ b s. let k = out b s in k.2 ∙ ap make (h.1 k.0 k.1))

  pub none_made : SpellsNone R t → SpellsNone S u
  none_made h b s = let k = out b s in h k.0 k.1

  pub refuses_made : (e : ReadError) → Refuses R t e → Refuses S u e
  refuses_made Outside h = none_made h
  refuses_made Memory h = tt

-- ---- the same values

module _ {A : Type 0} (R S : A × List ℕ → List ℕ → Type 0) (t u : List ℕ)
    (into : (a : A × List ℕ) → R a t → S a u) (out : (a : A × List ℕ) → S a u → R a t) where
  pub reads_same : (r : Result (A × Bor (List ℕ)) ReadError) → ReadsRest R t r → ReadsRest S u r
  reads_same (Ok v) h = (into _ h.0, λ b s. h.1 b (out b s))
  reads_same (Err Outside) h = λ b s. h b (out b s)
  reads_same (Err Memory) h = tt

-- ---- an error as it comes

-- an error that is handed on
pub rest_refused : {A : Type 0} (S : A × List ℕ → List ℕ → Type 0) (t : List ℕ) (r : Result (A × Bor (List ℕ)) ReadError) (e : ReadError)
    → IsErrAnd r (λ d. d ≡ e) → Refuses S t e → ReadsRest S t r
rest_refused S t (Ok v) e h k = absurd h
rest_refused S t (Err d) e h k = subst (λ x. Refuses S t x) (sym h) k

-- the same of a reader that gives a value alone, and of one that gives a text
pub read_refused : {A : Type 0} (S : A → List ℕ → Type 0) (t : List ℕ) (r : Result A ReadError) (e : ReadError)
    → IsErrAnd r (λ d. d ≡ e) → Refuses S t e → ReadsUnlessMemory S t r
read_refused S t (Ok v) e h k = absurd h
read_refused S t (Err d) e h k = subst (λ x. Refuses S t x) (sym h) k

-- ---- pairs

pub same_pair : {A B : Type 0} (v : A × B) (x : A) (y : B) → v.0 ≡ x → v.1 ≡ y → v ≡ (x, y)
same_pair (a, b) x y e f = rw (e, f) refl
