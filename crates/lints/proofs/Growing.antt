-- Steps of lists of what is found.
use Rattle.std.proofs.Common.{◌≡◌, ◌<◌, ◌≤◌, ◌+◌, ℕ, Bool, true, false, List, [], ◌∷◌, ◌++◌, length, refl, sym, ap, subst, ◌∙◌, append_assoc, length-append, inl, inr, arith}
use Rattle.std.specs.Prelude.{◌⊎◌, ◌↔◌, IsTrue, get_or}
use Rattle.std.specs.List.{Contains, HoldsAt}
use Rattle.std.proofs.lemmas.Bool.{false≢true}
use Rattle.std.proofs.lemmas.List.{append-nil}
use Rattle.std.proofs.lemmas.List.Elements.{at_read, All-nil, All-push, All-append, All-weaker, Contains-append_left, Contains-append_right, Contains-push}
use Rattle.lints.specs.Collected.{Adds, Among, Either, Told, Tested, most_lints}
use Rattle.lints.specs.declared.lint.Lint.{Lint}

-- nothing is added: there is none, or the list is full
pub adds_none : (Is : Lint → Type 0) (xs : List Lint) → ((lint : Lint) → Is lint → ⊥) → Adds Is xs xs
adds_none Is xs none = record {
  more = [];
  same = sym (append-nil xs);
  each = All-nil Is;
  all = λ _ lint is. absurd (none lint is);
}

pub adds_full : (Is : Lint → Type 0) (xs : List Lint) → most_lints ≤ length xs → Adds Is xs xs
adds_full Is xs full = record {
  more = [];
  same = sym (append-nil xs);
  each = All-nil Is;
  all = λ short lint is. absurd (omega (arith, full, short));
}

-- a test holds, and what is told is added; or it doesn't
pub adds_pushed : (test : Bool) (told : Lint) (xs ys : List Lint) → test ≡ true → ys ≡ xs ++ told ∷ [] → Adds (Tested test told) xs ys
adds_pushed test told xs ys holds same = record {
  more = told ∷ [];
  same = same;
  each = All-push (Tested test told) [] told (All-nil (Tested test told)) (holds, refl);
  all = λ short lint is. subst (Contains (told ∷ [])) (sym is.1) (Contains-push [] told);
}

pub adds_untold : (test : Bool) (told : Lint) (xs : List Lint) → test ≡ false → Adds (Tested test told) xs xs
adds_untold test told xs fails = adds_none (Tested test told) xs (λ lint is. false≢true (sym fails ∙ is.0))

-- the list in the middle is not longer
shorter : (xs ys zs : List Lint) → zs ≡ ys ++ xs → length zs < most_lints → length ys < most_lints
shorter xs ys zs same short = omega (arith, ap length same ∙ length-append ys xs, short)

-- some of a sort are added, and then some of another
pub adds_both : (Is IsOther : Lint → Type 0) (xs ys zs : List Lint) → Adds Is xs ys → Adds IsOther ys zs → Adds (Either Is IsOther) xs zs
adds_both Is IsOther xs ys zs one other = record {
  more = one.more ++ other.more;
  same = other.same ∙ (ap (λ (before : List Lint). before ++ other.more) one.same ∙ append_assoc xs one.more other.more);
  each = All-append (Either Is IsOther) one.more other.more
      (All-weaker Is (Either Is IsOther) (λ lint is. inl is) one.more one.each)
      (All-weaker IsOther (Either Is IsOther) (λ lint is. inr is) other.more other.each);
  all = λ short lint is. elim is [
    | inl here ↦ Contains-append_left one.more other.more lint (one.all (shorter other.more ys zs other.same short) lint here)
    | inr there ↦ Contains-append_right one.more other.more lint (other.all short lint there)
  ];
}

-- the same sort in other words
pub adds_as : (Is IsOther : Lint → Type 0) (xs ys : List Lint) → ((lint : Lint) → Is lint → IsOther lint) → ((lint : Lint) → IsOther lint → Is lint) → Adds Is xs ys → Adds IsOther xs ys
adds_as Is IsOther xs ys to from added = record {
  more = added.more;
  same = added.same;
  each = All-weaker Is IsOther to added.more added.each;
  all = λ short lint is. added.all short lint (from lint is);
}

-- of no numbers there is none
pub adds_no_number : (Is : ℕ → Lint → Type 0) (xs : List Lint) → Adds (Among 0 Is) xs xs
adds_no_number Is xs = adds_none (Among 0 Is) xs (λ lint is. let h : is.number < 0 = is.below in omega (arith, h))

-- those of one number more
widened : (Is : ℕ → Lint → Type 0) (i : ℕ) (lint : Lint) → Either (Among i Is) (Is i) lint → Among (i + 1) Is lint
widened Is i lint (inl among) = let h : among.number < i = among.below in record { number = among.number; below = omega (arith, h); is = among.is }
widened Is i lint (inr here) = record { number = i; below = omega arith; is = here }

split_at : (Is : ℕ → Lint → Type 0) (i : ℕ) (lint : Lint) (n : ℕ) → Is n lint → (n < i) ⊎ (n ≡ i) → Either (Among i Is) (Is i) lint
split_at Is i lint n is (inl below) = inl (record { number = n; below = below; is = is })
split_at Is i lint n is (inr same) = inr (subst (λ m. Is m lint) same is)

below_or_at : (n i : ℕ) → n < i + 1 → (n < i) ⊎ (n ≡ i)
below_or_at n i h = grind (arith, h)

narrowed : (Is : ℕ → Lint → Type 0) (i : ℕ) (lint : Lint) → Among (i + 1) Is lint → Either (Among i Is) (Is i) lint
narrowed Is i lint among = split_at Is i lint among.number among.is (below_or_at among.number i among.below)

pub adds_next : (Is : ℕ → Lint → Type 0) (i : ℕ) (xs ys zs : List Lint) → Adds (Among i Is) xs ys → Adds (Is i) ys zs → Adds (Among (i + 1) Is) xs zs
adds_next Is i xs ys zs before here = adds_as (Either (Among i Is) (Is i)) (Among (i + 1) Is) xs zs (widened Is i) (narrowed Is i) (adds_both (Among i Is) (Is i) xs ys zs before here)

-- those of so many numbers, where there are no more
pub adds_upto : (Is : ℕ → Lint → Type 0) (i n : ℕ) (xs ys : List Lint) → i ≡ n → Adds (Among i Is) xs ys → Adds (Among n Is) xs ys
adds_upto Is i n xs ys same added = subst (λ m. Adds (Among m Is) xs ys) same added

-- a test by what is known of its result
pub adds_tested : (is test : Bool) (told : Lint) (xs ys : List Lint) → is ≡ test → Adds (Tested is told) xs ys → Adds (Tested test told) xs ys
adds_tested is test told xs ys same added = subst (λ b. Adds (Tested b told) xs ys) same added

-- the same, by what is known of what is told
pub adds_known : (is test : Bool) (made told : Lint) (xs ys : List Lint) → is ≡ test → made ≡ told → Adds (Tested is made) xs ys → Adds (Tested test told) xs ys
adds_known is test made told xs ys same same_told added = subst (λ lint. Adds (Tested test lint) xs ys) same_told (adds_tested is test made xs ys same added)

-- the same of a fact
pub adds_told : (is : Bool) (Holds : Type 0) (told : Lint) (xs ys : List Lint) → IsTrue is ↔ Holds → Adds (Tested is told) xs ys → Adds (Told Holds told) xs ys
adds_told is Holds told xs ys same added = adds_as (Tested is told) (Told Holds told) xs ys (λ lint is. (same.0 is.0, is.1)) (λ lint is. (same.1 is.0, is.1)) added

-- what is found of an element
pub adds_at : {X : Type 0} (Is : X → Lint → Type 0) (elements : List X) (i : ℕ) (x : X) (xs ys : List Lint) → i < length elements → x ≡ get_or elements i x → Adds (Is x) xs ys → Adds (λ lint. HoldsAt (λ y. Is y lint) elements i) xs ys
adds_at Is elements i x xs ys within here added = adds_as (Is x) (λ lint. HoldsAt (λ y. Is y lint) elements i) xs ys
    (λ lint is. at_read elements (λ y. Is y lint) i x within here is)
    (λ lint is. subst (λ y. Is y lint) (sym here) (is x)) added
