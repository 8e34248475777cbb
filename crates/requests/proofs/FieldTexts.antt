-- Components, word by word.
use Rattle.std.proofs.Common.{◌≡◌, ◌≢◌, ℕ, ◌<◌, ◌≤◌, ℤ, List, [], ◌∷◌, length, get_or, map, refl, sym, ap, ◌∙◌, arith}
use Rattle.std.proofs.lemmas.Slice.Zip.{AllZip-long}
use Rattle.kinds.specs.Components.{widths}
use Rattle.parsing.specs.Reads.{SpellsNone, SpellsOnly}
use Rattle.parsing.specs.Integer.{IsInteger}
use Rattle.parsing.proofs.Grammars.{only_empty, only_more, none_at}
use Rattle.requests.specs.Grammar.{AreFields}

-- ---- how many words there are

-- one word alone, and two, as places name them
pub of_one : {A B : Type 0} (f : A → B) (xs : List A) (d : A) → 1 ≤ length xs → length xs < 2 → map f xs ≡ f (get_or xs 0 d) ∷ []
of_one f [] d l h = absurd (omega arith)
of_one f (a ∷ []) d l h = refl
of_one f (a ∷ b ∷ xs) d l h = absurd (omega arith)

pub of_two : {A B : Type 0} (f : A → B) (xs : List A) (d : A) → 2 ≤ length xs → length xs < 3 → map f xs ≡ f (get_or xs 0 d) ∷ f (get_or xs 1 d) ∷ []
of_two f [] d l h = absurd (omega arith)
of_two f (a ∷ xs) d l h = ap (λ ys. f a ∷ ys) (of_one f xs d (omega arith) (omega arith))

-- ---- fields

module _ (kind : ℕ) where
  -- fields are as many as their words
  pub fields_missing : (words : List (List ℕ)) → length words ≢ widths kind → SpellsNone (AreFields kind) words
  fields_missing words differ fields h = differ (AllZip-long IsInteger fields words h.0 ∙ h.1)

  pub only_field : (word : List ℕ) (z : ℤ) → widths kind ≡ 1 → SpellsOnly IsInteger word z → SpellsOnly (AreFields kind) (word ∷ []) (z ∷ [])
  only_field word z width one =
      let o = only_more IsInteger [] [] word z (only_empty IsInteger) one in
      ((o.0, sym width), λ fields h. o.1 fields h.0)

  pub only_fields : (word other : List ℕ) (z y : ℤ) → widths kind ≡ 2 → SpellsOnly IsInteger word z → SpellsOnly IsInteger other y → SpellsOnly (AreFields kind) (word ∷ other ∷ []) (z ∷ y ∷ [])
  only_fields word other z y width one two =
      let o = only_more IsInteger (word ∷ []) (z ∷ []) other y (only_more IsInteger [] [] word z (only_empty IsInteger) one) two in
      ((o.0, sym width), λ fields h. o.1 fields h.0)

  pub no_field : (words : List (List ℕ)) (i : ℕ) → i < length words → SpellsNone IsInteger (get_or words i []) → SpellsNone (AreFields kind) words
  no_field words i low none fields h = none_at IsInteger words i [] low none fields h.0
