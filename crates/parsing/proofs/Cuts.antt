-- A text cut at each of one byte.
use Rattle.std.proofs.Common.{◌≡◌, ◌≢◌, ℕ, false, inl, inr, List, [], ◌∷◌, refl}
use Rattle.std.proofs.lemmas.Bool.{eq-eqb, eqb-false, ne_eqb, cases_Bool}
use Rattle.std.proofs.lemmas.List.Elements.{All-nil, All-cons}
use Rattle.std.proofs.lemmas.List.Splits.{slice_split-cons_yes, slice_split-cons_no, slice_split_none, slice_split_at}
use Rattle.std.proofs.Math.Dec.{eqb}
use Rattle.std.specs.List.{All, AllByRecursion, slice_split, onto_first, join_with_byte}
use Rattle.parsing.specs.Words.{Lacks}

-- the parts of a text between the bytes c
abbrev pub cut : ℕ → List ℕ → List (List ℕ)
cut c text = slice_split (λ b. eqb b c) text

-- no byte of a text that lacks c passes the test for c
pub none_passes : (c : ℕ) (bs : List ℕ) → Lacks c bs → All (λ b. eqb b c ≡ false) bs
none_passes c [] h = All-nil (λ b. eqb b c ≡ false)
none_passes c (b ∷ bs) h = All-cons (λ x. eqb x c ≡ false) b bs (ne_eqb b c h.0) (none_passes c bs h.1)

-- a byte set before the first part of many
pub lacks_onto : (c b : ℕ) (parts : List (List ℕ)) → b ≢ c → AllByRecursion (Lacks c) parts → AllByRecursion (Lacks c) (onto_first b parts)
lacks_onto c b [] ne h = ((ne, tt), tt)
lacks_onto c b (part ∷ parts) ne h = ((ne, h.0), h.1)

-- no part holds the byte at which the text was cut
pub lacks_cut : (c : ℕ) (text : List ℕ) → AllByRecursion (Lacks c) (cut c text)
lacks_cut c [] = (tt, tt)
lacks_cut c (b ∷ bs) = elim (cases_Bool (eqb b c)) [
  | inl e ↦ rw (slice_split-cons_yes (λ x. eqb x c) b bs e) (tt, lacks_cut c bs)
  | inr e ↦ rw (slice_split-cons_no (λ x. eqb x c) b bs e) (lacks_onto c b (cut c bs) (eqb-false b c e) (lacks_cut c bs))
]

onto_filled : (b : ℕ) (parts : List (List ℕ)) → onto_first b parts ≢ []
onto_filled b [] e = cc
onto_filled b (part ∷ parts) e = cc

-- there is a part, if only an empty one
pub cut_filled : (c : ℕ) (text : List ℕ) → cut c text ≢ []
cut_filled c [] e = cc
cut_filled c (b ∷ bs) e = elim (cases_Bool (eqb b c)) [
  | inl t ↦ let k = slice_split-cons_yes (λ x. eqb x c) b bs t in cc
  | inr t ↦ let k = slice_split-cons_no (λ x. eqb x c) b bs t in onto_filled b (cut c bs) cc
]

-- parts that hold no c, joined by it and cut again
pub cut_join : (c : ℕ) (parts : List (List ℕ)) → parts ≢ [] → AllByRecursion (Lacks c) parts → cut c (join_with_byte c parts) ≡ parts
cut_join c [] ne h = absurd (ne refl)
cut_join c (part ∷ []) ne h = slice_split_none (λ b. eqb b c) part (none_passes c part h.0)
cut_join c (part ∷ other ∷ parts) ne h =
    let k = slice_split_at (λ b. eqb b c) part c (join_with_byte c (other ∷ parts)) (none_passes c part h.0) (eq-eqb c c refl) in
    let i = cut_join c (other ∷ parts) (λ e. cc) h.1 in
    rw (k, i)
