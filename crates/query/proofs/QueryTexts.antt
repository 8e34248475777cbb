-- How the text of a query is read: its parts, and what they spell.
use Rattle.std.proofs.Common.{◌≡◌, ◌≢◌, ◌<◌, ◌+◌, ℕ, Bor, List, [], ◌∷◌, ◌++◌, map, length, take, get_or, Result, Ok, Err, refl, arith, subst, Bool, IsTrue, IsFalse}
use Rattle.std.proofs.lemmas.Bool.{both_ways}
use Rattle.std.proofs.lemmas.List.{take_more, map-append, length-map, get_or-map}
use Rattle.std.specs.List.{AllZip}
use Rattle.model.specs.access.Query.{Term as ModelTerm}
use Rattle.parsing.specs.declared.read_error.ReadError.{ReadError}
use Rattle.parsing.specs.declared.read_error.ReadError.TheVariants.{Outside, Memory}
use Rattle.parsing.specs.Reads.{SpellsNone, SpellsOnly, Refuses, ReadsUnlessMemory, SpellsSeen}
use Rattle.parsing.specs.Words.{AreSpaces, Lacks}
use Rattle.parsing.specs.Parts.{ArePartsOf, ByParts}
use Rattle.parsing.proofs.WordsOfText.{same_words}
use Rattle.parsing.proofs.PartsOfText.{same_parts}
use Rattle.parsing.proofs.Grammars.{only_by_parts, none_by_parts, only_more, none_at, only_seen, none_seen}
use Rattle.query.specs.declared.term.Term.{Term}
use Rattle.query.specs.declared.term.Term.TheVariants.{Entity, Read, Mut, Opt, With, Without, Added, Changed, Or}
use Rattle.query.specs.declared.alternative.Alternatives.{Alternatives}
use Rattle.query.specs.declared.alternative.Alternatives.TheVariants.{Zero, One, Two, Three, Four, Five}
use Rattle.query.specs.Term.{term_of}
use Rattle.query.specs.Grammar.{AreTerm, IsTerm, AreTerms}

-- the text is that of a term of the definitions
abbrev pub IsSeenTerm : ModelTerm → List ℕ → Type 0
IsSeenTerm = SpellsSeen term_of IsTerm

-- ---- one part

-- no words are no `or` term
no_or : (alternatives : Alternatives) → AreTerm (Or alternatives) [] → ⊥
no_or Zero h = h
no_or (One xs) h = h
no_or (Two ([])) h = h
no_or (Two (a ∷ [])) h = h
no_or (Two (a ∷ b ∷ [])) h = h
no_or (Two (a ∷ b ∷ c ∷ xs)) h = h
no_or (Three ([])) h = h
no_or (Three (a ∷ [])) h = h
no_or (Three (a ∷ b ∷ [])) h = h
no_or (Three (a ∷ b ∷ c ∷ [])) h = h
no_or (Three (a ∷ b ∷ c ∷ d ∷ xs)) h = h
no_or (Four ([])) h = h
no_or (Four (a ∷ [])) h = h
no_or (Four (a ∷ b ∷ [])) h = h
no_or (Four (a ∷ b ∷ c ∷ [])) h = h
no_or (Four (a ∷ b ∷ c ∷ d ∷ [])) h = h
no_or (Four (a ∷ b ∷ c ∷ d ∷ e ∷ xs)) h = h
no_or (Five xs) h = h

-- no words are no term
no_words : (term : Term) → AreTerm term [] → ⊥
no_words Entity h = h
no_words (Read kind) h = h
no_words (Mut kind) h = h
no_words (Opt kind) h = h
no_words (With kind) h = h
no_words (Without kind) h = h
no_words (Added kind) h = h
no_words (Changed kind) h = h
no_words (Or alternatives) h = no_or alternatives h

-- spaces are no term
spaces_no_term : (text : List ℕ) → AreSpaces text → SpellsNone IsSeenTerm text
spaces_no_term text spaces v h =
    no_words h.0 (subst (λ words. AreTerm h.0 words) (same_words h.1.0 [] text h.1.1 spaces) h.1.2)

-- ---- parts in turn

-- an error at one part is one of the whole
refused_at : (parts : List (List ℕ)) (i : ℕ) (d : List ℕ) (e : ReadError) → i < length parts
    → Refuses IsTerm (get_or parts i d) e → Refuses (AllZip IsSeenTerm) parts e
refused_at parts i d Outside below none = none_at IsSeenTerm parts i d below (none_seen term_of IsTerm (get_or parts i d) none)
refused_at parts i d Memory below none = tt

-- the texts of references
abbrev pub texts_of : List (Bor (List ℕ)) → List (List ℕ)
texts_of parts = map (λ part. part.now) parts

-- a part is refused, and with it the whole
pub part_refused : (parts : List (Bor (List ℕ))) (i : ℕ) (d : Bor (List ℕ)) (e : ReadError) → i < length parts
    → Refuses IsTerm ((get_or parts i d).now) e → Refuses (AllZip IsSeenTerm) (texts_of parts) e
part_refused parts i d e below h =
    refused_at (texts_of parts) i d.now e (omega (arith, length-map parts (λ (part : Bor (List ℕ)). part.now)))
    (rw (get_or-map (λ (part : Bor (List ℕ)). part.now) parts i d d.now below) h)

-- a part is read, and joins those before it
pub part_read : (parts : List (Bor (List ℕ))) (i : ℕ) (d : Bor (List ℕ)) (query : List ModelTerm) (term : Term) → i < length parts
    → SpellsOnly (AllZip IsSeenTerm) (texts_of (take i parts)) query → SpellsOnly IsTerm ((get_or parts i d).now) term
    → SpellsOnly (AllZip IsSeenTerm) (texts_of (take (i + 1) parts)) (query ++ term_of term ∷ [])
part_read parts i d query term below many one =
    rw (take_more parts i d below, map-append (λ (part : Bor (List ℕ)). part.now) (take i parts) (get_or parts i d ∷ []))
    (only_more IsSeenTerm (texts_of (take i parts)) query ((get_or parts i d).now) (term_of term) many
    (only_seen term_of IsTerm ((get_or parts i d).now) term one))

-- ---- all parts

-- spaces hold no comma
spaces_lack : (text : List ℕ) → AreSpaces text → Lacks 44 text
spaces_lack [] h = tt
spaces_lack (b ∷ bs) h = let is : b ≡ 32 = h.0 in ((λ e. absurd (omega arith)), spaces_lack bs h.1)

-- spaces alone spell the query without terms
pub blank_query : (text : List ℕ) → AreSpaces text → SpellsOnly AreTerms text []
blank_query text spaces = (spaces, others) where
  one_part : ArePartsOf (text ∷ []) text
  one_part = ((λ e. cc), (spaces_lack text spaces, tt), refl)

  others : (query : List ModelTerm) → AreTerms query text → query ≡ []
  others [] h = refl
  others (term ∷ terms) h = absurd (no_term (same_parts h.0 (text ∷ []) text h.1 one_part) h.2) where
    no_term : h.0 ≡ text ∷ [] → AllZip IsSeenTerm (term ∷ terms) h.0 → ⊥
    no_term e zip = spaces_no_term text spaces term ((subst (λ parts. AllZip IsSeenTerm (term ∷ terms) parts) e zip).0)

-- there is a part, and so a term
no_parts : (parts : List (List ℕ)) → parts ≢ [] → AllZip IsSeenTerm [] parts → ⊥
no_parts [] there h = there refl
no_parts (part ∷ parts) there h = h

-- other texts spell what their parts do
pub query_of_parts : (r : Result (List ModelTerm) ReadError) (text : List ℕ) (parts : List (List ℕ)) → ArePartsOf parts text → (AreSpaces text → ⊥)
    → ReadsUnlessMemory (AllZip IsSeenTerm) parts r → ReadsUnlessMemory AreTerms text r
query_of_parts (Ok query) text parts are full h = only query (only_by_parts IsSeenTerm text parts query are h) where
  only : (q : List ModelTerm) → SpellsOnly (ByParts IsSeenTerm) text q → SpellsOnly AreTerms text q
  only [] k = absurd (no_parts k.0.0 k.0.1.0 k.0.2)
  only (term ∷ terms) k = (k.0, others) where
    others : (v : List ModelTerm) → AreTerms v text → v ≡ term ∷ terms
    others [] spaces = absurd (full spaces)
    others (other ∷ more) spelled = k.1 (other ∷ more) spelled
query_of_parts (Err Outside) text parts are full h = none (none_by_parts IsSeenTerm text parts are h) where
  none : SpellsNone (ByParts IsSeenTerm) text → SpellsNone AreTerms text
  none k [] q = full q
  none k (term ∷ terms) q = k (term ∷ terms) q
query_of_parts (Err Memory) text parts are full h = tt

-- what is read of the parts of another text
pub read_parts : (blank : Bool) (r : Result (List ModelTerm) ReadError) (text : List ℕ) (parts : List (List ℕ)) → ArePartsOf parts text → (AreSpaces text → IsTrue blank) → IsFalse blank
    → ReadsUnlessMemory (AllZip IsSeenTerm) parts r → ReadsUnlessMemory AreTerms text r
read_parts blank r text parts are full unset h = query_of_parts r text parts are (λ spaces. both_ways blank unset (full spaces)) h
