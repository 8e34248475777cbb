-- Words that spell sources, one after the other, and what the sources name.
use Rattle.std.proofs.Common.{◌≡◌, ◌≤◌, ◌<◌, ◌+◌, ℕ, zero, suc, false, List, [], ◌∷◌, ◌++◌, length, get_or, map, take, Some, refl, sym, ap, ap₂, ◌∙◌, subst, arith}
use Rattle.std.proofs.lemmas.List.{map-append, take_more}
use Rattle.parsing.specs.Reads.{Reads, SpellsNone, SpellsOnly}
use Rattle.script.specs.declared.operands.Mentions.{Mentions}
use Rattle.script.specs.declared.operands.Source.{Source}
use Rattle.script.specs.declared.operands.Values.{Values}
use Rattle.script.specs.declared.operands.Values.TheVariants.{Empty, One, Two, Many}
use Rattle.script.specs.Operands.{IsSource, AreSources, AreValues, IsNamedBy, named_by, with_source, with_sources}

-- words that spell these sources alone, which name this
pub record AreRead (words : List (List ℕ)) (named : Mentions) : Type 0 where
  pub sources : List Source
  pub spelled : AreSources sources words
  pub only : (others : List Source) → AreSources others words → others ≡ sources
  pub is : named ≡ named_by sources

spelled-more : (sources : List Source) (words : List (List ℕ)) (s : Source) (word : List ℕ) → AreSources sources words → IsSource s word → AreSources (sources ++ s ∷ []) (words ++ word ∷ [])
spelled-more [] [] s word h k = (k, tt)
spelled-more [] (w ∷ words) s word h k = absurd h
spelled-more (x ∷ sources) [] s word h k = absurd h
spelled-more (x ∷ sources) (w ∷ words) s word h k = (h.0, spelled-more sources words s word h.1 k)

sources-split : (others : List Source) (words : List (List ℕ)) (word : List ℕ) → AreSources others (words ++ word ∷ [])
    → (first : List Source) × (t : Source) × AreSources first words × IsSource t word × (others ≡ first ++ t ∷ [])
sources-split [] [] word h = absurd h
sources-split (t ∷ []) [] word h = ([], t, tt, h.0, refl)
sources-split (t ∷ u ∷ others) [] word h = absurd h.1
sources-split [] (w ∷ words) word h = absurd h
sources-split (x ∷ others) (w ∷ words) word h = let p = sources-split others words word h.1 in (x ∷ p.0, p.1, (h.0, p.2), p.3, ap (λ xs. x ∷ xs) p.4)

named-more : (named : Mentions) (sources : List Source) (s : Source) → with_sources named (sources ++ s ∷ []) ≡ with_source (with_sources named sources) s
named-more named [] s = refl
named-more named (x ∷ sources) s = named-more (with_source named x) sources s

-- one word more
pub read-next : (words : List (List ℕ)) (word : List ℕ) (named next : Mentions) (s : Source) → AreRead words named → SpellsOnly IsSource word s → next ≡ with_source named s → AreRead (words ++ word ∷ []) next
read-next words word named next s h k is = record {
  sources = h.sources ++ s ∷ [];
  spelled = spelled-more h.sources words s word h.spelled k.0;
  only = λ others spelled. let p = sources-split others words word spelled in p.4 ∙ ap₂ (λ (xs : List Source) (t : Source). xs ++ t ∷ []) (h.only p.0 p.2) (k.1 p.1 p.3);
  is = is ∙ ap (λ m. with_source m s) h.is ∙ sym (named-more (record { kinds = 0; resources = 0; event = false }) h.sources s);
}

-- one word of several more
pub read-more : {A : Type 0} (f : A → List ℕ) (xs : List A) (i : ℕ) (d : A) (named next : Mentions) (s : Source) → i < length xs → AreRead (map f (take i xs)) named
    → SpellsOnly IsSource (f (get_or xs i d)) s → next ≡ with_source named s → AreRead (map f (take (i + 1) xs)) next
read-more f xs i d named next s known h k is =
    subst (λ words. AreRead words next) (sym (ap (map f) (take_more xs i d known) ∙ map-append f (take i xs) (get_or xs i d ∷ [])))
    (read-next (map f (take i xs)) (f (get_or xs i d)) named next s h k is)

-- the source at a place
pub source-at : {A : Type 0} (f : A → List ℕ) (xs : List A) (others : List Source) (i : ℕ) (d : A) → AreSources others (map f xs) → i < length xs → (s : Source) × IsSource s (f (get_or xs i d))
source-at f [] others i d h l = absurd (omega arith)
source-at f (x ∷ xs) [] i d h l = absurd h
source-at f (x ∷ xs) (s ∷ others) zero d h l = (s, h.0)
source-at f (x ∷ xs) (s ∷ others) (suc i) d h l = source-at f xs others i d h.1 (omega arith)

-- more than two values
are-many : (a b c : List ℕ) (words : List (List ℕ)) (named : Mentions) → ((other : Mentions) → IsNamedBy other (a ∷ b ∷ c ∷ words) → other ≡ named) → (v : Values) → AreValues v (a ∷ b ∷ c ∷ words) → v ≡ Many named
are-many a b c words named only Empty h = absurd h
are-many a b c words named only (One value) h = absurd h
are-many a b c words named only (Two first second) h = absurd h
are-many a b c words named only (Many other) h = ap Many (only other h)

pub many-read : (words : List (List ℕ)) (named : Mentions) → 3 ≤ length words → Reads IsNamedBy words (Some named) → Reads AreValues words (Some (Many named))
many-read [] named l h = absurd (omega arith)
many-read (a ∷ []) named l h = absurd (omega arith)
many-read (a ∷ b ∷ []) named l h = absurd (omega arith)
many-read (a ∷ b ∷ c ∷ words) named l h = (h.0, are-many a b c words named h.1)

are-none : (a b c : List ℕ) (words : List (List ℕ)) → SpellsNone IsNamedBy (a ∷ b ∷ c ∷ words) → (v : Values) → AreValues v (a ∷ b ∷ c ∷ words) → ⊥
are-none a b c words none Empty h = h
are-none a b c words none (One value) h = h
are-none a b c words none (Two first second) h = h
are-none a b c words none (Many other) h = none other h

pub none-read : (words : List (List ℕ)) → 3 ≤ length words → SpellsNone IsNamedBy words → SpellsNone AreValues words
none-read [] l none = absurd (omega arith)
none-read (a ∷ []) l none = absurd (omega arith)
none-read (a ∷ b ∷ []) l none = absurd (omega arith)
none-read (a ∷ b ∷ c ∷ words) l none = are-none a b c words none
