-- The words of a term: how many there may be, and which term over a kind the first makes.
use Rattle.std.proofs.Common.{◌≡◌, ◌<◌, ◌≤◌, ℕ, Bor, List, [], ◌∷◌, Option, map, length, get_or, cond, codes, refl, sym, ap, subst, arith, ◌∙◌}
use Rattle.std.specs.Str.{bytes_eq}
use Rattle.kinds.specs.declared.kind.Kind.{Kind}
use Rattle.kinds.specs.Kind.{kind_name, IsKind, NamesAreApart}
use Rattle.parsing.specs.Reads.{Reads, SpellsNone}
use Rattle.query.specs.declared.term.Term.{Term}
use Rattle.query.specs.declared.term.Term.TheVariants.{Entity, Read, Mut, Opt, With, Without, Added, Changed, Or}
use Rattle.query.specs.declared.alternative.Alternatives.{Alternatives}
use Rattle.query.specs.declared.alternative.Alternatives.TheVariants.{Zero, One, Two, Three, Four, Five}
use Rattle.query.specs.Grammar.{AreTerm}

-- an `or` term has five words, or seven, or nine
pub or_none : (alternatives : Alternatives) (words : List (List ℕ)) → (length words ≡ 5 → ⊥) → (length words ≡ 7 → ⊥) → (length words ≡ 9 → ⊥) → AreTerm (Or alternatives) words → ⊥
or_none Zero words five seven nine h = h
or_none (One xs) words five seven nine h = h
or_none (Two ([])) words five seven nine h = h
or_none (Two (a ∷ [])) words five seven nine h = h
or_none (Two (a ∷ b ∷ [])) ([]) five seven nine h = h
or_none (Two (a ∷ b ∷ [])) (w0 ∷ []) five seven nine h = h
or_none (Two (a ∷ b ∷ [])) (w0 ∷ w1 ∷ []) five seven nine h = h
or_none (Two (a ∷ b ∷ [])) (w0 ∷ w1 ∷ w2 ∷ []) five seven nine h = h
or_none (Two (a ∷ b ∷ [])) (w0 ∷ w1 ∷ w2 ∷ w3 ∷ []) five seven nine h = h
or_none (Two (a ∷ b ∷ [])) (w0 ∷ w1 ∷ w2 ∷ w3 ∷ w4 ∷ []) five seven nine h = five refl
or_none (Two (a ∷ b ∷ [])) (w0 ∷ w1 ∷ w2 ∷ w3 ∷ w4 ∷ w5 ∷ words) five seven nine h = h
or_none (Two (a ∷ b ∷ c ∷ xs)) words five seven nine h = h
or_none (Three ([])) words five seven nine h = h
or_none (Three (a ∷ [])) words five seven nine h = h
or_none (Three (a ∷ b ∷ [])) words five seven nine h = h
or_none (Three (a ∷ b ∷ c ∷ [])) ([]) five seven nine h = h
or_none (Three (a ∷ b ∷ c ∷ [])) (w0 ∷ []) five seven nine h = h
or_none (Three (a ∷ b ∷ c ∷ [])) (w0 ∷ w1 ∷ []) five seven nine h = h
or_none (Three (a ∷ b ∷ c ∷ [])) (w0 ∷ w1 ∷ w2 ∷ []) five seven nine h = h
or_none (Three (a ∷ b ∷ c ∷ [])) (w0 ∷ w1 ∷ w2 ∷ w3 ∷ []) five seven nine h = h
or_none (Three (a ∷ b ∷ c ∷ [])) (w0 ∷ w1 ∷ w2 ∷ w3 ∷ w4 ∷ []) five seven nine h = h
or_none (Three (a ∷ b ∷ c ∷ [])) (w0 ∷ w1 ∷ w2 ∷ w3 ∷ w4 ∷ w5 ∷ []) five seven nine h = h
or_none (Three (a ∷ b ∷ c ∷ [])) (w0 ∷ w1 ∷ w2 ∷ w3 ∷ w4 ∷ w5 ∷ w6 ∷ []) five seven nine h = seven refl
or_none (Three (a ∷ b ∷ c ∷ [])) (w0 ∷ w1 ∷ w2 ∷ w3 ∷ w4 ∷ w5 ∷ w6 ∷ w7 ∷ words) five seven nine h = h
or_none (Three (a ∷ b ∷ c ∷ d ∷ xs)) words five seven nine h = h
or_none (Four ([])) words five seven nine h = h
or_none (Four (a ∷ [])) words five seven nine h = h
or_none (Four (a ∷ b ∷ [])) words five seven nine h = h
or_none (Four (a ∷ b ∷ c ∷ [])) words five seven nine h = h
or_none (Four (a ∷ b ∷ c ∷ d ∷ [])) ([]) five seven nine h = h
or_none (Four (a ∷ b ∷ c ∷ d ∷ [])) (w0 ∷ []) five seven nine h = h
or_none (Four (a ∷ b ∷ c ∷ d ∷ [])) (w0 ∷ w1 ∷ []) five seven nine h = h
or_none (Four (a ∷ b ∷ c ∷ d ∷ [])) (w0 ∷ w1 ∷ w2 ∷ []) five seven nine h = h
or_none (Four (a ∷ b ∷ c ∷ d ∷ [])) (w0 ∷ w1 ∷ w2 ∷ w3 ∷ []) five seven nine h = h
or_none (Four (a ∷ b ∷ c ∷ d ∷ [])) (w0 ∷ w1 ∷ w2 ∷ w3 ∷ w4 ∷ []) five seven nine h = h
or_none (Four (a ∷ b ∷ c ∷ d ∷ [])) (w0 ∷ w1 ∷ w2 ∷ w3 ∷ w4 ∷ w5 ∷ []) five seven nine h = h
or_none (Four (a ∷ b ∷ c ∷ d ∷ [])) (w0 ∷ w1 ∷ w2 ∷ w3 ∷ w4 ∷ w5 ∷ w6 ∷ []) five seven nine h = h
or_none (Four (a ∷ b ∷ c ∷ d ∷ [])) (w0 ∷ w1 ∷ w2 ∷ w3 ∷ w4 ∷ w5 ∷ w6 ∷ w7 ∷ []) five seven nine h = h
or_none (Four (a ∷ b ∷ c ∷ d ∷ [])) (w0 ∷ w1 ∷ w2 ∷ w3 ∷ w4 ∷ w5 ∷ w6 ∷ w7 ∷ w8 ∷ []) five seven nine h = nine refl
or_none (Four (a ∷ b ∷ c ∷ d ∷ [])) (w0 ∷ w1 ∷ w2 ∷ w3 ∷ w4 ∷ w5 ∷ w6 ∷ w7 ∷ w8 ∷ w9 ∷ words) five seven nine h = h
or_none (Four (a ∷ b ∷ c ∷ d ∷ e ∷ xs)) words five seven nine h = h
or_none (Five xs) words five seven nine h = h

-- two words are no `or` term
no_or : (word name : List ℕ) (alternatives : Alternatives) → AreTerm (Or alternatives) (word ∷ name ∷ []) → ⊥
no_or word name alternatives h = or_none alternatives (word ∷ name ∷ []) (λ e. cc) (λ e. cc) (λ e. cc) h

-- a term has one word, or two, or those of an `or` term
pub term_none : (term : Term) (words : List (List ℕ)) → (length words ≡ 1 → ⊥) → (length words ≡ 2 → ⊥) → (length words ≡ 5 → ⊥) → (length words ≡ 7 → ⊥) → (length words ≡ 9 → ⊥) → AreTerm term words → ⊥
term_none Entity [] one two five seven nine h = h
term_none Entity (a ∷ []) one two five seven nine h = one refl
term_none Entity (a ∷ b ∷ words) one two five seven nine h = h
term_none (Read kind) [] one two five seven nine h = h
term_none (Read kind) (a ∷ []) one two five seven nine h = h
term_none (Read kind) (a ∷ b ∷ []) one two five seven nine h = two refl
term_none (Read kind) (a ∷ b ∷ c ∷ words) one two five seven nine h = h
term_none (Mut kind) [] one two five seven nine h = h
term_none (Mut kind) (a ∷ []) one two five seven nine h = h
term_none (Mut kind) (a ∷ b ∷ []) one two five seven nine h = two refl
term_none (Mut kind) (a ∷ b ∷ c ∷ words) one two five seven nine h = h
term_none (Opt kind) [] one two five seven nine h = h
term_none (Opt kind) (a ∷ []) one two five seven nine h = h
term_none (Opt kind) (a ∷ b ∷ []) one two five seven nine h = two refl
term_none (Opt kind) (a ∷ b ∷ c ∷ words) one two five seven nine h = h
term_none (With kind) [] one two five seven nine h = h
term_none (With kind) (a ∷ []) one two five seven nine h = h
term_none (With kind) (a ∷ b ∷ []) one two five seven nine h = two refl
term_none (With kind) (a ∷ b ∷ c ∷ words) one two five seven nine h = h
term_none (Without kind) [] one two five seven nine h = h
term_none (Without kind) (a ∷ []) one two five seven nine h = h
term_none (Without kind) (a ∷ b ∷ []) one two five seven nine h = two refl
term_none (Without kind) (a ∷ b ∷ c ∷ words) one two five seven nine h = h
term_none (Added kind) [] one two five seven nine h = h
term_none (Added kind) (a ∷ []) one two five seven nine h = h
term_none (Added kind) (a ∷ b ∷ []) one two five seven nine h = two refl
term_none (Added kind) (a ∷ b ∷ c ∷ words) one two five seven nine h = h
term_none (Changed kind) [] one two five seven nine h = h
term_none (Changed kind) (a ∷ []) one two five seven nine h = h
term_none (Changed kind) (a ∷ b ∷ []) one two five seven nine h = two refl
term_none (Changed kind) (a ∷ b ∷ c ∷ words) one two five seven nine h = h
term_none (Or alternatives) words one two five seven nine h = or_none alternatives words five seven nine h

-- the term that a word makes of a kind
abbrev pub term_with : Kind → List ℕ → Term
term_with kind word = cond (bytes_eq word (codes "read")) (Read kind) (cond (bytes_eq word (codes "mut")) (Mut kind) (cond (bytes_eq word (codes "opt")) (Opt kind) (cond (bytes_eq word (codes "with")) (With kind) (cond (bytes_eq word (codes "without")) (Without kind) (cond (bytes_eq word (codes "added")) (Added kind) (cond (bytes_eq word (codes "changed")) (Changed kind) Entity))))))

-- a word makes one term of a kind
pub only_with : NamesAreApart → (kind : Kind) (word : List ℕ) (v : Term) → AreTerm v (word ∷ kind_name kind ∷ []) → v ≡ term_with kind word
only_with apart kind word Entity h = absurd h
only_with apart kind word (Read k) h = ap Read (apart k kind (sym h.1)) ∙ sym (ap (term_with kind) h.0)
only_with apart kind word (Mut k) h = ap Mut (apart k kind (sym h.1)) ∙ sym (ap (term_with kind) h.0)
only_with apart kind word (Opt k) h = ap Opt (apart k kind (sym h.1)) ∙ sym (ap (term_with kind) h.0)
only_with apart kind word (With k) h = ap With (apart k kind (sym h.1)) ∙ sym (ap (term_with kind) h.0)
only_with apart kind word (Without k) h = ap Without (apart k kind (sym h.1)) ∙ sym (ap (term_with kind) h.0)
only_with apart kind word (Added k) h = ap Added (apart k kind (sym h.1)) ∙ sym (ap (term_with kind) h.0)
only_with apart kind word (Changed k) h = ap Changed (apart k kind (sym h.1)) ∙ sym (ap (term_with kind) h.0)
only_with apart kind word (Or alternatives) h = absurd (no_or word (kind_name kind) alternatives h)

-- other words make none
pub none_with : (kind : Kind) (word : List ℕ) → (word ≡ codes "read" → ⊥) → (word ≡ codes "mut" → ⊥) → (word ≡ codes "opt" → ⊥) → (word ≡ codes "with" → ⊥) → (word ≡ codes "without" → ⊥) → (word ≡ codes "added" → ⊥) → (word ≡ codes "changed" → ⊥) → (v : Term) → AreTerm v (word ∷ kind_name kind ∷ []) → ⊥
none_with kind word rea_not mut_not opt_not wit_not out_not add_not cha_not Entity h = h
none_with kind word rea_not mut_not opt_not wit_not out_not add_not cha_not (Read k) h = rea_not h.0
none_with kind word rea_not mut_not opt_not wit_not out_not add_not cha_not (Mut k) h = mut_not h.0
none_with kind word rea_not mut_not opt_not wit_not out_not add_not cha_not (Opt k) h = opt_not h.0
none_with kind word rea_not mut_not opt_not wit_not out_not add_not cha_not (With k) h = wit_not h.0
none_with kind word rea_not mut_not opt_not wit_not out_not add_not cha_not (Without k) h = out_not h.0
none_with kind word rea_not mut_not opt_not wit_not out_not add_not cha_not (Added k) h = add_not h.0
none_with kind word rea_not mut_not opt_not wit_not out_not add_not cha_not (Changed k) h = cha_not h.0
none_with kind word rea_not mut_not opt_not wit_not out_not add_not cha_not (Or alternatives) h = no_or word (kind_name kind) alternatives h

-- two words of which the second names no kind are no term
unnamed_words : (word name : List ℕ) → SpellsNone IsKind name → SpellsNone AreTerm (word ∷ name ∷ [])
unnamed_words word name none Entity h = h
unnamed_words word name none (Read kind) h = none kind h.1
unnamed_words word name none (Mut kind) h = none kind h.1
unnamed_words word name none (Opt kind) h = none kind h.1
unnamed_words word name none (With kind) h = none kind h.1
unnamed_words word name none (Without kind) h = none kind h.1
unnamed_words word name none (Added kind) h = none kind h.1
unnamed_words word name none (Changed kind) h = none kind h.1
unnamed_words word name none (Or alternatives) h = no_or word name alternatives h

-- the same of the words that references lead to
pub unnamed : (words : List (Bor (List ℕ))) (d : Bor (List ℕ)) → 2 ≤ length words → length words < 3 → SpellsNone IsKind (get_or words 1 d).now → SpellsNone AreTerm (map (λ (word : Bor (List ℕ)). word.now) words)
unnamed [] d low high none = absurd (omega arith)
unnamed (a ∷ []) d low high none = absurd (omega arith)
unnamed (a ∷ b ∷ []) d low high none = unnamed_words a.now b.now none
unnamed (a ∷ b ∷ c ∷ words) d low high none = absurd (omega arith)

-- two words of which the second names a kind are read as a word and a kind
pub named : (words : List (Bor (List ℕ))) (d : Bor (List ℕ)) (kind : Kind) (r : Option Term) → 2 ≤ length words → length words < 3 → IsKind kind (get_or words 1 d).now → Reads AreTerm ((get_or words 0 d).now ∷ kind_name kind ∷ []) r → Reads AreTerm (map (λ (word : Bor (List ℕ)). word.now) words) r
named [] d kind r low high is h = absurd (omega arith)
named (a ∷ []) d kind r low high is h = absurd (omega arith)
named (a ∷ b ∷ []) d kind r low high is h = subst (λ (name : List ℕ). Reads AreTerm (a.now ∷ name ∷ []) r) (sym is) h
named (a ∷ b ∷ c ∷ words) d kind r low high is h = absurd (omega arith)
