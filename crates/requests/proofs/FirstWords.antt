-- What stands behind the first word of a line.
use Rattle.std.proofs.Common.{◌≡◌, ◌≢◌, ℕ, Bool, true, false, List, codes, Option, Some, None, refl, sym, ap, ap₂, subst}
use Rattle.parsing.specs.Integer.{IsNumber}
use Rattle.parsing.specs.Reads.{Reads, SpellsNone, SpellsOnly}
use Rattle.parsing.specs.Words.{AreSpaces}
use Rattle.tokens.specs.FirstWord.{IsFirstWord}
use Rattle.requests.specs.Load.{EndsLoad, IsBehindLoad, IsLoad}
use Rattle.requests.specs.declared.load.Load.{Load}

-- ---- behind `load`

module _ (line word rest : List ℕ) (only : SpellsOnly IsFirstWord line (word, rest)) where
  -- there is one way to take the first word
  pub one_rest : (first more : List ℕ) → IsFirstWord (first, more) line → (first ≡ word) × (more ≡ rest)
  one_rest first more h = (ap (λ (p : List ℕ × List ℕ). p.0) (only.1 (first, more) h), ap (λ (p : List ℕ × List ℕ). p.1) (only.1 (first, more) h))

  -- what the rest is read as
  pub reads_rest : word ≡ codes "load" → (r : Option Load) → Reads IsBehindLoad rest r → Reads IsLoad line r
  reads_rest is None none = λ load h. none load (subst (IsBehindLoad load) (one_rest (codes "load") h.0 h.1).1 h.2)
  reads_rest is (Some load) this = (
    (rest, subst (λ first. IsFirstWord (first, rest) line) is only.0, this.0),
    λ other h. this.1 other (subst (IsBehindLoad other) (one_rest (codes "load") h.0 h.1).1 h.2),
  )

  -- another first word
  pub other_word : word ≢ codes "load" → SpellsNone IsLoad line
  other_word other = λ load h. other (sym (one_rest (codes "load") h.0 h.1).0)

-- no word
pub no_word : (line : List ℕ) → SpellsNone IsFirstWord line → SpellsNone IsLoad line
no_word line none = λ load h. none (codes "load", h.0) h.1

-- ---- how many lines follow

module _ (text word rest : List ℕ) (only : SpellsOnly IsFirstWord text (word, rest)) where
  pub no_number : SpellsNone IsNumber word → SpellsNone IsBehindLoad text
  no_number none = λ load h. none load.lines (subst (IsNumber load.lines) (one_rest text word rest only h.0 h.1 h.2).0 h.3)

  pub no_end : SpellsNone EndsLoad rest → SpellsNone IsBehindLoad text
  no_end none = λ load h. none load.anyway (subst (EndsLoad load.anyway) (one_rest text word rest only h.0 h.1 h.2).1 h.4)

  pub only_behind : (lines : ℕ) (anyway : Bool) → SpellsOnly IsNumber word lines → SpellsOnly EndsLoad rest anyway → SpellsOnly IsBehindLoad text (record { lines = lines; anyway = anyway })
  only_behind lines anyway number end = (
    (word, rest, only.0, number.0, end.0),
    λ load h.
        let same = one_rest text word rest only h.0 h.1 h.2 in
        ap₂ (λ n b. (let l : Load = record { lines = n; anyway = b } in l)) (number.1 load.lines (subst (IsNumber load.lines) same.0 h.3)) (end.1 load.anyway (subst (EndsLoad load.anyway) same.1 h.4)),
  )

pub no_lines : (text : List ℕ) → SpellsNone IsFirstWord text → SpellsNone IsBehindLoad text
no_lines text none = λ load h. none (h.0, h.1) h.2

-- ---- how it ends

pub ends_bare : (text : List ℕ) → SpellsNone IsFirstWord text → SpellsOnly EndsLoad text false
ends_bare text none = (none, go)
  where
    go : (b : Bool) → EndsLoad b text → b ≡ false
    go false h = refl
    go true h = absurd (none (codes "anyway", h.0) h.1)

pub ends_anyway : (text rest : List ℕ) → SpellsOnly IsFirstWord text (codes "anyway", rest) → AreSpaces rest → SpellsOnly EndsLoad text true
ends_anyway text rest only over = ((rest, only.0, over), go)
  where
    go : (b : Bool) → EndsLoad b text → b ≡ true
    go false h = absurd (h (codes "anyway", rest) only.0)
    go true h = refl

pub ends_not : (text word rest : List ℕ) → SpellsOnly IsFirstWord text (word, rest) → (word ≡ codes "anyway" → AreSpaces rest → ⊥) → SpellsNone EndsLoad text
ends_not text word rest only other false h = h (word, rest) only.0
ends_not text word rest only other true h =
    let same = one_rest text word rest only (codes "anyway") h.0 h.1 in
    other (sym same.0) (subst AreSpaces same.1 h.2)
