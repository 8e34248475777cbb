use Rattle.std.proofs.Common.{ℕ, List, codes, sym, subst, ◌∙◌}
use Rattle.std.proofs.lemmas.Bool.{false≢true}
use Rattle.std.proofs.lemmas.Slice.Eq.{bytes_eq-Decides}
use Rattle.parsing.specs.Reads.{SpellsOnly}
use Rattle.tokens.specs.FirstWord.{IsFirstWord}
use Rattle.requests.proofs.FirstWords.{ends_bare, ends_anyway, ends_not}
use Rattle.requests.proofs.load.end_of_load.Goals as goal
use Rattle.requests.proofs.load.end_of_load.Goals.{else-eq-via-then-eq+else-is_blank, else-eq-via-else-eq}

pub returns-in_default : goal.returns-in_default
returns-in_default c = ends_bare c.args.text.now c.in_default.ensures

pub returns-then-is_blank : goal.returns-then-is_blank
returns-then-is_blank c =
    ends_anyway c.args.text.now c.in-Some.rest.now
    (subst (λ (word : List ℕ). SpellsOnly IsFirstWord c.args.text.now (word, c.in-Some.rest.now)) ((bytes_eq-Decides c.in-Some.word.now (codes "anyway")).0 (sym c.if-eq.ensures)) c.in-Some.ensures) (c.is_blank.ensures.0 c.if-is_blank.true)

pub returns : goal.returns
returns c = elim c.else-eq.branch [
  | else-eq-via-then-eq+else-is_blank w ↦ ends_not c.args.text.now c.in-Some.word.now c.in-Some.rest.now c.in-Some.ensures (λ is over. false≢true (sym w.if-is_blank.false ∙ w.is_blank.ensures.1 over))
  | else-eq-via-else-eq w ↦ ends_not c.args.text.now c.in-Some.word.now c.in-Some.rest.now c.in-Some.ensures (λ is over. false≢true (w.if-eq.ensures ∙ (bytes_eq-Decides c.in-Some.word.now (codes "anyway")).1 is))
]
