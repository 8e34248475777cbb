use Rattle.std.proofs.Common.{ℕ, Bor, List, map, arith}
use Rattle.std.proofs.lemmas.List.{length-map}
use Rattle.query.proofs.KindTerms.{term_none, named, unnamed}
use Rattle.parsing.specs.Reads.{Reads}
use Rattle.query.specs.Grammar.{AreTerm}
use Rattle.query.proofs.WordLists.{one_word, three_words}
use Rattle.query.proofs.term.Term.of_words.Goals as goal

pub returns-in_default : goal.returns-in_default
returns-in_default c = λ term h.
    let many = length-map c.args.words.now (λ (word : Bor (List ℕ)). word.now) in
    term_none term (map (λ (word : Bor (List ℕ)). word.now) c.args.words.now)
    (λ e. omega arith) (λ e. omega arith) (λ e. omega arith) (λ e. omega arith) (λ e. omega arith) h

pub returns-in_err-named-in-len2 : goal.returns-in_err-named-in-len2
returns-in_err-named-in-len2 c = rw c.from_residual.ensures (unnamed c.args.words.now _ c.in-len2.len_at_least (omega arith) c.in_err-named-in-len2.ensures)

pub returns-in_ok-named-in-len2 : goal.returns-in_ok-named-in-len2
returns-in_ok-named-in-len2 c = named c.args.words.now _ _ c.of_kind.result c.in-len2.len_at_least (omega arith) c.in_ok-named-in-len2.ensures.0 c.of_kind.ensures

pub returns-in-len1 : goal.returns-in-len1
returns-in-len1 c = one_word (λ ws. Reads AreTerm ws c.of_word.result) c.args.words.now _ c.in-len1.len_at_least c.in-len1.len_below c.of_word.ensures

pub returns-in-len3-up : goal.returns-in-len3-up
returns-in-len3-up c = three_words (λ ws. Reads AreTerm ws c.of_or.result) c.args.words.now _ _ _ c.in-len3-up.len_at_least c.of_or.ensures
