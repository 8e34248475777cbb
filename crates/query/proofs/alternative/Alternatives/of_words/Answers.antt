use Rattle.std.proofs.Common.{ℕ, Bor, List, ◌∷◌, map, codes, arith}
use Rattle.std.proofs.lemmas.List.{length-map}
use Rattle.query.proofs.KindTerms.{or_none}
use Rattle.parsing.specs.Reads.{Reads}
use Rattle.query.proofs.OrTerms.{AreOr}
use Rattle.query.proofs.WordLists.{two_words, four_words}
use Rattle.query.proofs.alternative.Alternatives.of_words.Goals as goal

pub returns-in_default : goal.returns-in_default
returns-in_default c = λ alternatives h.
    let many = length-map c.args.more.now (λ (word : Bor (List ℕ)). word.now) in
    or_none alternatives (codes "or" ∷ c.args.u.now ∷ c.args.k.now ∷ map (λ (word : Bor (List ℕ)). word.now) c.args.more.now)
    (λ e. omega arith) (λ e. omega arith) (λ e. omega arith) h

pub returns-in_default-2 : goal.returns-in_default-2
returns-in_default-2 c = λ alternatives h.
    let many = length-map c.args.more.now (λ (word : Bor (List ℕ)). word.now) in
    or_none alternatives (codes "or" ∷ c.args.u.now ∷ c.args.k.now ∷ map (λ (word : Bor (List ℕ)). word.now) c.args.more.now)
    (λ e. omega arith) (λ e. omega arith) (λ e. omega arith) h

pub returns-in-len2 : goal.returns-in-len2
returns-in-len2 c =
    two_words (λ ws. Reads AreOr (codes "or" ∷ c.args.u.now ∷ c.args.k.now ∷ ws) c.of_two.result) c.args.more.now _ _ c.in-len2.len_at_least c.in-len2.len_below c.of_two.ensures

pub returns-in-len4-up : goal.returns-in-len4-up
returns-in-len4-up c =
    four_words (λ ws. Reads AreOr (codes "or" ∷ c.args.u.now ∷ c.args.k.now ∷ ws) c.of_more.result) c.args.more.now _ _ _ _ c.in-len4-up.len_at_least c.of_more.ensures
