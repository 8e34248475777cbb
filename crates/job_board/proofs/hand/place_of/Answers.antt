use Rattle.std.proofs.Common.{rules, arith, ◌≡◌, ◌<◌, ◌∙◌, ℕ, sym, ap, subst, length}
use mathlib.Core.Option.{some, some-injective}
use mathlib.Core.Logic.{dite}
use native.Mathlib.Decide.{ℕ_discrete}
use lib.ListN.{get_elem?}
use Rattle.atomic_table.proofs.Lists.{at_index}
use Rattle.job_board.proofs.Places.{within}
use Rattle.job_board.proofs.hand.place_of.Goals as goal

pub returns-then-index-number : goal.returns-then-index-number
returns-then-index-number c = let near : c.loop-place.place < length c.args.held.now.items = search rules in
    (c.index.result.now.1, at_index c.args.held.now.items c.loop-place.place c.index.result.now near c.index.ensures ∙ ap (λ (z : ℕ). some (z, c.index.result.now.1)) c.if-index-number.true)

pub loop-place-preserved : goal.loop-place-preserved
loop-place-preserved c = λ at k lt e. let near : c.loop-place.place < length c.args.held.now.items = search rules in
    dite (ℕ_discrete at c.loop-place.place)
    (λ same. let here = at_index c.args.held.now.items c.loop-place.place c.index.result.now near c.index.ensures in
    let it : some c.index.result.now ≡ some (c.args.number, k) = sym here ∙ subst (λ (z : ℕ). get_elem? c.args.held.now.items z ≡ some (c.args.number, k)) same e in
    c.if-index-number.false (ap (λ (z : ℕ × ℕ). z.0) (some-injective c.index.result.now (c.args.number, k) it)))
    (λ other. let before : at < c.loop-place.place = omega arith in c.loop-place.invariant at k before e)

pub returns : goal.returns
returns c = λ at k e. let near : at < length c.args.held.now.items = within c.args.held.now.items at (c.args.number, k) e in let before : at < c.loop-place.place = search rules in c.loop-place.invariant at k before e
