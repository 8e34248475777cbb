use Rattle.std.proofs.Common.{ℕ, true, ◌||◌, ◌==◌, ◌≡◌, inl, inr, List, get_or, ap, sym, subst, ◌∙◌}
use Rattle.std.proofs.lemmas.Bool.{cases_lt, or_right}
use Rattle.number_set.specs.Members.{contains}
use Rattle.executor_core.specs.Stands.{IsPassed, Stand}
use Rattle.executor_core.proofs.executor.Core.begin.Goals as goal

-- the rows have the room that they had
pub invariant_of-self : goal.invariant_of-self
invariant_of-self c = (
  record { begun = c.insert.ensures.room ∙ c.self.invariant.0.begun; over = c.self.invariant.0.over },
  c.self.invariant.1,
  c.self.invariant.2,
  c.self.invariant.3,
  c.self.invariant.4,
)

-- one system has begun, and the rest is as it was
pub returns-clause-rest : goal.returns-clause-rest
returns-clause-rest c = ap (λ (s : Stand). record s { begun = c.insert.new.self; from = c.first_waiting-self-inside.result }) c.self.view_is

pub returns-clause-begun : goal.returns-clause-begun
returns-clause-begun c = λ n. c.insert.ensures.members n ∙ ap (λ (s : Stand). (c.args.system == n) || contains s.begun n) c.self.view_is

-- those before the place had begun, or are passed now
pub returns-clause-passed : goal.returns-clause-passed
returns-clause-passed c = λ passed k below.
    let inside = c.self.inside in
    let n : ℕ = get_or inside.built.now.order k 0 in
    elim (cases_lt k inside.from) [
      | inl before ↦ c.insert.ensures.members n ∙ or_right (c.args.system == n) (contains inside.begun n) (subst IsPassed (sym c.self.view_is) passed k before)
      | inr after ↦ subst (λ (order : List ℕ). contains c.insert.new.self (get_or order k 0) ≡ true) c.order.ensures (c.first_waiting-self-inside.ensures k after below)
    ]
