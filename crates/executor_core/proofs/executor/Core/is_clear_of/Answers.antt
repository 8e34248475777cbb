use Rattle.std.proofs.Common.{◌<◌, ◌≡◌, ◌↔◌, ℕ, List, IsTrue, length, sym, subst, ◌∙◌, arith}
use Rattle.number_set.specs.Members.{SharesOnly}
use Rattle.executor_core.specs.Judges.{NoneClashes}
use Rattle.executor_core.specs.Stands.{Stand}
use Rattle.executor_core.proofs.Rows.{row_roomy, row_there}
use Rattle.executor_core.proofs.executor.Core.is_clear_of.Goals as goal

-- it is one of the schedule
known : (n : ℕ) (s now : Stand) → s ≡ now → n < length now.schedule.conditions → n < length s.schedule.conditions
known n s now is below = subst (λ (t : Stand). n < length t.schedule.conditions) (sym is) below

-- so there is a row for it, with room for all systems
pub index-requires : goal.index-requires
index-requires c =
    let held = c.self.inside.clashed.ok.0 in
    let below : c.args.condition < length c.self.inside.built.now.conditions = known c.args.condition _ _ c.self.view_is c.requires in
    omega (arith, c.self.invariant.4.long, held)

pub shares_only-requires-clause-other : goal.shares_only-requires-clause-other
shares_only-requires-clause-other c = row_roomy _ _ c.self.inside.clashed.items c.args.condition c.index.result.now c.self.invariant.4 (known c.args.condition _ _ c.self.view_is c.requires) c.index.ensures ∙ sym c.self.invariant.0.begun

pub shares_only-requires-clause-allowed : goal.shares_only-requires-clause-allowed
shares_only-requires-clause-allowed c = row_roomy _ _ c.self.inside.clashed.items c.args.condition c.index.result.now c.self.invariant.4 (known c.args.condition _ _ c.self.view_is c.requires) c.index.ensures ∙ sym c.self.invariant.0.over

-- and it is looked at as it stands
pub returns : goal.returns
returns c =
    subst (λ (s : Stand). IsTrue c.shares_only.result ↔ NoneClashes s c.args.condition) c.self.view_is
    (subst (λ (row : List ℕ). IsTrue c.shares_only.result ↔ SharesOnly row c.self.inside.begun c.self.inside.over)
    (row_there _ _ c.self.inside.clashed.items c.args.condition c.index.result.now c.self.invariant.4 (known c.args.condition _ _ c.self.view_is c.requires) c.index.ensures) c.shares_only.ensures)
