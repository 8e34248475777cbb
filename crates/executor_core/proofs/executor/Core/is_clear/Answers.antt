use Rattle.std.proofs.Common.{◌<◌, ◌≡◌, ◌↔◌, ℕ, List, IsTrue, length, sym, subst, ◌∙◌, arith}
use Rattle.number_set.specs.Members.{SharesOnly}
use Rattle.executor_core.specs.Judges.{NoneMeets}
use Rattle.executor_core.specs.Stands.{Stand}
use Rattle.executor_core.proofs.Rows.{row_roomy, row_there}
use Rattle.executor_core.proofs.executor.Core.is_clear.Goals as goal

-- it is one of the schedule
known : (n : ℕ) (s now : Stand) → s ≡ now → n < length now.schedule.systems → n < length s.schedule.systems
known n s now is below = subst (λ (t : Stand). n < length t.schedule.systems) (sym is) below

-- so there is a row for it, with room for all systems
pub index-requires : goal.index-requires
index-requires c =
    let held = c.self.inside.met.ok.0 in
    let below : c.args.system < length c.self.inside.built.now.systems = known c.args.system _ _ c.self.view_is c.requires in
    omega (arith, c.self.invariant.3.long, held)

pub shares_only-requires-clause-other : goal.shares_only-requires-clause-other
shares_only-requires-clause-other c = row_roomy _ _ c.self.inside.met.items c.args.system c.index.result.now c.self.invariant.3 (known c.args.system _ _ c.self.view_is c.requires) c.index.ensures ∙ sym c.self.invariant.0.begun

pub shares_only-requires-clause-allowed : goal.shares_only-requires-clause-allowed
shares_only-requires-clause-allowed c = row_roomy _ _ c.self.inside.met.items c.args.system c.index.result.now c.self.invariant.3 (known c.args.system _ _ c.self.view_is c.requires) c.index.ensures ∙ sym c.self.invariant.0.over

-- and it is looked at as it stands
pub returns : goal.returns
returns c =
    subst (λ (s : Stand). IsTrue c.shares_only.result ↔ NoneMeets s c.args.system) c.self.view_is
    (subst (λ (row : List ℕ). IsTrue c.shares_only.result ↔ SharesOnly row c.self.inside.begun c.self.inside.over)
    (row_there _ _ c.self.inside.met.items c.args.system c.index.result.now c.self.invariant.3 (known c.args.system _ _ c.self.view_is c.requires) c.index.ensures) c.shares_only.ensures)
