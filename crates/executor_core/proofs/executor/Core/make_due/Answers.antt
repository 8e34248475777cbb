use Rattle.std.proofs.Common.{ℕ, ◌<◌, true, ◌≡◌, ◌↔◌, List, [], length, get_or, Some, sym, ap, ◌∙◌, subst, arith}
use Rattle.number_set.specs.Members.{contains}
use Rattle.model.specs.access.Meeting.{Meet}
use Rattle.model.specs.steps.Schedule.{params_of, access_of}
use Rattle.executor_core.specs.Stands.{Stand}
use Rattle.executor_core.proofs.Rows.{due-sets, met_renewed, clashed_renewed, whole_put}
use Rattle.executor_core.proofs.executor.Core.make_due.Goals as goal

pub returns-clause-met : goal.returns-clause-met
returns-clause-met c = λ there e n m rows.
    let inside = c.self.inside in
    let s = inside.built.now in
    let held = inside.met.ok.0 in
    let put = whole_put c.renew_met.new.rows inside.met.items inside.met.len (omega (arith, c.renew_met.ensures.long, c.self.invariant.3.long, held)) (omega (arith, held)) in
    subst (λ (rows : List (List ℕ)). (contains (get_or rows n []) m ≡ true) ↔ ((m < length s.systems) × Meet (Some there) (params_of s m) (params_of s n))) (sym put)
    (subst (λ (numbers : List ℕ). (contains (get_or c.renew_met.new.rows n []) m ≡ true) ↔ ((m < length s.systems) × Meet (Some numbers) (params_of s m) (params_of s n))) (c.as_slice.ensures.value ∙ due-sets inside.is_due inside.due.items there (ap (λ (x : Stand). x.due) c.self.view_is ∙ e)) (met_renewed s c.renew_met.new.rows c.as_slice.result.now c.renew_met.ensures n m))

pub returns-clause-clashed : goal.returns-clause-clashed
returns-clause-clashed c = λ there e k m rows.
    let inside = c.self.inside in
    let s = inside.built.now in
    let held = inside.clashed.ok.0 in
    let put = whole_put c.renew_clashed.new.rows inside.clashed.items inside.clashed.len (omega (arith, c.renew_clashed.ensures.long, c.self.invariant.4.long, held)) (omega (arith, held)) in
    subst (λ (rows : List (List ℕ)). (contains (get_or rows k []) m ≡ true) ↔ ((m < length s.systems) × Meet (Some there) (params_of s m) (access_of s k))) (sym put)
    (subst (λ (numbers : List ℕ). (contains (get_or c.renew_clashed.new.rows k []) m ≡ true) ↔ ((m < length s.systems) × Meet (Some numbers) (params_of s m) (access_of s k))) (c.as_slice-2.ensures.value ∙ due-sets inside.is_due inside.due.items there (ap (λ (x : Stand). x.due) c.self.view_is ∙ e)) (clashed_renewed s c.renew_clashed.new.rows c.as_slice-2.result.now c.renew_clashed.ensures k m))
