use Rattle.std.proofs.Common.{rules, ℕ, ◌+◌, ◌<◌, ◌≡◌, ◌≢◌, length, get_or, sym, ap, subst}
use Rattle.executor_core.specs.Stands.{Stand}
use Rattle.executor_core.specs.Judges.{HasCounts}
use Rattle.executor_core.proofs.Counted.{some_left, level_left, counted_less}
use Rattle.executor_core.proofs.executor.Core.end.Goals as goal

pub lower_each-requires-clause-above : goal.lower_each-requires-clause-above
unfolding HasCounts
lower_each-requires-clause-above c =
    let inside = c.self.inside in
    let known : c.args.system < length inside.built.now.systems = subst (λ (n : ℕ). c.args.system < n) (sym (ap (λ (s : Stand). length s.schedule.systems) c.self.view_is)) c.requires in
    some_left inside.built.now.systems inside.over inside.waits inside.left c.after.result.now c.args.system c.self.invariant.1 c.after.ensures known (sym c.if-contains.ensures)

pub lower-requires : goal.lower-requires
unfolding HasCounts
lower-requires c =
    let inside = c.self.inside in
    let known : c.args.system < length inside.built.now.systems = subst (λ (n : ℕ). c.args.system < n) (sym (ap (λ (s : Stand). length s.schedule.systems) c.self.view_is)) c.requires in
    subst (λ (k : ℕ). 0 < get_or inside.left k 0) (sym c.level.ensures) (level_left inside.built.now.systems inside.over inside.waits inside.left c.args.system c.self.invariant.1 known (sym c.if-contains.ensures))

pub invariant_of-self : goal.invariant_of-self
unfolding HasCounts
invariant_of-self c =
    let inside = c.self.inside in
    let known : c.args.system < length inside.built.now.systems = subst (λ (n : ℕ). c.args.system < n) (sym (ap (λ (s : Stand). length s.schedule.systems) c.self.view_is)) c.requires in (
      search rules,
      counted_less inside.built.now.systems inside.over c.insert.new.self inside.waits c.lower_each.new.self inside.left c.lower.new.self c.after.result.now c.args.system c.self.invariant.1 c.after.ensures
          known (sym c.if-contains.ensures) c.insert.ensures.members c.lower_each.ensures
          (subst (λ (k : ℕ). get_or c.lower.new.self k 0 + 1 ≡ get_or inside.left k 0) c.level.ensures c.lower.ensures.lowered)
          (subst (λ (j : ℕ). (k : ℕ) → k ≢ j → get_or c.lower.new.self k 0 ≡ get_or inside.left k 0) c.level.ensures c.lower.ensures.rest),
      c.self.invariant.2,
      c.self.invariant.3,
      c.self.invariant.4,
    )
