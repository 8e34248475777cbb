use Rattle.std.proofs.Common.{◌≡◌, ◌<◌, Err, length, get_or, set, refl, sym, ap, ap₂, ◌∙◌, subst, arith}
use Rattle.std.proofs.lemmas.Bool.{true_from_ne_false}
use Rattle.std.proofs.lemmas.List.{set-get_or}
use Rattle.std.specs.Prelude.{All}
use Rattle.std.specs.Vec.{with_items}
use Rattle.model.proofs.serial.Engine.{after_grant-none, has_ids_for_level-none}
use Rattle.model.specs.runs.RunState.{counts_of_level, has_ids_for_level, spawners_of_level}
use Rattle.model.specs.state.Ids.{grant_each, has_ids_for_each, ids_of_each}
use Rattle.body.specs.Steps.{StateValue, with_slots_in}
use Rattle.engine.specs.Deferred.{DeferredValue, AreInHand, run_with, with_each_grant}
use Rattle.engine.proofs.LevelGrants.{granted_is, has_ids_there, in_hand_granted, nobody_kept, none_above, noted_items, spawners_count, spawners_here, spawners_known}
use Rattle.engine.proofs.Stops.{never_spent, told_alike, told_of}
use Rattle.entity_table.specs.declared.fault.GrantFault.TheVariants.{IdsSpent}
use Rattle.engine.proofs.deferred.Deferred.grant.Goals as goal
use Rattle.engine.proofs.deferred.Deferred.grant.Goals.{After-deref_mut, In_ok-grant}

-- what is kept of the level
here : (c : After-deref_mut) → (c.index_mut-spawners.result.now.systems ≡ spawners_of_level c.args.built.now c.args.level) × (c.index_mut-spawners.result.now.counts ≡ counts_of_level c.args.built.now c.args.level)
here c =
    let found = c.index_mut-spawners.result.now in
    spawners_here c.args.built.now c.args.level c.prove_law.ensures c.args.self.now c.requires.suits (let l = c.if-syncs-level.false in omega (arith, l, c.syncs.ensures)) found
    (c.index_mut-spawners.ensures.value ∙ ap (λ (d : DeferredValue). get_or d.spawners c.args.level found) c.self.view_is)

-- what is deferred after the grant
abbrev left : In_ok-grant → DeferredValue
left c = record {
  levels = c.self.inside.levels.items;
  spawners = set c.self.inside.spawners.items c.args.level c.grant.new.self;
  commands = c.self.inside.commands.items;
  grants = (with_items c.self.inside.grants c.grant.new.grants).items;
}

left_is : (c : In_ok-grant) → left c ≡ with_each_grant c.index_mut-spawners.result.now.systems (ids_of_each c.index_mut-spawners.result.now.counts c.args.state.now.state.world.slots) c.args.self.now
left_is c =
    let inside = c.self.inside in
    let found = c.index_mut-spawners.result.now in
    let given = ids_of_each found.counts c.args.state.now.state.world.slots in
    let same : set inside.spawners.items c.args.level c.grant.new.self ≡ inside.spawners.items =
    ap (set inside.spawners.items c.args.level) (c.in_ok-grant.ensures.same ∙ c.index_mut-spawners.ensures.value) ∙ set-get_or inside.spawners.items c.args.level found in
    let noted = noted_items found.systems given inside.grants c.deref_mut.result.now c.grant.new.grants c.deref_mut.ensures.value c.in_ok-grant.ensures.noted in
    ap₂ (λ xs ids. let l : DeferredValue = record { levels = inside.levels.items; spawners = xs; commands = inside.commands.items; grants = ids } in l) same noted
    ∙ ap (with_each_grant found.systems given) c.self.view_is

pub returns-then-syncs-level-clause-granted : goal.returns-then-syncs-level-clause-granted
returns-then-syncs-level-clause-granted c =
    let past = c.if-syncs-level.true in
    sym (after_grant-none c.args.built.now c.args.level (run_with c.args.state.now.state c.args.self.now) (none_above c.args.built.now c.args.level c.prove_law.ensures (omega (arith, past, c.syncs.ensures))))

pub returns-then-syncs-level-clause-has : goal.returns-then-syncs-level-clause-has
returns-then-syncs-level-clause-has c =
    let past = c.if-syncs-level.true in
    has_ids_for_level-none c.args.built.now c.args.level (run_with c.args.state.now.state c.args.self.now) (none_above c.args.built.now c.args.level c.prove_law.ensures (omega (arith, past, c.syncs.ensures)))

pub returns-then-syncs-level-clause-spent : goal.returns-then-syncs-level-clause-spent
returns-then-syncs-level-clause-spent c =
    let past = c.if-syncs-level.true in
    never_spent (has_ids_for_level c.args.built.now c.args.level (run_with c.args.state.now.state c.args.self.now))
    (has_ids_for_level-none c.args.built.now c.args.level (run_with c.args.state.now.state c.args.self.now) (none_above c.args.built.now c.args.level c.prove_law.ensures (omega (arith, past, c.syncs.ensures))))

pub grants_none-requires : goal.grants_none-requires
grants_none-requires c =
    let count = spawners_count c.args.built.now c.args.level c.prove_law.ensures c.args.self.now c.requires.suits in
    let l = c.if-syncs-level.false in
    omega (arith, l, c.syncs.ensures, count)

pub returns-then-grants_none-clause-granted : goal.returns-then-grants_none-clause-granted
returns-then-grants_none-clause-granted c =
    sym (after_grant-none c.args.built.now c.args.level (run_with c.args.state.now.state c.args.self.now)
    (nobody_kept c.args.built.now c.args.level c.prove_law.ensures c.args.self.now c.requires.suits (let l = c.if-syncs-level.false in omega (arith, l, c.syncs.ensures)) (sym c.if-grants_none.ensures)))

pub returns-then-grants_none-clause-has : goal.returns-then-grants_none-clause-has
returns-then-grants_none-clause-has c =
    has_ids_for_level-none c.args.built.now c.args.level (run_with c.args.state.now.state c.args.self.now)
    (nobody_kept c.args.built.now c.args.level c.prove_law.ensures c.args.self.now c.requires.suits (let l = c.if-syncs-level.false in omega (arith, l, c.syncs.ensures)) (sym c.if-grants_none.ensures))

pub returns-then-grants_none-clause-spent : goal.returns-then-grants_none-clause-spent
returns-then-grants_none-clause-spent c =
    never_spent (has_ids_for_level c.args.built.now c.args.level (run_with c.args.state.now.state c.args.self.now))
    (has_ids_for_level-none c.args.built.now c.args.level (run_with c.args.state.now.state c.args.self.now)
    (nobody_kept c.args.built.now c.args.level c.prove_law.ensures c.args.self.now c.requires.suits (let l = c.if-syncs-level.false in omega (arith, l, c.syncs.ensures)) (sym c.if-grants_none.ensures)))

pub returns-in_err-grant-clause-spent : goal.returns-in_err-grant-clause-spent
returns-in_err-grant-clause-spent c =
    let there = has_ids_there c.args.built.now c.args.level c.prove_law.ensures c.args.self.now c.requires.suits c.index_mut-spawners.result.now.counts c.args.state.now.state (here (goal.at.returns-in_err-grant-clause-spent c).After-deref_mut).1 in (
      λ told. there ∙ c.in_err-grant.ensures.spent.0 (ap Err (told_of c.from_residual.result c.in_err-grant.field-0.0 IdsSpent c.from_residual.ensures.1 told)),
      λ none. told_alike c.from_residual.result c.in_err-grant.field-0.0 IdsSpent c.from_residual.ensures.1 (c.in_err-grant.ensures.spent.1 (sym there ∙ none)),
    )

pub grant-requires : goal.grant-requires
grant-requires c =
    let room = ap length c.deref_mut.ensures.value ∙ ap (λ (d : DeferredValue). length d.grants) c.self.view_is in
    subst (λ count. All (λ n. n < count) c.index_mut-spawners.result.now.systems) (sym room)
    (spawners_known c.args.built.now c.args.level c.prove_law.ensures c.args.self.now c.requires.suits c.index_mut-spawners.result.now.systems (here c).0)

pub returns-clause-granted : goal.returns-clause-granted
returns-clause-granted c =
    let w = c.args.state.now.state in
    let level = c.index_mut-spawners.result.now in
    let is = here (goal.at.returns-clause-granted c).After-deref_mut in
    ap (λ (x : StateValue). run_with x.state (left c)) c.in_ok-grant.ensures.granted
    ∙ ap (run_with (with_slots_in (grant_each level.counts w.world.slots) w)) (left_is c)
    ∙ granted_is c.args.built.now c.args.level c.prove_law.ensures c.args.self.now c.requires.suits level.systems level.counts (ids_of_each level.counts w.world.slots) w is.0 is.1 refl

pub returns-clause-has : goal.returns-clause-has
returns-clause-has c =
    let w = c.args.state.now.state in
    let counts = c.index_mut-spawners.result.now.counts in
    has_ids_there c.args.built.now c.args.level c.prove_law.ensures c.args.self.now c.requires.suits counts w (here (goal.at.returns-clause-has c).After-deref_mut).1
    ∙ true_from_ne_false (has_ids_for_each counts w.world.slots) (λ e. let clash = c.in_ok-grant.ensures.spent.1 e in absurd (cc))

pub returns-clause-spent : goal.returns-clause-spent
returns-clause-spent c =
    let w = c.args.state.now.state in
    let counts = c.index_mut-spawners.result.now.counts in
    never_spent (has_ids_for_level c.args.built.now c.args.level (run_with w c.args.self.now))
    (has_ids_there c.args.built.now c.args.level c.prove_law.ensures c.args.self.now c.requires.suits counts w (here (goal.at.returns-clause-spent c).After-deref_mut).1
    ∙ true_from_ne_false (has_ids_for_each counts w.world.slots) (λ e. let clash = c.in_ok-grant.ensures.spent.1 e in absurd (cc)))

pub returns-clause-in_hand : goal.returns-clause-in_hand
returns-clause-in_hand c = λ hand fresh.
    let w = c.args.state.now.state in
    let level = c.index_mut-spawners.result.now in
    let given = ids_of_each level.counts w.world.slots in
    let is = here (goal.at.returns-clause-in_hand c).After-deref_mut in
    subst (AreInHand c.grant.new.state.state.world.slots) (sym (left_is c))
    (subst (λ (x : StateValue). AreInHand x.state.world.slots (with_each_grant level.systems given c.args.self.now)) (sym c.in_ok-grant.ensures.granted)
    (in_hand_granted c.args.built.now c.args.level c.prove_law.ensures c.args.self.now c.requires.suits level.systems level.counts given w is.0 is.1 refl hand fresh))
