use Rattle.std.proofs.Common.{◌≡◌, ◌+◌, ◌-◌, ◌<◌, ◌≤◌, true, false, length, sum, ap, sym, ◌∙◌, arith, refl}
use Rattle.model.specs.state.State.{most_indices}
use Rattle.model.specs.state.Ids.{vacant_indices, has_ids, grant, has_ids_for_each, grant_each}
use Rattle.entity_table.proofs.Frees.{length-vacant_from}
use Rattle.entity_table.proofs.Grants.{has_ids-false, has_ids-true, length-grant}
use Rattle.entity_table.proofs.Levels.{grant_each-is, has_ids_for_each-is}
use Rattle.entity_table.specs.Ids.{living_count}
use Rattle.entity_table.proofs.BookShape.{book-grant}
use Rattle.entity_table.proofs.Counting.{count-grant}
use Rattle.entity_table.proofs.Turns.{no_other_fault}
use Rattle.entity_table.proofs.table.EntityTable.grant_level.Goals as goal
use Rattle.entity_table.proofs.table.EntityTable.grant_level.Goals.{Else-saturating_add-gt-MOST_INDICES, After-grant_lists}

-- no more indices are vacant than there may be
vacant_few : (c : Else-saturating_add-gt-MOST_INDICES) → length c.self.inside.vacant.rising ≤ most_indices
vacant_few c = let few = c.self.invariant.kept.whole.few in omega (arith, ap length c.self.invariant.kept.vacant, length-vacant_from 0 c.self.inside.places.items)

-- how many slots are missing
missing : (c : Else-saturating_add-gt-MOST_INDICES) → c.saturating_sub-missing.result ≡ sum c.args.counts.now - length c.self.inside.vacant.rising
missing c = omega (arith, vacant_few c, c.len-had.ensures, c.sum_of.ensures, c.len.ensures, c.saturating_sub-missing.ensures, c.saturating_add.ensures, c.if-saturating_add-gt-MOST_INDICES.false)

-- how many slots are wanted in all are few enough
enough : (c : Else-saturating_add-gt-MOST_INDICES) → length c.self.inside.places.items + (sum c.args.counts.now - length c.self.inside.vacant.rising) ≤ most_indices
enough c =
    let held = c.self.inside.places.ok.0 in
    omega (arith, missing c, c.len-had.ensures, c.saturating_add.ensures, c.if-saturating_add-gt-MOST_INDICES.false)

-- there are ids
there : (c : Else-saturating_add-gt-MOST_INDICES) → has_ids (sum c.args.counts.now) c.self.inside.places.items ≡ true
there c = has_ids-true (sum c.args.counts.now) c.self.inside.places.items (omega (arith, enough c, ap length c.self.invariant.kept.vacant))

some : (c : Else-saturating_add-gt-MOST_INDICES) → has_ids_for_each c.args.counts.now c.args.self.now ≡ true
some c = rw (← c.self.view_is) (has_ids_for_each-is c.args.counts.now c.self.inside.places.items c.self.invariant.kept.whole.few ∙ there c)

pub returns-then-saturating_add-gt-MOST_INDICES-clause-spent : goal.returns-then-saturating_add-gt-MOST_INDICES-clause-spent
returns-then-saturating_add-gt-MOST_INDICES-clause-spent c =
    let items = c.self.inside.places.items in
    let held = c.self.inside.places.ok.0 in
    let wanted : most_indices < length items + (sum c.args.counts.now - length (vacant_indices items)) =
    omega (arith, ap length c.self.invariant.kept.vacant, c.len-had.ensures, c.sum_of.ensures, c.len.ensures, c.saturating_sub-missing.ensures, c.saturating_add.ensures) in
    let none : has_ids_for_each c.args.counts.now c.args.self.now ≡ false =
    rw (← c.self.view_is) (has_ids_for_each-is c.args.counts.now items c.self.invariant.kept.whole.few ∙ has_ids-false (sum c.args.counts.now) items wanted) in
    (λ e. none, λ e. refl)

pub returns-in_err-make_ready-clause-spent : goal.returns-in_err-make_ready-clause-spent
returns-in_err-make_ready-clause-spent c =
    no_other_fault c.from_residual.result _ c.from_residual.ensures.1 (some (goal.at.returns-in_err-make_ready-clause-spent c).Else-saturating_add-gt-MOST_INDICES)

pub returns-in_err-reserve-clause-spent : goal.returns-in_err-reserve-clause-spent
returns-in_err-reserve-clause-spent c =
    no_other_fault c.from_residual-in_err-reserve.result _ c.from_residual-in_err-reserve.ensures.1 (some (goal.at.returns-in_err-reserve-clause-spent c).Else-saturating_add-gt-MOST_INDICES)

pub returns-in_err-make_room-clause-spent : goal.returns-in_err-make_room-clause-spent
returns-in_err-make_room-clause-spent c =
    no_other_fault c.from_residual-in_err-make_room.result _ c.from_residual-in_err-make_room.ensures.1 (some (goal.at.returns-in_err-make_room-clause-spent c).Else-saturating_add-gt-MOST_INDICES)

pub returns-clause-spent : goal.returns-clause-spent
returns-clause-spent c =
    let h = some (goal.at.returns-clause-spent c).Else-saturating_add-gt-MOST_INDICES in
    (λ e. cc, λ e. cc)

pub grant_lists-requires-clause-few : goal.grant_lists-requires-clause-few
grant_lists-requires-clause-few c =
    omega (arith, enough (goal.at.grant_lists-requires-clause-few c).Else-saturating_add-gt-MOST_INDICES, ap length c.in_ok-reserve.ensures.items, ap length c.in_ok-make_room.ensures.same)

pub grant_lists-requires-clause-room : goal.grant_lists-requires-clause-room
grant_lists-requires-clause-room c =
    omega (arith, missing (goal.at.grant_lists-requires-clause-room c).Else-saturating_add-gt-MOST_INDICES, c.in_ok-reserve.ensures.ok, ap length c.in_ok-make_room.ensures.same)

-- what is granted
grants : (c : After-grant_lists) → c.grant_lists.new.places.items ≡ grant (sum c.args.counts.now) c.self.inside.places.items
grants c = c.grant_lists.ensures.grants ∙ ap (grant_each c.args.counts.now) c.in_ok-reserve.ensures.items ∙ grant_each-is c.args.counts.now c.self.inside.places.items

pub invariant_of-self-2 : goal.invariant_of-self-2
invariant_of-self-2 c =
    let e = (goal.at.invariant_of-self-2 c).Else-saturating_add-gt-MOST_INDICES in
    let held = c.self.inside.places.ok.0 in
    let all = grants (goal.at.invariant_of-self-2 c).After-grant_lists in
    let many : length c.grant_lists.new.places.items ≡ c.len-had.result + c.saturating_sub-missing.result =
    omega (arith, ap length all, length-grant (sum c.args.counts.now) c.self.inside.places.items, missing e, c.len-had.ensures, ap length c.self.invariant.kept.vacant) in
    record {
      kept = record {
        whole = rw all (book-grant (sum c.args.counts.now) c.self.inside.places.items (there e) c.self.invariant.kept.whole);
        vacant = c.grant_lists.ensures.kept;
        room = omega (arith, many, c.in_ok-make_room.ensures.ok, c.grant_lists.ensures.room);
      };
      count = c.self.invariant.count ∙ sym (count-grant (sum c.args.counts.now) c.self.inside.places.items) ∙ ap living_count (sym all);
    }
