use Rattle.std.proofs.Common.{◌≡◌, ◌+◌, ◌-◌, ◌<◌, ◌≤◌, ◌++◌, true, false, length, ap, ap₂, sym, ◌∙◌, arith, refl}
use Rattle.model.specs.state.State.{most_indices}
use Rattle.model.specs.state.Ids.{vacant_indices, has_ids, granted_ids, grant}
use Rattle.entity_table.proofs.Grants.{has_ids-false, has_ids-true, granted-each, granted-apart, length-grant}
use Rattle.entity_table.specs.Ids.{living_count}
use Rattle.entity_table.proofs.BookShape.{book-grant}
use Rattle.entity_table.proofs.Counting.{count-grant}
use Rattle.entity_table.proofs.Turns.{no_other_fault}
use Rattle.entity_table.proofs.table.EntityTable.grant.Goals as goal
use Rattle.entity_table.proofs.table.EntityTable.grant.Goals.{After-saturating_sub-missing, After-grant_each}

-- how many slots are wanted in all
wanted : (c : After-saturating_sub-missing) → c.len-had.result + c.saturating_sub-missing.result ≡ length c.args.self.now + (c.args.count - length (vacant_indices c.args.self.now))
wanted c =
    let v = c.self.inside.places.ok.0 in
    omega (arith, ap length c.self.view_is, c.len-had.ensures, c.saturating_sub-missing.ensures, c.len.ensures, ap length c.self.invariant.kept.vacant, ap (λ xs. length (vacant_indices xs)) c.self.view_is)

none : (c : After-saturating_sub-missing) → most_indices < c.len-had.result + c.saturating_sub-missing.result → has_ids c.args.count c.args.self.now ≡ false
none c l = has_ids-false c.args.count c.args.self.now (omega (arith, wanted c))

some : (c : After-saturating_sub-missing) → c.len-had.result + c.saturating_sub-missing.result ≤ most_indices → has_ids c.args.count c.args.self.now ≡ true
some c l = has_ids-true c.args.count c.args.self.now (omega (arith, wanted c))

pub returns-then-had-missing-gt-MOST_INDICES-clause-spent : goal.returns-then-had-missing-gt-MOST_INDICES-clause-spent
returns-then-had-missing-gt-MOST_INDICES-clause-spent c =
    let h = none (goal.at.returns-then-had-missing-gt-MOST_INDICES-clause-spent c).After-saturating_sub-missing c.if-had-missing-gt-MOST_INDICES.true in
    (λ e. h, λ e. refl)

pub returns-in_err-granted-clause-spent : goal.returns-in_err-granted-clause-spent
returns-in_err-granted-clause-spent c =
    no_other_fault c.from_residual.result _ c.from_residual.ensures.1 (some (goal.at.returns-in_err-granted-clause-spent c).After-saturating_sub-missing c.if-had-missing-gt-MOST_INDICES.false)

pub returns-in_err-reserve-clause-spent : goal.returns-in_err-reserve-clause-spent
returns-in_err-reserve-clause-spent c =
    no_other_fault c.from_residual-in_err-reserve.result _ c.from_residual-in_err-reserve.ensures.1
    (some (goal.at.returns-in_err-reserve-clause-spent c).After-saturating_sub-missing c.if-had-missing-gt-MOST_INDICES.false)

pub returns-in_err-make_room-clause-spent : goal.returns-in_err-make_room-clause-spent
returns-in_err-make_room-clause-spent c =
    no_other_fault c.from_residual-in_err-make_room.result _ c.from_residual-in_err-make_room.ensures.1
    (some (goal.at.returns-in_err-make_room-clause-spent c).After-saturating_sub-missing c.if-had-missing-gt-MOST_INDICES.false)

pub returns-clause-spent : goal.returns-clause-spent
returns-clause-spent c =
    let h = some (goal.at.returns-clause-spent c).After-saturating_sub-missing c.if-had-missing-gt-MOST_INDICES.false in
    (λ e. cc, λ e. cc)

-- what is granted
grants : (c : After-grant_each) → c.grant_each.new.places.items ≡ grant c.args.count c.self.inside.places.items
grants c = c.grant_each.ensures.grants ∙ ap (grant c.args.count) c.in_ok-reserve.ensures.items

-- its ids
granted : (c : After-grant_each) → c.grant_each.new.granted.items ≡ granted_ids c.args.count c.self.inside.places.items
granted c = c.grant_each.ensures.ids ∙ ap₂ (λ ids xs. ids ++ granted_ids c.args.count xs) c.in_ok-granted.ensures.items c.in_ok-reserve.ensures.items

pub invariant_of-self-2 : goal.invariant_of-self-2
invariant_of-self-2 c =
    let a = (goal.at.invariant_of-self-2 c).After-grant_each in
    let b = (goal.at.invariant_of-self-2 c).After-saturating_sub-missing in
    let xs = c.self.inside.places.items in
    let there : has_ids c.args.count xs ≡ true = rw c.self.view_is (some b c.if-had-missing-gt-MOST_INDICES.false) in
    let counted : length (grant c.args.count xs) ≡ c.len-had.result + c.saturating_sub-missing.result =
    length-grant c.args.count xs ∙ ap (λ ys. length ys + (c.args.count - length (vacant_indices ys))) c.self.view_is ∙ sym (wanted b) in
    record {
      kept = record {
        whole = rw (grants a) (book-grant c.args.count xs there c.self.invariant.kept.whole);
        vacant = c.grant_each.ensures.kept;
        room = omega (arith, ap length (grants a), counted, c.in_ok-make_room.ensures.ok, c.grant_each.ensures.room);
      };
      count = c.self.invariant.count ∙ sym (count-grant c.args.count xs) ∙ ap living_count (sym (grants a));
    }

pub returns-clause-each : goal.returns-clause-each
returns-clause-each c =
    let a = (goal.at.returns-clause-each c).After-grant_each in
    rw (grants a, granted a) (granted-each c.args.count c.self.inside.places.items)

pub returns-clause-apart : goal.returns-clause-apart
returns-clause-apart c = rw (granted (goal.at.returns-clause-apart c).After-grant_each) (granted-apart c.args.count c.self.inside.places.items)
