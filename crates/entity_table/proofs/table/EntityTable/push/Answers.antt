use Rattle.std.proofs.Common.{◌≡◌, ◌<◌, ◌≤◌, suc, false, cond, inl, inr, [], ◌∷◌, ◌++◌, length, refl, ap, ap₂, sym, ◌∙◌, arith}
use Rattle.model.specs.state.State.{Slot, is_living, is_vacant, most_indices}
use Rattle.entity_table.specs.Rising.{insert_rising}
use Rattle.entity_table.specs.Ids.{living_count, IsCounted}
use Rattle.entity_table.specs.declared.status.Status.{Status}
use Rattle.entity_table.specs.declared.status.Status.TheVariants.{Granted, Retired}
use Rattle.entity_table.specs.Status.{status_of, empty_slot}
use Rattle.entity_table.proofs.Frees.{length-vacant_from}
use Rattle.entity_table.proofs.Appended.{count-append, kept-vacant, kept-held}
use Rattle.entity_table.proofs.Counting.{count-length}
use Rattle.entity_table.proofs.table.EntityTable.push.Goals as goal
use Rattle.entity_table.proofs.table.EntityTable.push.Goals.{After-push_reserved}

-- the slot that is added
added : After-push_reserved → Slot
added c = empty_slot c.args.generation c.args.status

-- the indices that there are now
appended : (c : After-push_reserved) → c.push_reserved.new.self.items ≡ c.self.inside.places.items ++ added c ∷ []
unfolding added
appended c = c.push_reserved.ensures.items ∙ ap₂ (λ xs s. xs ++ s ∷ []) c.in_ok-reserve.ensures.items c.of.ensures

-- where it stands
index_is : (c : After-push_reserved) → c.len-index.result ≡ length c.self.inside.places.items
index_is c = let held = c.self.inside.places.ok.0 in omega (arith, c.len-index.ensures)

-- there is an index left
left : (c : After-push_reserved) → length c.self.inside.places.items < most_indices
left c = let few = c.self.invariant.kept.whole.few in
    omega (arith, c.len-index.ensures, c.if-index-eq-MOST_INDICES.false)

pub push-requires : goal.push-requires
push-requires c =
    omega (arith, c.len-index.ensures, c.in_ok-make_room.ensures.ok, ap length (c.in_ok-make_room.ensures.same ∙ c.self.invariant.kept.vacant), length-vacant_from 0 c.self.inside.places.items)

-- there is room for it among the vacant ones
room : (c : After-push_reserved) → suc (length c.self.inside.places.items) ≤ c.make_room.new.self.room
room c = omega (arith, c.len-index.ensures, c.in_ok-make_room.ensures.ok)

pub invariant_of-self-in-Vacant : goal.invariant_of-self-in-Vacant
unfolding added
invariant_of-self-in-Vacant c =
    let a = (goal.at.invariant_of-self-in-Vacant c).After-push_reserved in
    let xs = c.self.inside.places.items in
    let roomy : suc (length xs) ≤ c.push.new.self.room = omega (arith, room a, c.push.ensures.room) in
    rw (appended a) (record {
      kept = kept-vacant xs (added a) c.self.inside.vacant c.push.new.self c.requires (left a) (ap (λ status. is_vacant (status_of status)) c.in-Vacant.is)
          (c.push.ensures.numbers ∙ ap₂ insert_rising (index_is a) c.in_ok-make_room.ensures.same) roomy c.self.invariant.kept;
      count = c.self.invariant.count ∙ sym (count-append xs (added a) ∙ ap (λ status. cond (is_living (status_of status)) (suc (living_count xs)) (living_count xs)) c.in-Vacant.is);
    })

pub overflow_add-self : goal.overflow_add-self
overflow_add-self c =
    let few = c.self.invariant.kept.whole.few in
    omega (arith, c.self.invariant.count, count-length c.self.inside.places.items)

pub invariant_of-self-in-Living : goal.invariant_of-self-in-Living
unfolding added
invariant_of-self-in-Living c =
    let a = (goal.at.invariant_of-self-in-Living c).After-push_reserved in
    let xs = c.self.inside.places.items in
    rw (appended a) (record {
      kept = kept-held xs (added a) c.self.inside.vacant c.make_room.new.self c.requires (left a) (ap (λ status. is_vacant (status_of status)) c.in-Living.is)
          c.in_ok-make_room.ensures.same (room a) c.self.invariant.kept;
      count = omega (
        arith,
        c.self.invariant.count,
        count-append xs (added a) ∙ ap (λ status. cond (is_living (status_of status)) (suc (living_count xs)) (living_count xs)) c.in-Living.is,
      );
    })

pub invariant_of-self-in-Granted : goal.invariant_of-self-in-Granted
unfolding added
invariant_of-self-in-Granted c =
    let a = (goal.at.invariant_of-self-in-Granted c).After-push_reserved in
    let xs = c.self.inside.places.items in
    let by : (status : Status) → c.args.status ≡ status → is_vacant (status_of status) ≡ false → is_living (status_of status) ≡ false →
    IsCounted (xs ++ added a ∷ []) c.make_room.new.self c.self.inside.living = λ status is held dead. record {
      kept = kept-held xs (added a) c.self.inside.vacant c.make_room.new.self c.requires (left a) (ap (λ it. is_vacant (status_of it)) is ∙ held)
          c.in_ok-make_room.ensures.same (room a) c.self.invariant.kept;
      count = c.self.invariant.count
          ∙ sym (count-append xs (added a) ∙ ap (λ living. cond living (suc (living_count xs)) (living_count xs)) (ap (λ it. is_living (status_of it)) is ∙ dead));
    } in
    rw (appended a) (elim c.in-Granted.is [
      | inl is ↦ by Granted is refl refl
      | inr is ↦ by Retired is refl refl
    ])
