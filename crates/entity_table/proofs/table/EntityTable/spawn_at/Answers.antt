use Rattle.std.proofs.Common.{◌≡◌, ◌+◌, ◌<◌, suc, length, set, ap, sym, ◌∙◌, arith}
use Rattle.std.proofs.lemmas.List.{get_or_default}
use Rattle.model.specs.Lists.{update_at}
use Rattle.model.specs.state.State.{Slot, fresh_slot, is_living, is_granted}
use Rattle.model.specs.state.Commands.{spawned}
use Rattle.entity_table.specs.Ids.{slot_at, living_count}
use Rattle.entity_table.proofs.Counting.{count-length, count-more}
use Rattle.entity_table.proofs.Edits.{set-written}
use Rattle.entity_table.proofs.BookShape.{kept-spawned, spawned-granted, granted-within}
use Rattle.entity_table.proofs.Releases.{granted-lives}
use Rattle.entity_table.proofs.table.EntityTable.spawn_at.Goals as goal
use Rattle.entity_table.proofs.table.EntityTable.spawn_at.Goals.{After-spawn}

-- what is written
written : (c : After-spawn) → set c.self.inside.places.items c.args.e.index c.spawn.new.self ≡ update_at c.args.e.index (spawned c.args.e.generation) c.self.inside.places.items
written c =
    let xs = c.self.inside.places.items in
    let place = c.index_mut-place.result.now in
    let within : c.args.e.index < length xs = rw c.self.view_is (granted-within c.args.self.now c.args.e.index c.requires.status) in
    let same : place ≡ slot_at c.args.self.now c.args.e.index = c.index_mut-place.ensures.value ∙ get_or_default xs c.args.e.index place fresh_slot within ∙ ap (λ ys. slot_at ys c.args.e.index) c.self.view_is in
    let new = spawned-granted c.args.e.generation place (ap (λ (s : Slot). s.status) same ∙ c.requires.status) (ap (λ (s : Slot). s.generation) same ∙ c.requires.generation) in
    set-written (spawned c.args.e.generation) xs c.args.e.index place c.spawn.new.self within c.index_mut-place.ensures.value (c.spawn.ensures ∙ sym new)

-- one more lives
more : (c : After-spawn) → living_count (update_at c.args.e.index (spawned c.args.e.generation) c.self.inside.places.items) ≡ suc c.self.inside.living
more c =
    let xs = c.self.inside.places.items in
    let within : c.args.e.index < length xs = rw c.self.view_is (granted-within c.args.self.now c.args.e.index c.requires.status) in
    let status : (slot_at xs c.args.e.index).status ≡ (slot_at c.args.self.now c.args.e.index).status = ap (λ ys. (slot_at ys c.args.e.index).status) c.self.view_is in
    let generation : (slot_at xs c.args.e.index).generation ≡ c.args.e.generation = ap (λ ys. (slot_at ys c.args.e.index).generation) c.self.view_is ∙ c.requires.generation in
    let new = spawned-granted c.args.e.generation (slot_at xs c.args.e.index) (status ∙ c.requires.status) generation in
    count-more (spawned c.args.e.generation) c.args.e.index xs within (granted-lives xs c.args.e.index (ap is_granted (status ∙ c.requires.status)))
    (ap (λ (s : Slot). is_living s.status) new)
    ∙ ap suc (sym c.self.invariant.count)

pub overflow_add-self : goal.overflow_add-self
overflow_add-self c =
    let few = c.self.invariant.kept.whole.few in
    omega (arith, few, count-length c.self.inside.places.items, c.self.invariant.count)

pub invariant_of-self : goal.invariant_of-self
invariant_of-self c =
    let a = (goal.at.invariant_of-self c).After-spawn in
    rw (written a) (record {
      kept = kept-spawned c.args.e.index c.args.e.generation c.self.inside.places.items c.self.inside.vacant c.self.invariant.kept;
      count = (let e : c.self.inside.living + 1 ≡ suc c.self.inside.living = omega arith in e) ∙ sym (more a);
    })

pub returns : goal.returns
returns c = written (goal.at.returns c).After-spawn ∙ ap (update_at c.args.e.index (spawned c.args.e.generation)) c.self.view_is
