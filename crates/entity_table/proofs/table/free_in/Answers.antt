use Rattle.std.proofs.Common.{◌≡◌, set, ap, sym, ◌∙◌}
use Rattle.std.proofs.lemmas.List.{get_or_default}
use Rattle.model.specs.Lists.{update_at}
use Rattle.model.specs.state.State.{Slot, fresh_slot, is_vacant}
use Rattle.model.specs.state.Commands.{freed}
use Rattle.entity_table.specs.Ids.{slot_at}
use Rattle.entity_table.proofs.Edits.{set-written}
use Rattle.entity_table.proofs.BookShape.{room_for_one, kept-freed, kept-retired}
use Rattle.entity_table.proofs.table.free_in.Goals as goal
use Rattle.entity_table.proofs.table.free_in.Goals.{After-is_vacant}

-- the place that was read
read : (c : After-is_vacant) → c.index_mut-place.result.now ≡ slot_at c.args.places.now.items c.args.index
read c = c.index_mut-place.ensures.value ∙ get_or_default c.args.places.now.items c.args.index c.index_mut-place.result.now fresh_slot c.requires.within

-- what is written
written : (c : After-is_vacant) → set c.args.places.now.items c.args.index c.free.new.self ≡ update_at c.args.index freed c.args.places.now.items
written c = set-written freed c.args.places.now.items c.args.index c.index_mut-place.result.now c.free.new.self c.requires.within c.index_mut-place.ensures.value c.free.ensures

-- whether it is vacant now
told : (c : After-is_vacant) → c.is_vacant.result ≡ is_vacant (freed (slot_at c.args.places.now.items c.args.index)).status
told c = c.is_vacant.ensures ∙ ap (λ (s : Slot). is_vacant s.status) (c.free.ensures ∙ ap freed (read c))

pub push-requires : goal.push-requires
push-requires c = room_for_one c.args.index c.args.places.now.items c.args.vacant.now c.requires.within c.requires.held c.requires.kept

pub returns-then-is_vacant-clause-freed : goal.returns-then-is_vacant-clause-freed
returns-then-is_vacant-clause-freed c = written (goal.at.returns-then-is_vacant-clause-freed c).After-is_vacant

pub returns-then-is_vacant-clause-kept : goal.returns-then-is_vacant-clause-kept
returns-then-is_vacant-clause-kept c =
    let a = (goal.at.returns-then-is_vacant-clause-kept c).After-is_vacant in
    rw (written a) (kept-freed c.args.index c.args.places.now.items c.args.vacant.now c.push.new.self c.requires.within c.requires.held (sym (told a) ∙ c.if-is_vacant.true)
    c.push.ensures.numbers c.push.ensures.room c.requires.kept)

pub returns-else-is_vacant-clause-freed : goal.returns-else-is_vacant-clause-freed
returns-else-is_vacant-clause-freed c = written (goal.at.returns-else-is_vacant-clause-freed c).After-is_vacant

pub returns-else-is_vacant-clause-kept : goal.returns-else-is_vacant-clause-kept
returns-else-is_vacant-clause-kept c =
    let a = (goal.at.returns-else-is_vacant-clause-kept c).After-is_vacant in
    rw (written a) (kept-retired c.args.index c.args.places.now.items c.args.vacant.now c.requires.held (sym (told a) ∙ c.if-is_vacant.false) c.requires.kept)
