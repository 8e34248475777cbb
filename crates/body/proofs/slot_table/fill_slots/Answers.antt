use Rattle.std.proofs.Common.{◌<◌, ◌≤◌, length, map, arith}
use Rattle.std.proofs.lemmas.List.{length-map}
use Rattle.query.specs.Term.{term_of}
use Rattle.body.specs.HeldColumns.{held_seen, slots_seen}
use Rattle.body.proofs.Tables.{slots-begun, slots-more, slots-ended, archetype-below}
use Rattle.body.proofs.slot_table.fill_slots.Goals as goal

pub add_slot-requires : goal.add_slot-requires
add_slot-requires c =
    let many = c.requires.count in
    let here : c.loop-at.at < length c.args.columns.now = (let t = c.loop-at-test.true in omega arith) in
    let below = archetype-below (length c.args.slots.now.items) c.args.columns.now c.loop-at.at c.index-columns-at.result here c.index-columns-at.is c.requires.within in
    let count = c.loop-at.invariant.count in
    let same = length-map c.loop-at.slots.items slots_seen in
    omega arith

pub loop-at-init : goal.loop-at-init
loop-at-init c = slots-begun (map term_of c.args.terms.now) (length c.args.slots.now.items) (map held_seen c.args.columns.now) c.args.slots.now.items c.requires.empty

pub loop-at-preserved : goal.loop-at-preserved
loop-at-preserved c =
    let many = c.requires.count in
    let here : c.loop-at.at < length c.args.columns.now = (let t = c.loop-at-test.true in omega arith) in
    slots-more (map term_of c.args.terms.now) (length c.args.slots.now.items) c.args.columns.now c.loop-at.at (map slots_seen c.loop-at.slots.items) (map slots_seen c.add_slot.new.slots.items) c.index-columns-at.result here c.index-columns-at.is
    c.requires.within c.add_slot.ensures.kind c.add_slot.ensures.slots c.loop-at.invariant

pub returns : goal.returns
returns c =
    let many = c.requires.count in
    let all : length c.args.columns.now ≤ c.loop-at.at = (let t = c.loop-at-test.false in omega arith) in
    slots-ended (map term_of c.args.terms.now) (length c.args.slots.now.items) c.args.columns.now c.loop-at.at (map slots_seen c.loop-at.slots.items) all c.loop-at.invariant
