use Rattle.column_store.proofs.Common.{List, ℕ, min, ap, ap₂, ◌∙◌, arith, GapListValue}
use Rattle.column_store.proofs.Gaps.{inserted_items, inserted_fits}
use Rattle.column_store.proofs.gap_list.GapList.insert.Goals as goal

pub invariant_of-self : goal.invariant_of-self
invariant_of-self c =
    let items = c.move_gap.ensures.items ∙ ap (λ (v : GapListValue). v.items) c.self.view_is in
    inserted_fits c.args.self.now.items c.move_gap.new.front.items c.move_gap.new.back.items c.push_reserved.new.self.items c.args.number c.args.self.now.room _ items
    c.push_reserved.ensures.items c.requires.room
    (ap₂ min (c.push_reserved.ensures.capacity ∙ c.move_gap.ensures.front_room) c.move_gap.ensures.back_room ∙ ap (λ (v : GapListValue). v.room) c.self.view_is)

pub returns : goal.returns
returns c =
    let items = c.move_gap.ensures.items ∙ ap (λ (v : GapListValue). v.items) c.self.view_is in
    ap₂ (λ (xs : List ℕ) (n : ℕ). let v : GapListValue = record { items = xs; room = n } in v)
    (inserted_items c.args.self.now.items c.move_gap.new.front.items c.move_gap.new.back.items c.push_reserved.new.self.items c.args.place c.args.number items
    (omega (arith, c.move_gap.new.front.ok.0, c.move_gap.ensures.place)) c.push_reserved.ensures.items)
    (ap₂ min (c.push_reserved.ensures.capacity ∙ c.move_gap.ensures.front_room) c.move_gap.ensures.back_room ∙ ap (λ (v : GapListValue). v.room) c.self.view_is)
