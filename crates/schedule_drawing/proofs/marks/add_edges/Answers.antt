use Rattle.std.proofs.Common.{◌++◌, [], cond, get_or, map, refl, sym, ap, ◌∙◌}
use Rattle.std.proofs.lemmas.List.{append-nil}
use Rattle.schedule_drawing.specs.Marks.{edge_shapes, edge_untold}
use Rattle.schedule_drawing.proofs.LoopSteps.{flat_next, flat_all, predecessors_at}
use Rattle.schedule_drawing.proofs.marks.add_edges.Goals as goal

pub loop-before-init : goal.loop-before-init
loop-before-init c = sym (append-nil c.args.shapes.now.items)

pub loop-before-preserved : goal.loop-before-preserved
loop-before-preserved c =
    let sets = map (λ members. members.items) c.args.sets.now in
    let first = get_or c.predecessors-before-items.result.now c.loop-before.before-index 0 in
    flat_next (edge_untold c.args.built.now c.args.leaders.now sets c.args.arrows.now c.args.system) c.predecessors-before-items.result.now c.loop-before.before-index 0 _ c.args.shapes.now.items c.loop-before.shapes.items c.add_untold.new.shapes.items
    c.loop-before-test.true refl c.loop-before.invariant
    (c.in_ok-add_untold.ensures ∙ ap (λ told. c.loop-before.shapes.items ++ cond told [] (edge_shapes c.args.built.now c.args.leaders.now c.args.system first)) c.is_told-told.ensures)

pub returns : goal.returns
returns c =
    let sets = map (λ members. members.items) c.args.sets.now in
    let all = predecessors_at c.args.built.now c.systems.result.now c.args.system c.in-Some.found.now c.predecessors-before-items.result.now c.predecessors-before-items.ensures c.in-Some.ensures.lookup.3.1 c.systems.ensures in
    flat_all (edge_untold c.args.built.now c.args.leaders.now sets c.args.arrows.now c.args.system) c.predecessors-before-items.result.now _ c.loop-before.before-index c.args.shapes.now.items c.loop-before.shapes.items c.loop-before-test.false all c.loop-before.invariant
