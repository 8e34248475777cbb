use Rattle.std.proofs.Common.{◌++◌, ◌==◌, ◌||◌, ap, refl, sym, ◌∙◌}
use Rattle.number_set.specs.Members.{contains}
use Rattle.schedule_drawing.specs.Drawn.{races_shapes}
use Rattle.schedule_drawing.proofs.RaceSteps.{races_drawn}
use Rattle.schedule_drawing.proofs.races.add_races.Goals as goal

-- a pair whose boxes have no line yet
pub loop-pair-preserved : goal.loop-pair-preserved
loop-pair-preserved c =
    let s = c.args.built.now in
    let leaders = c.args.leaders.now in
    let all = c.args.shapes.now.items ++ races_shapes s leaders c.args.pairs.now in
    let fresh = ap (contains c.loop-pair.drawn) (sym c.boxes_of-boxes.ensures.boxes) ∙ (sym c.contains.ensures ∙ c.if-contains.false) in
    record {
      drawn = races_drawn s leaders (contains c.loop-pair.drawn) (contains c.insert.new.self) c.loop-pair.left c.saturating_sub-left.result c.loop-pair.lowest.items c.add_race.new.lowest.items c.args.pairs.now c.loop-pair.pair-index _ _
          c.loop-pair.shapes.items c.add_race.new.shapes.items all c.loop-pair-test.true refl fresh
          (λ n. c.insert.ensures.members n ∙ ap (λ b. (b == n) || contains c.loop-pair.drawn n) c.boxes_of-boxes.ensures.boxes)
          c.in_ok-add_race.ensures.drawn c.saturating_sub-left.ensures c.in_ok-add_race.ensures.next c.loop-pair.invariant.drawn;
      room = c.insert.ensures.room ∙ c.loop-pair.invariant.room;
    }
