use Rattle.std.proofs.Common.{arith, sym, ◌∙◌}
use Rattle.std.proofs.lemmas.List.{get_or_default}
use Rattle.system_set.proofs.Ordered.{reach_told, no_set_reached}
use Rattle.system_set.proofs.crossings.reaches.Goals as goal

pub returns-then-set-sets : goal.returns-then-set-sets
returns-then-set-sets c = no_set_reached c.args.sets c.args.items c.args.pairs.now c.args.item c.args.set c.requires.placed (omega arith)

pub returns : goal.returns
returns c =
    let marks = c.in_ok-marks.marks.items in
    let long = c.in_ok-marks.ensures.long in
    reach_told c.args.sets c.args.items c.args.pairs.now c.args.set c.args.item marks c.index.result.now c.in_ok-marks.ensures.sound c.in_ok-marks.ensures.whole
    (sym (c.index.ensures ∙ get_or_default marks c.args.item c.index.result.now _ (omega arith)))
