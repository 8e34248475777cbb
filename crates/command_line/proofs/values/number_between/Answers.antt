use Rattle.std.proofs.Common.{◌∙◌, sym, subst}
use Rattle.parsing.specs.Integer.{IsNumber}
use Rattle.parsing.specs.Reads.{Reads}
use Rattle.command_line.proofs.Numerals.{none_between, spelled_between}
use Rattle.command_line.proofs.values.number_between.Goals as goal

pub returns-in-Some-clause-number : goal.returns-in-Some-clause-number
returns-in-Some-clause-number c =
    let read = subst (Reads IsNumber c.args.text.now) c.in-Some.is c.read_number.ensures in
    c.if_between.ensures.number ∙ sym (spelled_between c.args.least c.args.most c.args.text.now c.in-Some.number read.0)

pub returns-in-None-clause-number : goal.returns-in-None-clause-number
returns-in-None-clause-number c =
    let read = subst (Reads IsNumber c.args.text.now) c.in-None.is c.read_number.ensures in
    sym (none_between c.args.least c.args.most c.args.text.now c.ranges.most.fits read)
