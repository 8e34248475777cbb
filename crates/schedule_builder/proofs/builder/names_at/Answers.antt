use Rattle.std.proofs.Common.{[], map, string_bytes}
use Rattle.model.specs.declarations.Declarations.{name_of}
use Rattle.model.proofs.lists.Turns.{copied_next, mapped_all}
use Rattle.schedule_builder.proofs.builder.names_at.Goals as goal

pub loop-number-preserved : goal.loop-number-preserved
loop-number-preserved c =
    copied_next string_bytes (name_of c.args.desc.now) c.args.numbers.now c.loop-number.number-index 0 [] c.loop-number.names.items c.push.new.self.items _ c.loop-number-test.true c.loop-number.invariant c.in_ok-name_at.ensures c.in_ok-push.ensures.items

pub returns : goal.returns
returns c = mapped_all (name_of c.args.desc.now) c.args.numbers.now c.loop-number.number-index [] (map string_bytes c.loop-number.names.items) c.loop-number-test.false c.loop-number.invariant
