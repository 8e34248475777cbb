use Rattle.std.proofs.Common.{refl, sym, ◌∙◌}
use Rattle.libecs.proofs.KeptParts.{none_there, there}
use Rattle.libecs.proofs.Refusals.{unopened}
use Rattle.libecs.specs.Handle.{world_in}
use Rattle.libecs.proofs.calls.open.Goals as goal

pub returns-then-handle : goal.returns-then-handle
returns-then-handle c =
    let handle = c.args.handle.now in
    (there handle.slot.kept (sym handle.agrees ∙ c.if-handle.true), refl, c.give.ensures)

pub returns-in-Ok : goal.returns-in-Ok
returns-in-Ok c =
    let handle = c.args.handle.now in
    (none_there handle.slot.kept (sym handle.agrees ∙ c.if-handle.false), (c.in-Ok.world.value, c.of.ensures, c.in-Ok.ensures.opened), c.give-in-Ok.ensures)

pub returns-in-Err : goal.returns-in-Err
returns-in-Err c =
    unopened c.args.file.now (world_in c.args.handle.now) (c.args.out.now, c.refuse.new.out) c.refuse.new.wanted c.in-Err.fault c.refuse.result c.in-Err.ensures.refused c.refuse.ensures
