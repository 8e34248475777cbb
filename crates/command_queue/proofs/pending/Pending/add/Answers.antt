use Rattle.std.proofs.Common.{◌≡◌, length, sym, subst, ◌∙◌, arith}
use Rattle.command_queue.specs.Pending.{ArePlaced}
use Rattle.command_queue.proofs.Puts.{put_first}
use Rattle.command_queue.proofs.Turns.{placed_put}
use Rattle.command_queue.proofs.pending.Pending.add.Goals as goal

pub returns-clause-changes : goal.returns-clause-changes
returns-clause-changes c =
    c.in_ok-push.ensures.items ∙ put_first c.args.change c.args.self.now.changes.items c.requires.first

pub returns-clause-placed : goal.returns-clause-placed
returns-clause-placed c =
    let cs = c.args.self.now.changes.items in
    let change = c.args.change in
    let many : c.len.result ≡ length cs = omega (arith, c.len.ensures, c.args.self.now.changes.ok.0) in
    subst (ArePlaced c.note_place.new.places) (sym (c.in_ok-push.ensures.items ∙ put_first change cs c.requires.first))
    (placed_put c.args.self.now.places c.note_place.new.places change cs c.len.result many c.in_ok-note_place.ensures c.requires.placed c.requires.told c.requires.first)
