use Rattle.std.proofs.Common.{◌≡◌, ◌==◌, ◌&&◌, Some, None, sym, ap, ◌∙◌, arith}
use Rattle.command_queue.proofs.Puts.{at_place}
use Rattle.command_queue.proofs.Targets.{alive_unchanged, alive_changed, is_kept}
use Rattle.command_queue.specs.Pending.{place_of, is_left_alive}
use Rattle.command_queue.proofs.pending.Pending.find.Goals as goal

pub index-requires : goal.index-requires
index-requires c =
    let cs = c.args.self.now.changes.items in
    let at = at_place c.args.e.index cs c.in-Some.place (sym c.in-Some.ensures) in
    omega (arith, at.within, c.args.self.now.changes.ok.0)

pub returns-else-lives : goal.returns-else-lives
returns-else-lives c =
    let cs = c.args.self.now.changes.items in
    let none : place_of c.args.e.index cs ≡ None = sym c.in-None.ensures in
    alive_unchanged c.args.world.now.state cs c.requires.pending.changes c.args.e none ∙ sym c.lives.ensures ∙ c.if-lives.false

pub returns-then-keeps : goal.returns-then-keeps
returns-then-keeps c =
    let cs = c.args.self.now.changes.items in
    let there : place_of c.args.e.index cs ≡ Some c.in-Some.place = sym c.in-Some.ensures in
    is_kept cs c.args.e c.in-Some.place c.index.result.now there c.index.ensures (sym c.keeps.ensures ∙ c.if-keeps.true)

pub returns-else-keeps : goal.returns-else-keeps
returns-else-keeps c =
    let cs = c.args.self.now.changes.items in
    let there : place_of c.args.e.index cs ≡ Some c.in-Some.place = sym c.in-Some.ensures in
    let x = c.index.result.now in
    alive_changed c.args.world.now.state cs c.requires.pending.changes c.args.e c.in-Some.place x there
    ∙ ap (λ y. is_left_alive y.fate && (y.entity.generation == c.args.e.generation)) (sym c.index.ensures)
    ∙ sym c.keeps.ensures ∙ c.if-keeps.false
