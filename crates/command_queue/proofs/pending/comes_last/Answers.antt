use Rattle.std.proofs.Common.{length, ◌-◌, suc, ◌≡◌, arith}
use Rattle.std.proofs.lemmas.Bool.{leb-true}
use Rattle.command_queue.proofs.Turns.{last_from, last_none}
use Rattle.command_queue.proofs.pending.comes_last.Goals as goal

pub returns-then-count-eq0 : goal.returns-then-count-eq0
returns-then-count-eq0 c = λ yes turn. last_none c.args.index c.args.changes.now (omega arith)

pub returns : goal.returns
returns c = λ yes turn.
    let cs = c.args.changes.now in
    let last : length cs ≡ suc (length cs - 1) = omega arith in
    last_from c.args.index cs (length cs - 1) c.index-changes-count.result c.requires.apart last (leb-true _ _ yes) turn
