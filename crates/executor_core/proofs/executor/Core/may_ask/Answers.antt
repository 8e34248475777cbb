use Rattle.std.proofs.Common.{◌<◌, length, refl, sym, arith}
use Rattle.executor_core.proofs.Judging.{told_no, ask_not-ready, ask_conflict, ask_may}
use Rattle.executor_core.proofs.executor.Core.may_ask.Goals as goal

pub returns-then-not-has_waiting_member-clause-judged : goal.returns-then-not-has_waiting_member-clause-judged
returns-then-not-has_waiting_member-clause-judged c = λ sets h stands.
    let known : c.args.condition < length c.args.self.now.schedule.conditions = omega arith in
    ask_not-ready c.args.self.now sets h c.args.condition c.args.answer stands known (sym c.if-was_asked.ensures) (told_no c.if-not-has_waiting_member.ensures)

pub returns-then-not-is_clear_of-clause-judged : goal.returns-then-not-is_clear_of-clause-judged
returns-then-not-is_clear_of-clause-judged c = λ sets h stands.
    let known : c.args.condition < length c.args.self.now.schedule.conditions = omega arith in
    ask_conflict c.args.self.now sets h c.args.condition c.args.answer stands c.built_law.ensures known (sym c.if-was_asked.ensures) (c.if-not-has_waiting_member.ensures.0 refl)
    (told_no c.if-not-is_clear_of.ensures)

pub returns-clause-judged : goal.returns-clause-judged
returns-clause-judged c = λ sets h stands.
    let known : c.args.condition < length c.args.self.now.schedule.conditions = omega arith in
    ask_may c.args.self.now sets h c.args.condition stands c.built_law.ensures known (sym c.if-was_asked.ensures) (c.if-not-has_waiting_member.ensures.0 refl) (c.if-not-is_clear_of.ensures.0 refl)
