use Rattle.std.proofs.Common.{◌<◌, length, refl, sym, arith}
use Rattle.executor_core.proofs.Judging.{told_no, start_not-ready, start_open, start_false, start_conflict, start_may}
use Rattle.executor_core.proofs.executor.Core.may_start.Goals as goal

pub returns-then-not-is_released-clause-judged : goal.returns-then-not-is_released-clause-judged
returns-then-not-is_released-clause-judged c = λ sets h stands.
    let known : c.args.system < length c.args.self.now.schedule.systems = omega arith in
    start_not-ready c.args.self.now sets h c.args.system stands known (sym c.if-has_begun.ensures) (told_no c.if-not-is_released.ensures)

pub returns-then-has_unasked-clause-judged : goal.returns-then-has_unasked-clause-judged
returns-then-has_unasked-clause-judged c = λ sets h stands.
    let known : c.args.system < length c.args.self.now.schedule.systems = omega arith in
    start_open c.args.self.now sets h c.args.system stands known (sym c.if-has_begun.ensures) (c.if-not-is_released.ensures.0 refl) (c.if-has_unasked.ensures.0 refl)

pub returns-then-has_refusing-clause-judged : goal.returns-then-has_refusing-clause-judged
returns-then-has_refusing-clause-judged c = λ sets h stands.
    let known : c.args.system < length c.args.self.now.schedule.systems = omega arith in
    start_false c.args.self.now sets h c.args.system stands known (sym c.if-has_begun.ensures) (c.if-not-is_released.ensures.0 refl) (told_no c.if-has_unasked.ensures) (c.if-has_refusing.ensures.0 refl)

pub returns-then-not-is_clear-clause-judged : goal.returns-then-not-is_clear-clause-judged
returns-then-not-is_clear-clause-judged c = λ sets h stands.
    let known : c.args.system < length c.args.self.now.schedule.systems = omega arith in
    start_conflict c.args.self.now sets h c.args.system stands known (sym c.if-has_begun.ensures) (c.if-not-is_released.ensures.0 refl) (told_no c.if-has_unasked.ensures) (told_no c.if-has_refusing.ensures)
    (told_no c.if-not-is_clear.ensures)

pub returns-clause-judged : goal.returns-clause-judged
returns-clause-judged c = λ sets h stands.
    let known : c.args.system < length c.args.self.now.schedule.systems = omega arith in
    start_may c.args.self.now sets h c.args.system stands known (sym c.if-has_begun.ensures) (c.if-not-is_released.ensures.0 refl) (told_no c.if-has_unasked.ensures) (told_no c.if-has_refusing.ensures)
    (c.if-not-is_clear.ensures.0 refl)
