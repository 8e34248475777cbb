use Rattle.std.proofs.Common.{◌<◌, length, refl, sym, arith}
use Rattle.executor_core.proofs.Judging.{told_no, skip_not-ready, skip_open, skip_true, skip_may}
use Rattle.executor_core.proofs.executor.Core.may_skip.Goals as goal

pub returns-then-not-is_released-clause-judged : goal.returns-then-not-is_released-clause-judged
returns-then-not-is_released-clause-judged c = λ sets h stands.
    let known : c.args.system < length c.args.self.now.schedule.systems = omega arith in
    skip_not-ready c.args.self.now sets h c.args.system stands known (sym c.if-has_begun.ensures) (told_no c.if-not-is_released.ensures)

pub returns-then-has_unasked-clause-judged : goal.returns-then-has_unasked-clause-judged
returns-then-has_unasked-clause-judged c = λ sets h stands.
    let known : c.args.system < length c.args.self.now.schedule.systems = omega arith in
    skip_open c.args.self.now sets h c.args.system stands known (sym c.if-has_begun.ensures) (c.if-not-is_released.ensures.0 refl) (c.if-has_unasked.ensures.0 refl)

pub returns-then-not-has_refusing-clause-judged : goal.returns-then-not-has_refusing-clause-judged
returns-then-not-has_refusing-clause-judged c = λ sets h stands.
    let known : c.args.system < length c.args.self.now.schedule.systems = omega arith in
    skip_true c.args.self.now sets h c.args.system stands known (sym c.if-has_begun.ensures) (c.if-not-is_released.ensures.0 refl) (told_no c.if-has_unasked.ensures) (told_no c.if-not-has_refusing.ensures)

pub returns-clause-judged : goal.returns-clause-judged
returns-clause-judged c = λ sets h stands.
    let known : c.args.system < length c.args.self.now.schedule.systems = omega arith in
    skip_may c.args.self.now sets h c.args.system stands known (sym c.if-has_begun.ensures) (c.if-not-is_released.ensures.0 refl) (told_no c.if-has_unasked.ensures) (c.if-not-has_refusing.ensures.0 refl)
