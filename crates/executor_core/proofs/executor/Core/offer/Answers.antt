use Rattle.std.proofs.Common.{◌<◌, length, refl, arith}
use Rattle.executor_core.proofs.Judging.{told_no}
use Rattle.executor_core.proofs.Telling.{busy_offers-nothing, offers_ask, open_offers-nothing, offers_skip, offers_start, meeting_offers-nothing}
use Rattle.executor_core.proofs.executor.Core.offer.Goals as goal

pub returns-then-not-is_waiting : goal.returns-then-not-is_waiting
returns-then-not-is_waiting c = λ sets h stands. busy_offers-nothing c.args.self.now sets h c.args.system stands (told_no c.if-not-is_waiting.ensures)

pub returns-in-Some : goal.returns-in-Some
returns-in-Some c = λ sets h stands.
    let known : c.args.system < length c.args.self.now.schedule.systems = omega arith in
    offers_ask c.args.self.now sets h c.args.system c.in-Some.condition stands known (c.if-not-is_waiting.ensures.0 refl) c.in-Some.ensures.found

pub returns-then-has_unasked : goal.returns-then-has_unasked
returns-then-has_unasked c = λ sets h stands. open_offers-nothing c.args.self.now sets h c.args.system stands c.in_default.ensures.none (c.if-has_unasked.ensures.0 refl)

pub returns-then-has_refusing : goal.returns-then-has_refusing
returns-then-has_refusing c = λ sets h stands.
    let known : c.args.system < length c.args.self.now.schedule.systems = omega arith in
    offers_skip c.args.self.now sets h c.args.system stands known (c.if-not-is_waiting.ensures.0 refl) (told_no c.if-has_unasked.ensures) (c.if-has_refusing.ensures.0 refl)

pub returns-then-are_rows_due : goal.returns-then-are_rows_due
returns-then-are_rows_due c = λ sets h stands.
    let known : c.args.system < length c.args.self.now.schedule.systems = omega arith in
    let due = c.if-are_rows_due.ensures refl in
    offers_start c.args.self.now sets h c.args.system stands known (c.if-not-is_waiting.ensures.0 refl) (told_no c.if-has_unasked.ensures) (told_no c.if-has_refusing.ensures) (λ m met. (stands.due due.0 due.1).0 m)

pub returns-then-is_clear : goal.returns-then-is_clear
returns-then-is_clear c = λ sets h stands.
    let known : c.args.system < length c.args.self.now.schedule.systems = omega arith in
    offers_start c.args.self.now sets h c.args.system stands known (c.if-not-is_waiting.ensures.0 refl) (told_no c.if-has_unasked.ensures) (told_no c.if-has_refusing.ensures) (c.if-is_clear.ensures.0 refl)

pub returns : goal.returns
returns c = λ sets h stands.
    meeting_offers-nothing c.args.self.now sets h c.args.system stands (told_no c.if-has_unasked.ensures) (told_no c.if-has_refusing.ensures) (told_no c.if-is_clear.ensures)
