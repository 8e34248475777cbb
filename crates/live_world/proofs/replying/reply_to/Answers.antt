use Rattle.std.proofs.Common.{◌≤◌, ◌<◌, length, arith, sym, ◌∙◌, true≢false}
use Rattle.live_world.proofs.Replies.{line_replied, lines_amiss, lines_replied, lines_unasked, too_long}
use Rattle.live_world.specs.Sent.{most_line_bytes}
use Rattle.live_world.proofs.replying.reply_to.Goals.{in-Some+else-are_lines, in-None+else-is_empty}
use Rattle.live_world.proofs.replying.reply_to.Goals as goal

pub returns-then-line : goal.returns-then-line
returns-then-line c =
    let line = c.parted.result.0.now in
    let long : most_line_bytes < length line = omega (arith, c.if-line.true) in
    too_long c.args.sent.now line c.parted.result.1.now c.args.session.now c.parted.ensures long

pub returns-in-Some : goal.returns-in-Some
returns-in-Some c =
    let line = c.parted.result.0.now in
    let within : length line ≤ most_line_bytes = omega (arith, c.if-line.false) in
    let are = c.are_lines.ensures.0 c.if-are_lines.true in
    lines_replied c.args.sent.now line c.parted.result.1.now c.args.session.now c.parted.ensures c.load_lines.result c.load_lines.new.session c.in-Some.load within c.in-Some.ensures are c.load_lines.ensures

pub returns-in-None : goal.returns-in-None
returns-in-None c =
    let line = c.parted.result.0.now in
    let within : length line ≤ most_line_bytes = omega (arith, c.if-line.false) in
    line_replied c.args.sent.now line c.parted.result.1.now c.args.session.now c.parted.ensures c.answer.result c.answer.new.session c.is_empty.result within c.is_empty.ensures c.if-is_empty.true c.in-None.ensures c.answer.ensures

pub returns-in-Some-2 : goal.returns-in-Some-2
returns-in-Some-2 c =
    let sent = c.args.sent.now in
    let line = c.parted.result.0.now in
    let rest = c.parted.result.1.now in
    let old = c.args.session.now in
    elim c.in-Some-2-1.branch [
      | in-Some+else-are_lines w ↦ lines_amiss sent line rest old c.parted.ensures w.in-Some.load w.in-Some.ensures (λ are. true≢false (sym (w.are_lines.ensures.1 are) ∙ w.if-are_lines.false))
      | in-None+else-is_empty w ↦ lines_unasked sent line rest old c.parted.ensures w.is_empty.result w.is_empty.ensures w.if-is_empty.false w.in-None.ensures
    ]
