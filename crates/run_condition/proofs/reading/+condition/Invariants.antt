-- Each `not`, `and` and `or` goes one less deep; what leads there stands in order.
use Rattle.std.proofs.Common.{◌+◌, ◌*◌}
use Rattle.run_condition.proofs.reading.+condition.Given as goal

abbrev pub decreases-read_and : goal.decreases-read_and
decreases-read_and l = 10 * l.depth + 0

abbrev pub decreases-read_behind : goal.decreases-read_behind
decreases-read_behind l = 10 * l.depth + 2

abbrev pub decreases-read_call : goal.decreases-read_call
decreases-read_call l = 10 * l.depth + 1

abbrev pub decreases-read_front : goal.decreases-read_front
decreases-read_front l = 10 * l.depth + 3

abbrev pub decreases-read_last : goal.decreases-read_last
decreases-read_last l = 10 * l.depth + 4

abbrev pub decreases-read_left : goal.decreases-read_left
decreases-read_left l = 10 * l.depth + 4

abbrev pub decreases-read_not : goal.decreases-read_not
decreases-read_not l = 10 * l.depth + 0

abbrev pub decreases-read_or : goal.decreases-read_or
decreases-read_or l = 10 * l.depth + 0

abbrev pub decreases-read_two : goal.decreases-read_two
decreases-read_two l = 10 * l.depth + 5
