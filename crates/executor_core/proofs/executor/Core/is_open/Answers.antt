use Rattle.std.proofs.Common.{◌≡◌, length, get_or, subst}
use Rattle.model.specs.Counts.{count_below}
use Rattle.executor_core.specs.Stands.{Stand}
use Rattle.executor_core.specs.Judges.{HasCounts, is_left_at}
use Rattle.executor_core.proofs.Counted.{tells_open}
use Rattle.executor_core.proofs.executor.Core.is_open.Goals as goal

pub returns : goal.returns
unfolding HasCounts
returns c =
    let level = c.args.level in
    let left = c.self.inside.left in
    tells_open c.args.self.now level (get_or left level 0) c.is_none.result
    (subst (λ (s : Stand). get_or left level 0 ≡ count_below (is_left_at s.schedule.systems s.over level) (length s.schedule.systems)) c.self.view_is (c.self.invariant.1.left level)) c.is_none.ensures
