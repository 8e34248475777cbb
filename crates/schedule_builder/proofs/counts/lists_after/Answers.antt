use Rattle.std.proofs.Common.{ℕ, ◌<◌, ◌≡◌, true, [], List, length, get_or}
use Rattle.number_set.specs.Members.{contains}
use Rattle.schedule_builder.specs.Counts.{IsListing}
use Rattle.schedule_builder.proofs.LoopSteps.{made_next}
use Rattle.schedule_builder.proofs.counts.lists_after.Goals as goal

pub loop-number-preserved : goal.loop-number-preserved
loop-number-preserved c =
    let before : List (List ℕ) = c.args.before.now in
    let next = made_next (λ n (xs : List ℕ). IsListing (λ m. (m < length before) × (contains (get_or before m []) n ≡ true)) xs) [] c.loop-number.lists.items c.push.new.self.items c.loop-number.number _
    c.loop-number.invariant.long c.loop-number.invariant.each c.in_ok-of_system.ensures c.in_ok-push.ensures.items in
    record { long = next.0; each = next.1 }
