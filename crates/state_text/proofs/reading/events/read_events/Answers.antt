use Rattle.std.proofs.Common.{◌≡◌, ℕ, ◌<◌, List, [], ◌∷◌, FitsSigned, w64, length, sym, ◌∙◌, arith}
use Rattle.std.specs.List.{AllByRecursion}
use Rattle.model.specs.state.State.{Event, EventQueue, empty_queue}
use Rattle.model.specs.state.Events.{queue_of}
use Rattle.model.specs.state.Shape.{IsQueue}
use Rattle.model.proofs.lists.Each.{each-at}
use Rattle.state_text.specs.LineWords.{AreLines}
use Rattle.state_text.proofs.KeptValues.{four_queues}
use Rattle.state_text.proofs.Passed.{passed}
use Rattle.state_text.proofs.reading.events.read_events.Goals as goal

-- what holds of the queue of a kind
at : (P : EventQueue → Type 0) (queues : List EventQueue) → length queues ≡ 4 → AllByRecursion P queues → (k : ℕ) → k < 4 → P (queue_of queues k)
at P queues four h k low = each-at P queues k empty_queue (omega (arith, four, low)) h

abbrev HasFit : EventQueue → Type 0
HasFit queue = AllByRecursion (λ (e : Event). FitsSigned w64 e.value) queue.kept

pub returns-in_err-hit : goal.returns-in_err-hit
returns-in_err-hit c queues more four is fits h =
    passed (λ found. (found ≡ queues) × AreLines more c.read_queue.new.lines.rest.now) _ _ c.from_residual.ensures.1
    (c.in_err-hit.ensures (queue_of queues 0) _ (at IsQueue queues four is 0 (omega arith)) (at HasFit queues four fits 0 (omega arith)) h)

pub returns-in_err-heal : goal.returns-in_err-heal
returns-in_err-heal c queues more four is fits h =
    let hit = c.in_ok-hit.ensures (queue_of queues 0) _ (at IsQueue queues four is 0 (omega arith)) (at HasFit queues four fits 0 (omega arith)) h in
    passed (λ found. (found ≡ queues) × AreLines more c.read_queue-2.new.lines.rest.now) _ _ c.from_residual-in_err-heal.ensures.1
    (c.in_err-heal.ensures (queue_of queues 1) _ (at IsQueue queues four is 1 (omega arith)) (at HasFit queues four fits 1 (omega arith)) hit.1)

pub returns-in_err-spark : goal.returns-in_err-spark
returns-in_err-spark c queues more four is fits h =
    let hit = c.in_ok-hit.ensures (queue_of queues 0) _ (at IsQueue queues four is 0 (omega arith)) (at HasFit queues four fits 0 (omega arith)) h in
    let heal = c.in_ok-heal.ensures (queue_of queues 1) _ (at IsQueue queues four is 1 (omega arith)) (at HasFit queues four fits 1 (omega arith)) hit.1 in
    passed (λ found. (found ≡ queues) × AreLines more c.read_queue-3.new.lines.rest.now) _ _ c.from_residual-in_err-spark.ensures.1
    (c.in_err-spark.ensures (queue_of queues 2) _ (at IsQueue queues four is 2 (omega arith)) (at HasFit queues four fits 2 (omega arith)) heal.1)

pub returns-in_err-done : goal.returns-in_err-done
returns-in_err-done c queues more four is fits h =
    let hit = c.in_ok-hit.ensures (queue_of queues 0) _ (at IsQueue queues four is 0 (omega arith)) (at HasFit queues four fits 0 (omega arith)) h in
    let heal = c.in_ok-heal.ensures (queue_of queues 1) _ (at IsQueue queues four is 1 (omega arith)) (at HasFit queues four fits 1 (omega arith)) hit.1 in
    let spark = c.in_ok-spark.ensures (queue_of queues 2) _ (at IsQueue queues four is 2 (omega arith)) (at HasFit queues four fits 2 (omega arith)) heal.1 in
    passed (λ found. (found ≡ queues) × AreLines more c.read_queue-4.new.lines.rest.now) _ _ c.from_residual-in_err-done.ensures.1
    (c.in_err-done.ensures (queue_of queues 3) _ (at IsQueue queues four is 3 (omega arith)) (at HasFit queues four fits 3 (omega arith)) spark.1)

pub returns : goal.returns
returns c queues more four is fits h =
    let hit = c.in_ok-hit.ensures (queue_of queues 0) _ (at IsQueue queues four is 0 (omega arith)) (at HasFit queues four fits 0 (omega arith)) h in
    let heal = c.in_ok-heal.ensures (queue_of queues 1) _ (at IsQueue queues four is 1 (omega arith)) (at HasFit queues four fits 1 (omega arith)) hit.1 in
    let spark = c.in_ok-spark.ensures (queue_of queues 2) _ (at IsQueue queues four is 2 (omega arith)) (at HasFit queues four fits 2 (omega arith)) heal.1 in
    let done = c.in_ok-done.ensures (queue_of queues 3) _ (at IsQueue queues four is 3 (omega arith)) (at HasFit queues four fits 3 (omega arith)) spark.1 in
    (c.of_queues.ensures ∙ (λ i. hit.0 i ∷ heal.0 i ∷ spark.0 i ∷ done.0 i ∷ []) ∙ sym (four_queues queues four), done.1)
