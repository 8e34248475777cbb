use Rattle.std.proofs.Common.{◌≡◌, ℕ, List, ◌++◌, length, take, drop}
use Rattle.std.specs.List.{AllByRecursion}
use Rattle.kinds.specs.Res.{every_res}
use Rattle.model.specs.state.State.{Resource, resource_count}
use Rattle.state_text.specs.LineWords.{AreLines, IsResourceAt, resources_before, with_resources}
use Rattle.state_text.proofs.reading.resources.read_resources.Given as goal

-- the resources so far are set
abbrev pub invariant-loop-res : goal.invariant-loop-res
invariant-loop-res l = record {
  clock : l.world.state.clock ≡ l.fn.world.state.clock;
  layout : l.world.layout ≡ l.fn.world.layout;
  read : (rs : List Resource) (more : List (List (List ℕ))) → length rs ≡ length l.fn.world.state.resources → length rs ≡ resource_count
      → AllByRecursion (IsResourceAt l.fn.world.state.clock) rs → AreLines (resources_before rs every_res more) l.fn.lines.rest.now
      → (l.world.state ≡ with_resources (take l.res-index rs ++ drop l.res-index l.fn.world.state.resources) l.fn.world.state)
      × AreLines (resources_before rs (drop l.res-index every_res) more) l.lines.rest.now;
}
