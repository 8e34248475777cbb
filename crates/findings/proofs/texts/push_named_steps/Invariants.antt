use Rattle.std.proofs.Common.{◌≡◌, ◌++◌, map, take, flat_map, string_bytes}
use Rattle.findings.specs.Texts.{named_step}
use Rattle.findings.proofs.texts.push_named_steps.Given as goal

-- the steps so far are told
abbrev pub invariant-loop-step : goal.invariant-loop-step
invariant-loop-step l = string_bytes l.text ≡ string_bytes l.fn.text ++ flat_map (named_step (map (λ name. name.now) l.names)) (take l.step-index l.steps)
