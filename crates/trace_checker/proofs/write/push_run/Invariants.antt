use Rattle.std.proofs.Common.{◌≡◌, ◌++◌, ◌∷◌, reverse, take, string_bytes}
use Rattle.model.specs.steps.Lawful.{syncs_in}
use Rattle.trace_checker.specs.Grammar.{lines_text, history_lines}
use Rattle.trace_checker.specs.declared.line.Line.TheVariants.{Begin}
use Rattle.trace_checker.proofs.write.push_run.Given as goal

-- the lines of the steps so far are written
abbrev pub invariant-loop-step : goal.invariant-loop-step
invariant-loop-step l = record {
  place : l.place ≡ syncs_in (reverse (take l.step-index l.steps));
  written : string_bytes l.text ≡ string_bytes l.fn.text ++ lines_text (Begin l.number ∷ history_lines l.trace.sets (reverse (take l.step-index l.steps)));
}
