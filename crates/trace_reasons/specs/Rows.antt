-- What is marked of a trace.
use Rattle.std.specs.Prelude.{ℕ, List}
use Rattle.model.specs.declared.steps.Step.{Step}
use Rattle.text_marks.specs.Lines.{Spells}
use Rattle.text_marks.specs.declared.marks.Span.{Span}
use Rattle.trace_checker.specs.Grammar.{step_text}

-- what stands at a span is a step, as it is printed
abbrev pub IsStepAt : List ℕ → Step → Span → Type 0
IsStepAt text step span = Spells text span (step_text step)
