use Rattle.std.proofs.Common.{◌<◌, ◌^◌, List, length, map, ap, subst, sym, ◌∙◌, string_bytes}
use Rattle.std.specs.Prelude.{Vec}
use Rattle.std.specs.declared.alloc.Global.{Global}
use Rattle.kinds.specs.declared.value.Value.{Value}
use Rattle.model.specs.state.Loaded.{loaded}
use Rattle.model.specs.steps.Schedule.{Recorded}
use Rattle.program.specs.Load.{entity_given}
use Rattle.program.proofs.Replays.{fitting-count}
use Rattle.ecsview.proofs.PairTexts.{steps_of}
use Rattle.ecsview.proofs.found.steps_text.Goals as goal

-- a trace that is read has runs with numbers of 32 bits
pub story_of-requires-clause-few : goal.story_of-requires-clause-few
story_of-requires-clause-few g c = subst (λ (runs : List Recorded). length runs < 2 ^ 32) (sym c.as_slice-2.ensures.value) (fitting-count c.in_ok-traces.traces.items c.in_ok-traces.ensures.fitting)

-- the story of the runs that are read, from the state with which the first run of the file begins
pub returns-clause-text : goal.returns-clause-text
returns-clause-text g c =
    let start = c.in_ok-first.ensures.first ∙ ap (λ (entities : List (Vec Value Global)). loaded c.args.loaded.built (map entity_given entities) c.args.loaded.resources) c.as_slice.ensures.value in
    steps_of c.args.loaded (g.T.Read.remaining c.args.trace.now) c.args.asked c.in_ok-traces.traces.items c.as_slice-2.result.now c.as_mut_slice-bodies.result.now c.in_ok-first.first (string_bytes c.in_ok-text.text)
    c.in_ok-traces.ensures.read c.as_slice-2.ensures.value c.as_mut_slice-bodies.ensures.value start c.in_ok-text.ensures.story
