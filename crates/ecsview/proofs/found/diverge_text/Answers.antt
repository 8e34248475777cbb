use Rattle.std.proofs.Common.{◌<◌, ◌^◌, List, length, refl, subst, sym, string_bytes}
use Rattle.model.specs.steps.Schedule.{Recorded}
use Rattle.program.proofs.Replays.{fitting-count}
use Rattle.ecsview.proofs.Divergences.{diverge_of}
use Rattle.ecsview.proofs.found.diverge_text.Goals as goal

-- a trace that is read has runs with numbers of 32 bits
pub parting_in-requires-clause-few : goal.parting_in-requires-clause-few
parting_in-requires-clause-few g c = subst (λ (runs : List Recorded). length runs < 2 ^ 32) (sym c.as_slice-runs.ensures.value) (fitting-count c.in_ok-one.one.items c.in_ok-one.ensures.fitting)

-- what is told of the runs that were read
pub returns-clause-text : goal.returns-clause-text
returns-clause-text g c =
    diverge_of c.args.loaded (g.F.Read.remaining c.args.trace.now) (g.F.Read.remaining c.args.other.now) c.in_ok-one.one.items c.in_ok-two.two.items c.as_slice-runs.result.now c.as_slice-others.result.now c.in_ok-parting.parting
    c.first_difference-place.result c.status_of.result _ _ (string_bytes c.in_ok-text.text) c.in_ok-one.ensures.read c.in_ok-two.ensures.read c.as_slice-runs.ensures.value c.as_slice-others.ensures.value
    c.in_ok-parting.ensures.replayed c.in_ok-parting.ensures.replayed_other c.in_ok-parting.ensures.parting c.first_difference-place.ensures c.status_of.ensures refl refl c.in_ok-text.ensures
