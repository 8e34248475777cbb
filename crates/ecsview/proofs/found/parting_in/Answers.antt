use Rattle.std.proofs.Common.{List, inr, map, ap, subst, sym, ◌∙◌, length}
use Rattle.std.specs.Prelude.{◌⊎◌, Vec}
use Rattle.std.specs.declared.alloc.Global.{Global}
use Rattle.findings.specs.Parting.{AreAllReplayed, IsParting}
use Rattle.findings.specs.Refusals.{IsUnparted}
use Rattle.kinds.specs.declared.value.Value.{Value}
use Rattle.model.proofs.lists.Results.{handed_on}
use Rattle.model.specs.shown.Outcome.{BodyMeaning}
use Rattle.model.specs.state.Loaded.{loaded}
use Rattle.model.specs.state.State.{State}
use Rattle.program.specs.Load.{entity_given}
use Rattle.program.specs.Refused.{IsUngiven}
use Rattle.program.specs.Setup.{AreScriptsOf}
use Rattle.program.specs.declared.fault.Fault.{Fault}
use Rattle.ecsview.specs.Found.{first_of, meanings_of}
use Rattle.ecsview.proofs.Divergences.{on_file}
use Rattle.ecsview.proofs.found.parting_in.Goals as goal

-- the scripts of what is loaded fit its systems
pub parting_of-requires-clause-fitting : goal.parting_of-requires-clause-fitting
parting_of-requires-clause-fitting c = subst (AreScriptsOf c.args.loaded.built) (sym c.as_mut_slice-bodies.ensures.value) c.requires.fitting

-- both begin with the state with which the first run of the file begins
pub returns-clause-parting : goal.returns-clause-parting
returns-clause-parting c =
    let l = c.args.loaded in
    let first = c.in_ok-first.ensures.first ∙ ap (λ (entities : List (Vec Value Global)). loaded l.built (map entity_given entities) l.resources) c.as_slice.ensures.value in
    let second = c.in_ok-second.ensures.first ∙ ap (λ (entities : List (Vec Value Global)). loaded l.built (map entity_given entities) l.resources) c.as_slice-2.ensures.value in
    on_file l (λ (meant : List BodyMeaning) (start beginning : State). IsParting l.built meant 0 start beginning c.args.one.now c.args.two.now c.in_ok-parting.parting) c.as_mut_slice-bodies.result.now _ _
    c.as_mut_slice-bodies.ensures.value first second c.in_ok-parting.ensures.parting

-- all runs of both are replayed
pub returns-clause-replayed : goal.returns-clause-replayed
returns-clause-replayed c =
    let l = c.args.loaded in
    let first = c.in_ok-first.ensures.first ∙ ap (λ (entities : List (Vec Value Global)). loaded l.built (map entity_given entities) l.resources) c.as_slice.ensures.value in
    let second = c.in_ok-second.ensures.first ∙ ap (λ (entities : List (Vec Value Global)). loaded l.built (map entity_given entities) l.resources) c.as_slice-2.ensures.value in
    on_file l (λ (meant : List BodyMeaning) (start beginning : State). AreAllReplayed l.built meant start c.args.one.now) c.as_mut_slice-bodies.result.now _ _
    c.as_mut_slice-bodies.ensures.value first second c.in_ok-parting.ensures.replayed

pub returns-clause-replayed_other : goal.returns-clause-replayed_other
returns-clause-replayed_other c =
    let l = c.args.loaded in
    let first = c.in_ok-first.ensures.first ∙ ap (λ (entities : List (Vec Value Global)). loaded l.built (map entity_given entities) l.resources) c.as_slice.ensures.value in
    let second = c.in_ok-second.ensures.first ∙ ap (λ (entities : List (Vec Value Global)). loaded l.built (map entity_given entities) l.resources) c.as_slice-2.ensures.value in
    on_file l (λ (meant : List BodyMeaning) (start beginning : State). AreAllReplayed l.built meant beginning c.args.two.now) c.as_mut_slice-bodies.result.now _ _
    c.as_mut_slice-bodies.ensures.value first second c.in_ok-parting.ensures.replayed_other

-- a run is refused
pub returns-in_err-parting-clause-refused : goal.returns-in_err-parting-clause-refused
returns-in_err-parting-clause-refused c =
    let l = c.args.loaded in
    let told = c.in_err-parting.field-0.0 in
    let first = c.in_ok-first.ensures.first ∙ ap (λ (entities : List (Vec Value Global)). loaded l.built (map entity_given entities) l.resources) c.as_slice.ensures.value in
    let second = c.in_ok-second.ensures.first ∙ ap (λ (entities : List (Vec Value Global)). loaded l.built (map entity_given entities) l.resources) c.as_slice-2.ensures.value in
    handed_on (λ (fault : Fault). IsUngiven (length l.entities.items) fault ⊎ IsUnparted l.built (meanings_of l) (first_of l) (first_of l) c.args.one.now c.args.two.now fault) c.from_residual-in_err-parting.result told
    c.from_residual-in_err-parting.ensures.1
    (inr (on_file l (λ (meant : List BodyMeaning) (start beginning : State). IsUnparted l.built meant start beginning c.args.one.now c.args.two.now told) c.as_mut_slice-bodies.result.now _ _
    c.as_mut_slice-bodies.ensures.value first second c.in_err-parting.ensures.refused))
