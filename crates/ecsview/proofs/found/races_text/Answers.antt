use Rattle.std.proofs.Common.{◌≡◌, ◌-◌, ℕ, List, inl, inr, map, ap, subst, sym, ◌∙◌, length, string_bytes}
use Rattle.std.specs.Prelude.{◌⊎◌, Vec}
use Rattle.std.specs.declared.alloc.Global.{Global}
use Rattle.findings.specs.Behind.{IsBehind}
use Rattle.findings.specs.Refusals.{IsUnreached, IsUnwitnessed}
use Rattle.kinds.specs.declared.value.Value.{Value}
use Rattle.model.proofs.lists.Results.{handed_on}
use Rattle.model.specs.shown.Outcome.{BodyMeaning}
use Rattle.model.specs.state.Loaded.{loaded}
use Rattle.model.specs.state.State.{State}
use Rattle.program.specs.Load.{entity_given}
use Rattle.program.specs.Refused.{IsUngiven}
use Rattle.program.specs.Setup.{meanings_of_scripts}
use Rattle.program.specs.declared.fault.Fault.{Fault}
use Rattle.ecsview.specs.Found.{first_of, meanings_of}
use Rattle.ecsview.specs.Refusals.{IsUnfound}
use Rattle.ecsview.proofs.Divergences.{on_file}
use Rattle.ecsview.proofs.PairTexts.{told_on_file}
use Rattle.ecsview.proofs.found.races_text.Goals as goal

-- a run before is refused, from the state with which the first run of the file begins
pub returns-in_err-state-clause-refused : goal.returns-in_err-state-clause-refused
returns-in_err-state-clause-refused c =
    let l = c.args.loaded in
    let told = c.in_err-state.field-0.0 in
    let first = c.in_ok-first.ensures.first ∙ ap (λ (entities : List (Vec Value Global)). loaded l.built (map entity_given entities) l.resources) c.as_slice.ensures.value in
    handed_on (λ (fault : Fault). IsUngiven (length l.entities.items) fault ⊎ IsUnfound l c.args.number fault) c.from_residual-in_err-state.result told c.from_residual-in_err-state.ensures.1
    (inr (inl (subst (λ n. IsUnreached l.built (meanings_of l) (first_of l) n told) c.saturating_sub.ensures
    (on_file l (λ (meant : List BodyMeaning) (start beginning : State). IsUnreached l.built meant start c.saturating_sub.result told) c.as_mut_slice-bodies.result.now _ _
    c.as_mut_slice-bodies.ensures.value first first c.in_err-state.ensures.refused))))

-- a list is refused, from a state behind the runs before
pub returns-in_err-text-clause-refused : goal.returns-in_err-text-clause-refused
returns-in_err-text-clause-refused c =
    let l = c.args.loaded in
    let told = c.in_err-text.field-0.0 in
    let first = c.in_ok-first.ensures.first ∙ ap (λ (entities : List (Vec Value Global)). loaded l.built (map entity_given entities) l.resources) c.as_slice.ensures.value in
    let behind = subst (λ n. IsBehind l.built (meanings_of l) (first_of l) n c.in_ok-state.state) c.saturating_sub.ensures
    (on_file l (λ (meant : List BodyMeaning) (start beginning : State). IsBehind l.built meant start c.saturating_sub.result c.in_ok-state.state) c.as_mut_slice-bodies.result.now _ _
    c.as_mut_slice-bodies.ensures.value first first c.in_ok-state.ensures.behind) in
    let means = c.in_ok-state.ensures.meanings ∙ ap (meanings_of_scripts l.built) c.as_mut_slice-bodies.ensures.value in
    handed_on (λ (fault : Fault). IsUngiven (length l.entities.items) fault ⊎ IsUnfound l c.args.number fault) c.from_residual-in_err-text.result told c.from_residual-in_err-text.ensures.1
    (inr (inr (c.in_ok-state.state, behind, subst (λ (bs : List BodyMeaning). IsUnwitnessed l.built bs c.in_ok-state.state c.args.number told) means c.in_err-text.ensures.refused)))

-- the pairs are told, from a state behind the runs before
pub returns-clause-text : goal.returns-clause-text
returns-clause-text c =
    let l = c.args.loaded in
    let first = c.in_ok-first.ensures.first ∙ ap (λ (entities : List (Vec Value Global)). loaded l.built (map entity_given entities) l.resources) c.as_slice.ensures.value in
    let behind = subst (λ n. IsBehind l.built (meanings_of l) (first_of l) n c.in_ok-state.state) c.saturating_sub.ensures
    (on_file l (λ (meant : List BodyMeaning) (start beginning : State). IsBehind l.built meant start c.saturating_sub.result c.in_ok-state.state) c.as_mut_slice-bodies.result.now _ _
    c.as_mut_slice-bodies.ensures.value first first c.in_ok-state.ensures.behind) in
    let means = c.in_ok-state.ensures.meanings ∙ ap (meanings_of_scripts l.built) c.as_mut_slice-bodies.ensures.value in
    record {
      pairs = c.in_ok-pairs.pairs.items;
      report = c.in_ok-pairs.ensures;
      start = c.in_ok-state.state;
      behind = behind;
      told = told_on_file l c.args.number c.in_ok-state.state c.in_ok-pairs.pairs.items _ _ _ (string_bytes c.in_ok-text.text)
          c.as_slice-2.ensures.value (ap (λ xs. map (λ name. name.now) xs) c.as_slice-names.ensures.value) means c.in_ok-text.ensures.races;
    }
