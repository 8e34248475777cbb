use Rattle.std.proofs.Common.{◌≡◌, ◌<◌, ◌≤◌, ◌∙◌, List, length, slice_get, inl, inr, refl, sym, subst, le_trans, arith}
use Rattle.std.proofs.Math.Nat.{le-max_left, le-max_right}
use Rattle.model.specs.shown.Outcome.{BodyMeaning}
use Rattle.model.proofs.lists.Results.{handed_on}
use Rattle.program.specs.Setup.{meanings_of_scripts}
use Rattle.findings.specs.Parting.{IsParting, IsRunTo}
use Rattle.findings.specs.Refusals.{IsUnparted}
use Rattle.findings.proofs.Fitting.{fitting_suit, suits_beside}
use Rattle.findings.proofs.Partings.{IsTaken, IsTold, refused-more, so-far-all, so-far-next, taken-all, taken-more}
use Rattle.findings.proofs.diverging.parting_of.Goals as goal

-- scripts that fit suit a state with the memories
pub loop-run-init : goal.loop-run-init
loop-run-init c = record {
  suits = fitting_suit c.args.built.now c.args.bodies.now c.args.first c.requires.fitting c.requires.memories;
  beside = c.requires.beside;
  meant = refl;
  ran = refl;
  ran_beside = refl;
  told = (omega arith, omega arith, λ p h. h);
}

-- a run of each is taken again
pub loop-run-preserved : goal.loop-run-preserved
loop-run-preserved c =
    let s = c.args.built.now in
    let ms = meanings_of_scripts s c.args.bodies.now in
    let inv = c.loop-run.invariant in
    let i = c.loop-run.run in
    let one = c.in_ok-left.ensures in
    let other = c.in_ok-beside.ensures in
    let left = c.in_ok-left.left in
    let beside = c.in_ok-beside.beside in
    let then = c.taken.ensures.meanings ∙ inv.meant in
    let told = subst (λ both. IsTold both i left beside c.loop-run.told c.in_ok-told.told) c.min-both.ensures (record {
      kept = c.in_ok-told.ensures.kept;
      longer = c.in_ok-told.ensures.longer;
      after = c.in_ok-told.ensures.after;
    }) in
    record {
      suits = suits_beside s _ beside left other.suits one.suits.memories;
      beside = other.suits.memories;
      meant = c.taken-in-loop-run.ensures.meanings ∙ then;
      ran = taken-more s ms _ c.args.first c.loop-run.left left c.args.one.now i inv.meant inv.ran one.replayed;
      ran_beside = taken-more s ms _ c.args.second c.loop-run.beside beside c.args.other.now i then inv.ran_beside other.replayed;
      told = so-far-next (IsRunTo s ms) (IsRunTo s ms) (λ state. state) c.args.first c.args.second c.args.one.now c.args.other.now i c.loop-run.left c.loop-run.beside left beside c.loop-run.told c.in_ok-told.told
          (subst (λ n. i < n) c.max-run-end.ensures c.loop-run-test.true)
          (subst (λ (bs : List BodyMeaning). IsTaken (IsRunTo s bs) c.loop-run.left (slice_get c.args.one.now i) left) inv.meant one.replayed)
          (subst (λ (bs : List BodyMeaning). IsTaken (IsRunTo s bs) c.loop-run.beside (slice_get c.args.other.now i) beside) then other.replayed)
          told inv.told;
    }

-- all runs of both are taken
pub returns-clause-parting : goal.returns-clause-parting
returns-clause-parting c =
    let s = c.args.built.now in
    let ms = meanings_of_scripts s c.args.bodies.now in
    subst (IsParting s ms 0 c.args.first c.args.second c.args.one.now c.args.other.now) (sym c.unwrap_or.ensures)
    (so-far-all (IsRunTo s ms) (IsRunTo s ms) (λ state. state) c.args.first c.args.second c.args.one.now c.args.other.now c.loop-run.run c.loop-run.left c.loop-run.beside c.loop-run.told
    (subst (λ n. n ≤ c.loop-run.run) c.max-run-end.ensures c.loop-run-test.false) c.loop-run.invariant.told)

pub returns-clause-replayed : goal.returns-clause-replayed
returns-clause-replayed c =
    let s = c.args.built.now in
    let all = subst (λ n. n ≤ c.loop-run.run) c.max-run-end.ensures c.loop-run-test.false in
    taken-all s (meanings_of_scripts s c.args.bodies.now) c.args.first c.loop-run.left c.args.one.now c.loop-run.run (le_trans (le-max_left (length c.args.one.now) (length c.args.other.now)) all) c.loop-run.invariant.ran

pub returns-clause-replayed_other : goal.returns-clause-replayed_other
returns-clause-replayed_other c =
    let s = c.args.built.now in
    let all = subst (λ n. n ≤ c.loop-run.run) c.max-run-end.ensures c.loop-run-test.false in
    taken-all s (meanings_of_scripts s c.args.bodies.now) c.args.second c.loop-run.beside c.args.other.now c.loop-run.run (le_trans (le-max_right (length c.args.one.now) (length c.args.other.now)) all) c.loop-run.invariant.ran_beside

-- a run of one of them is refused
pub returns-in_err-left-clause-refused : goal.returns-in_err-left-clause-refused
returns-in_err-left-clause-refused c =
    let s = c.args.built.now in
    let ms = meanings_of_scripts s c.args.bodies.now in
    let inv = c.loop-run.invariant in
    let told = c.in_err-left.field-0.0 in
    handed_on (IsUnparted s ms c.args.first c.args.second c.args.one.now c.args.other.now) c.from_residual.result told c.from_residual.ensures.1
    (inr (inl (refused-more s ms _ c.args.first c.loop-run.left c.args.one.now c.loop-run.run told inv.meant inv.ran c.in_err-left.ensures.refused)))

pub returns-in_err-beside-clause-refused : goal.returns-in_err-beside-clause-refused
returns-in_err-beside-clause-refused c =
    let s = c.args.built.now in
    let ms = meanings_of_scripts s c.args.bodies.now in
    let inv = c.loop-run.invariant in
    let told = c.in_err-beside.field-0.0 in
    handed_on (IsUnparted s ms c.args.first c.args.second c.args.one.now c.args.other.now) c.from_residual-in_err-beside.result told c.from_residual-in_err-beside.ensures.1
    (inr (inr (refused-more s ms _ c.args.second c.loop-run.beside c.args.other.now c.loop-run.run told (c.taken.ensures.meanings ∙ inv.meant) inv.ran_beside c.in_err-beside.ensures.refused)))
