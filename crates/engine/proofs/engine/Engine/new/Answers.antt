use Rattle.std.proofs.Common.{◌≡◌, map, Some, Err, sym, ap, ◌∙◌, subst}
use Rattle.std.specs.Result.{IsErrOf}
use Rattle.model.specs.state.State.{State as ModelState}
use Rattle.engine.specs.declared.faults.NewFault.{NewFault}
use Rattle.engine.specs.declared.faults.NewFault.TheVariants.{Count, Misfit}
use Rattle.engine.specs.Meanings.{meanings, AllKeepWithin, IsFirstMisfit, Miscounts, Suits}
use Rattle.engine.proofs.BodiesAtHome.{suits_counts, suits_fits}
use Rattle.engine.proofs.engine.Engine.new.Goals as goal

-- a fault is the same whatever else might have been answered
same-fault : {T U : Type 0} (fault other : NewFault) → IsErrOf {T = T} (Err fault) other → IsErrOf {T = U} (Err fault) other
same-fault fault other e = let same : fault ≡ other = cc in ap (λ x. Err x) same

pub returns-in-Err-clause-count : goal.returns-in-Err-clause-count
returns-in-Err-clause-count g c =
    let same = c.deref.ensures.value in
    let fault = c.in-Err.fault in (
      (λ e. subst (λ xs. Miscounts c.args.built (map (λ x. Some x) xs) c.args.state) same (c.in-Err.ensures.count.0 (same-fault fault Count e))),
      (λ h. same-fault fault Count (c.in-Err.ensures.count.1 (subst (λ xs. Miscounts c.args.built (map (λ x. Some x) xs) c.args.state) (sym same) h))),
    )

pub returns-in-Err-clause-misfit : goal.returns-in-Err-clause-misfit
returns-in-Err-clause-misfit g c = λ n.
    let fits = g.B.Body.fits in
    let same = c.deref.ensures.value in
    let fault = c.in-Err.fault in (
      (λ e. subst (λ xs. IsFirstMisfit fits c.args.built (map (λ x. Some x) xs) c.args.state n) same ((c.in-Err.ensures.misfit n).0 (same-fault fault (Misfit n) e))),
      (λ h. same-fault fault (Misfit n) ((c.in-Err.ensures.misfit n).1 (subst (λ xs. IsFirstMisfit fits c.args.built (map (λ x. Some x) xs) c.args.state n) (sym same) h))),
    )

pub returns-in_err-bodies-clause-misfit : goal.returns-in_err-bodies-clause-misfit
returns-in_err-bodies-clause-misfit g c = λ n.
    let fits = g.B.Body.fits in
    let slots = map (λ x. Some x) c.args.bodies.items in
    let suits = subst (λ xs. Suits fits c.args.built (map (λ x. Some x) xs) c.args.state) c.deref.ensures.value c.in_default.ensures.suits in (
      (λ e. absurd (let q = c.from_residual.ensures in let p = rw e at q.1 in cc)),
      (λ h. absurd (suits_fits fits c.args.built slots c.args.state n suits h)),
    )

pub returns-in_err-deferred-clause-count : goal.returns-in_err-deferred-clause-count
returns-in_err-deferred-clause-count g c =
    let fits = g.B.Body.fits in
    let slots = map (λ x. Some x) c.args.bodies.items in
    let suits = subst (λ xs. Suits fits c.args.built (map (λ x. Some x) xs) c.args.state) c.deref.ensures.value c.in_default.ensures.suits in (
      (λ e. absurd (let q = c.from_residual-in_err-deferred.ensures in let p = rw e at q.1 in cc)),
      (λ h. absurd (suits_counts fits c.args.built slots c.args.state suits h)),
    )

pub returns-in_err-deferred-clause-misfit : goal.returns-in_err-deferred-clause-misfit
returns-in_err-deferred-clause-misfit g c = λ n.
    let fits = g.B.Body.fits in
    let slots = map (λ x. Some x) c.args.bodies.items in
    let suits = subst (λ xs. Suits fits c.args.built (map (λ x. Some x) xs) c.args.state) c.deref.ensures.value c.in_default.ensures.suits in (
      (λ e. absurd (let q = c.from_residual-in_err-deferred.ensures in let p = rw e at q.1 in cc)),
      (λ h. absurd (suits_fits fits c.args.built slots c.args.state n suits h)),
    )

pub returns-in_err-keep_shapes-clause-count : goal.returns-in_err-keep_shapes-clause-count
returns-in_err-keep_shapes-clause-count g c =
    let fits = g.B.Body.fits in
    let slots = map (λ x. Some x) c.args.bodies.items in
    let suits = subst (λ xs. Suits fits c.args.built (map (λ x. Some x) xs) c.args.state) c.deref.ensures.value c.in_default.ensures.suits in (
      (λ e. absurd (let q = c.from_residual-in_err-keep_shapes.ensures in let p = rw e at q.1 in cc)),
      (λ h. absurd (suits_counts fits c.args.built slots c.args.state suits h)),
    )

pub returns-in_err-keep_shapes-clause-misfit : goal.returns-in_err-keep_shapes-clause-misfit
returns-in_err-keep_shapes-clause-misfit g c = λ n.
    let fits = g.B.Body.fits in
    let slots = map (λ x. Some x) c.args.bodies.items in
    let suits = subst (λ xs. Suits fits c.args.built (map (λ x. Some x) xs) c.args.state) c.deref.ensures.value c.in_default.ensures.suits in (
      (λ e. absurd (let q = c.from_residual-in_err-keep_shapes.ensures in let p = rw e at q.1 in cc)),
      (λ h. absurd (suits_fits fits c.args.built slots c.args.state n suits h)),
    )

pub invariant_of-result : goal.invariant_of-result
invariant_of-result g c = (
  (λ e.
      let placed = ap (map (λ x. Some x)) c.deref.ensures.value ∙ sym c.in_ok-bodies.ensures in (
        subst (λ (state : ModelState). Suits g.B.Body.fits c.args.built c.in_ok-bodies.bodies state) (sym c.keep_shapes.ensures)
            (subst (λ xs. Suits g.B.Body.fits c.args.built xs c.args.state) placed c.in_default.ensures.suits),
        subst (λ xs. AllKeepWithin c.args.built (meanings g.B.Body.meaning c.args.built xs)) placed c.in_default.ensures.keep,
        c.in_ok-deferred.ensures.suits,
      )),
  tt,
)

pub returns-clause-count : goal.returns-clause-count
returns-clause-count g c =
    let fits = g.B.Body.fits in
    let slots = map (λ x. Some x) c.args.bodies.items in
    let suits = subst (λ xs. Suits fits c.args.built (map (λ x. Some x) xs) c.args.state) c.deref.ensures.value c.in_default.ensures.suits in (
      (λ e. absurd (cc)),
      (λ h. absurd (suits_counts fits c.args.built slots c.args.state suits h)),
    )

pub returns-clause-misfit : goal.returns-clause-misfit
returns-clause-misfit g c = λ n.
    let fits = g.B.Body.fits in
    let slots = map (λ x. Some x) c.args.bodies.items in
    let suits = subst (λ xs. Suits fits c.args.built (map (λ x. Some x) xs) c.args.state) c.deref.ensures.value c.in_default.ensures.suits in (
      (λ e. absurd (cc)),
      (λ h. absurd (suits_fits fits c.args.built slots c.args.state n suits h)),
    )
