use Rattle.std.proofs.Common.{Some, Err, inl, inr, ap, ◌∙◌}
use Rattle.std.proofs.lemmas.List.{length-map}
use Rattle.engine.proofs.FirstState.{no_first_lacks}
use Rattle.program.proofs.Serving.{no-misfit}
use Rattle.program.proofs.hosting.begun.Goals as goal

-- there is a script and a memory for each system, and a memory for each condition
pub unreachable-requires : goal.unreachable-requires
unreachable-requires c =
    elim (c.in-Err-Count.ensures.count.0 (ap Err c.in-Err-Count.field-0-is)) [
      | inl few ↦ few (length-map c.args.bodies.items (λ x. Some x) ∙ c.requires.scripts.count)
      | inr lacks ↦ no_first_lacks c.args.built c.in_ok-state.state c.args.world.state c.in_ok-state.ensures lacks
    ]

-- every script fits its system
pub unreachable-requires-in-Err-Misfit : goal.unreachable-requires-in-Err-Misfit
unreachable-requires-in-Err-Misfit c =
    no-misfit c.args.built c.args.bodies.items c.in_ok-state.state c.in-Err-Misfit.field-0-0 c.requires.scripts
    ((c.in-Err-Misfit.ensures.misfit c.in-Err-Misfit.field-0-0).0 (ap Err c.in-Err-Misfit.field-0-is))
