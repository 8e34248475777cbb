-- An id alone is needed.
use Rattle.std.proofs.Common.{refl, sym, ap, subst, ◌∙◌}
use Rattle.model.specs.declared.entities.Entity.{Entity as Id}
use Rattle.parsing.specs.Reads.{SpellsNone, SpellsOnly}
use Rattle.requests.specs.declared.command.Command.TheVariants as command
use Rattle.requests.specs.Asked.{Asked}
use Rattle.requests.specs.Asked.Asked.{Entity}
use Rattle.requests.specs.Grammar.{AreArguments}
use Rattle.requests.proofs.arguments.entity.Goals as goal

abbrev asked_with : Id → Asked
asked_with x = Entity x

pub returns-in_err-read_id : goal.returns-in_err-read_id
returns-in_err-read_id c =
    rw c.from_residual-in_err-read_id.ensures (subst (λ ws. SpellsNone (AreArguments command.Entity) ws) (sym c.in_ok-only.ensures.0) (λ v h. c.in_err-read_id.ensures h.0 h.1))

pub returns : goal.returns
returns c =
    let one = c.in_ok-read_id.ensures in
    subst (λ ws. SpellsOnly (AreArguments command.Entity) ws (asked_with c.in_ok-read_id.field-0)) (sym c.in_ok-only.ensures.0)
    ((c.in_ok-read_id.field-0, one.0, refl), λ v h. h.2 ∙ ap asked_with (one.1 h.0 h.1))
