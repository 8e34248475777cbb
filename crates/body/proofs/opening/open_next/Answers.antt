use Rattle.std.proofs.Common.{subst, sym}
use Rattle.body.specs.KeptPlans.{forms_of, AreOver}
use Rattle.body.proofs.opening.open_next.Goals as goal

pub open-requires-clause-forms : goal.open-requires-clause-forms
open-requires-clause-forms c =
    let forms = forms_of c.args.world.now.layout in
    c.in-Some.ensures.over forms (subst (AreOver forms) (sym c.deref.ensures.value) c.requires.planned)
