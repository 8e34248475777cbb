use Rattle.std.proofs.Common.{List, subst, sym, append-nil}
use Rattle.model.specs.declared.entities.Entity.{Entity}
use Rattle.entity_table.specs.Ids.{AreApart}
use Rattle.calls.proofs.tests.worlds.settle_used.Goals as goal

pub settle-requires-clause-apart : goal.settle-requires-clause-apart
settle-requires-clause-apart c = subst (λ (ids : List Entity). AreApart ids) (sym (append-nil c.args.ids.now)) c.requires.apart
