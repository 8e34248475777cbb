use Rattle.archetype_store.proofs.Common.{◌∙◌, ap, on_ok_weaker, with_slots}
use Rattle.archetype_store.proofs.OneChange.{one_changed}
use Rattle.archetype_store.proofs.store.World.change_one.Goals as goal

pub returns-clause-ok : goal.returns-clause-ok
returns-clause-ok c =
    let w = c.args.self.now.state in
    on_ok_weaker c.change.result (λ e. e ∙ ap (λ slots. with_slots (λ _. slots) w) (one_changed (record { entity = c.args.entity; fate = c.args.fate }) w.slots)) c.change.ensures.ok
