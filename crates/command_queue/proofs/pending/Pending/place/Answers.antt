use Rattle.std.proofs.Common.{◌≡◌, ◌-◌, suc, length, sym, ap, subst, ◌∙◌, arith}
use Rattle.archetype_store.specs.declared.change.EntityChange.{EntityChange}
use Rattle.command_queue.specs.Pending.{ArePlaced, IsKnownPlace}
use Rattle.command_queue.proofs.Puts.{place_last, place_none}
use Rattle.command_queue.proofs.Turns.{none_last}
use Rattle.command_queue.proofs.pending.Pending.place.Goals as goal

pub returns-then-count-eq0 : goal.returns-then-count-eq0
returns-then-count-eq0 c =
    let many = c.args.self.now.changes.ok.0 in
    sym (place_none c.args.index c.args.self.now.changes.items (omega arith))

pub returns-then-index : goal.returns-then-index
returns-then-index c =
    let cs = c.args.self.now.changes.items in
    let many = c.args.self.now.changes.ok.0 in
    let last : length cs ≡ suc (c.len-count.result - 1) = omega arith in
    sym (place_last c.args.index cs (c.len-count.result - 1) c.index.result.now c.requires.apart last (sym (ap (λ (x : EntityChange). x.entity.index) c.index.ensures) ∙ c.if-index.true))

pub returns-in-None : goal.returns-in-None
returns-in-None c =
    let cs = c.args.self.now.changes.items in
    let many = c.args.self.now.changes.ok.0 in
    let last : length cs ≡ suc (c.len-count.result - 1) = omega arith in
    let placed = subst (λ o. ArePlaced o cs) c.in-None.is c.requires.placed in
    let told = subst (λ o. IsKnownPlace o cs c.args.index) c.in-None.is c.requires.told in
    none_last c.args.index cs (c.len-count.result - 1) c.index.result.now c.requires.apart placed told last
    (λ same. c.if-index.false (ap (λ (x : EntityChange). x.entity.index) c.index.ensures ∙ same))
