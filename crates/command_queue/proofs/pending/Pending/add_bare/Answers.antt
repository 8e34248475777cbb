use Rattle.std.proofs.Common.{◌≡◌, ◌++◌, ◌∷◌, [], ℕ, List, length, sym, ap₂, subst, ◌∙◌, arith}
use Rattle.column_store.specs.declared.stamped.StampedValue.{StampedValue}
use Rattle.archetype_store.specs.declared.change.Fate.TheVariants as the
use Rattle.archetype_store.specs.declared.change.EntityChange.{EntityChange}
use Rattle.command_queue.specs.Pending.{bare_change, put_change, ArePlaced}
use Rattle.command_queue.proofs.Puts.{put_first}
use Rattle.command_queue.proofs.Turns.{placed_put}
use Rattle.command_queue.proofs.pending.Pending.add_bare.Goals as goal

pub returns-clause-changes : goal.returns-clause-changes
returns-clause-changes c =
    let cs = c.args.self.now.changes.items in
    let made : EntityChange = record { entity = c.args.e; fate = the.Lives c.new.result } in
    let bare : made ≡ bare_change c.args.e = ap₂ (λ (items : List StampedValue) (capacity : ℕ). let x : EntityChange = record { entity = c.args.e; fate = the.Lives (record { items = items; capacity = capacity }) } in x) c.new.ensures.items c.new.ensures.capacity in
    let pushed : c.push.new.self.items ≡ cs ++ made ∷ [] = c.in_ok-push.ensures.items in
    subst (λ x. c.push.new.self.items ≡ put_change x cs) bare (pushed ∙ put_first made cs c.requires.first)

pub returns-clause-placed : goal.returns-clause-placed
returns-clause-placed c =
    let cs = c.args.self.now.changes.items in
    let made : EntityChange = record { entity = c.args.e; fate = the.Lives c.new.result } in
    let many : c.len.result ≡ length cs = omega (arith, c.len.ensures, c.args.self.now.changes.ok.0) in
    let pushed : c.push.new.self.items ≡ cs ++ made ∷ [] = c.in_ok-push.ensures.items in
    let put : c.push.new.self.items ≡ put_change made cs = pushed ∙ put_first made cs c.requires.first in
    subst (ArePlaced c.note_place.new.places) (sym put)
    (placed_put c.args.self.now.places c.note_place.new.places made cs c.len.result many c.in_ok-note_place.ensures c.requires.placed c.requires.told c.requires.first)
