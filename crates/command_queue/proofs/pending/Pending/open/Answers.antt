use Rattle.std.proofs.Common.{◌≡◌, length, refl, ap, ap₂, ◌∙◌, arith}
use Rattle.model.specs.state.Commands.{CommandTarget}
use Rattle.model.specs.state.Rows.{row_at}
use Rattle.archetype_store.specs.declared.change.EntityChange.{EntityChange}
use Rattle.command_queue.specs.Pending.{bare_change, is_left_alive}
use Rattle.command_queue.proofs.Puts.{length_first}
use Rattle.command_queue.proofs.Turns.{placed_same}
use Rattle.command_queue.proofs.Opened.{put_there, filled_places, filled_changes, filled_slots, filled_kept}
use Rattle.command_queue.proofs.pending.Pending.open.Goals as goal

pub index_mut-requires : goal.index_mut-requires
index_mut-requires c =
    let cs = c.args.self.now.changes.items in
    let bare = bare_change c.args.e in
    let many : length cs ≡ c.len-place.result = omega (arith, c.len-place.ensures, c.args.self.now.changes.ok.0) in
    let more = ap length c.in_ok-add_bare-in-Unchanged.ensures.changes ∙ length_first cs bare bare refl c.in-Unchanged.ensures.1 in
    omega (arith, many, more, c.add_bare.new.self.changes.ok.0)

pub fill_kept-requires-clause-lasts : goal.fill_kept-requires-clause-lasts
fill_kept-requires-clause-lasts c =
    let cs = c.args.self.now.changes.items in
    let bare = bare_change c.args.e in
    let many : length cs ≡ c.len-place.result = omega (arith, c.len-place.ensures, c.args.self.now.changes.ok.0) in
    let x = c.index_mut.result.now in
    let is : x ≡ bare = c.index_mut.ensures.value ∙ put_there cs c.args.e c.in-Unchanged.ensures.1 bare refl c.add_bare.new.self.changes.items c.in_ok-add_bare-in-Unchanged.ensures.changes c.len-place.result many x in
    ap (λ (y : EntityChange). is_left_alive y.fate) is

pub returns-in_ok-fill_kept-in-Unchanged-clause-pending : goal.returns-in_ok-fill_kept-in-Unchanged-clause-pending
returns-in_ok-fill_kept-in-Unchanged-clause-pending c =
    let w = c.args.world.now.state in
    let cs = c.args.self.now.changes.items in
    let ds = c.add_bare.new.self.changes.items in
    let a = c.in_ok-add_bare-in-Unchanged.ensures in
    let f = c.in_ok-fill_kept-in-Unchanged.ensures in
    let bare = bare_change c.args.e in
    let many : length cs ≡ c.len-place.result = omega (arith, c.len-place.ensures, c.args.self.now.changes.ok.0) in
    let x = c.index_mut.result.now in
    let is : x ≡ bare = c.index_mut.ensures.value ∙ put_there cs c.args.e c.in-Unchanged.ensures.1 bare refl ds a.changes c.len-place.result many x in
    let its = f.entity ∙ ap (λ (y : EntityChange). y.entity) is in
    let row = f.row ∙ ap (λ (y : EntityChange). row_at w.slots y.entity.index) is in
    record {
      changes = filled_changes cs c.args.e c.in-Unchanged.ensures.1 bare refl ds a.changes c.len-place.result many c.fill_kept.new.change its w c.requires.pending.changes c.in-Unchanged.ensures.0 c.now-now.ensures.world f.lasts row;
      places = placed_same _ ds _ (filled_places cs c.args.e c.in-Unchanged.ensures.1 bare refl ds a.changes c.len-place.result many c.fill_kept.new.change its) a.placed;
    }

pub returns-in_ok-fill_kept-in-Unchanged-clause-same : goal.returns-in_ok-fill_kept-in-Unchanged-clause-same
returns-in_ok-fill_kept-in-Unchanged-clause-same c =
    let w = c.args.world.now.state in
    let cs = c.args.self.now.changes.items in
    let ds = c.add_bare.new.self.changes.items in
    let a = c.in_ok-add_bare-in-Unchanged.ensures in
    let f = c.in_ok-fill_kept-in-Unchanged.ensures in
    let bare = bare_change c.args.e in
    let many : length cs ≡ c.len-place.result = omega (arith, c.len-place.ensures, c.args.self.now.changes.ok.0) in
    let x = c.index_mut.result.now in
    let is : x ≡ bare = c.index_mut.ensures.value ∙ put_there cs c.args.e c.in-Unchanged.ensures.1 bare refl ds a.changes c.len-place.result many x in
    let its = f.entity ∙ ap (λ (y : EntityChange). y.entity) is in
    let row = f.row ∙ ap (λ (y : EntityChange). row_at w.slots y.entity.index) is in
    ap₂ (λ slots passed. let t : CommandTarget = record { slots = slots; passed_over = passed } in t)
    (filled_slots cs c.args.e c.in-Unchanged.ensures.1 bare refl ds a.changes c.len-place.result many c.fill_kept.new.change its w c.requires.pending.changes c.in-Unchanged.ensures.0 c.now-now.ensures.world f.lasts row)
    a.passed

pub returns-in_ok-fill_kept-in-Unchanged-clause-open : goal.returns-in_ok-fill_kept-in-Unchanged-clause-open
returns-in_ok-fill_kept-in-Unchanged-clause-open c =
    let w = c.args.world.now.state in
    let cs = c.args.self.now.changes.items in
    let ds = c.add_bare.new.self.changes.items in
    let a = c.in_ok-add_bare-in-Unchanged.ensures in
    let f = c.in_ok-fill_kept-in-Unchanged.ensures in
    let bare = bare_change c.args.e in
    let many : length cs ≡ c.len-place.result = omega (arith, c.len-place.ensures, c.args.self.now.changes.ok.0) in
    let x = c.index_mut.result.now in
    let is : x ≡ bare = c.index_mut.ensures.value ∙ put_there cs c.args.e c.in-Unchanged.ensures.1 bare refl ds a.changes c.len-place.result many x in
    let its = f.entity ∙ ap (λ (y : EntityChange). y.entity) is in
    let row = f.row ∙ ap (λ (y : EntityChange). row_at w.slots y.entity.index) is in
    filled_kept cs c.args.e c.in-Unchanged.ensures.1 bare refl ds a.changes c.len-place.result many c.fill_kept.new.change its w c.requires.pending.changes c.in-Unchanged.ensures.0 c.now-now.ensures.world f.lasts row
