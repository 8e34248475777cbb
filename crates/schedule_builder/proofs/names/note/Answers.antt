use Rattle.std.proofs.Common.{◌≡◌, Some, string_bytes, ◌∙◌, rules}
use Rattle.std.specs.BTreeMap.{get_by_text}
use Rattle.std.proofs.lemmas.Map.Text.{btree_map_updates_text}
use Rattle.std.proofs.lemmas.Result.{IfOk-at_ok}
use Rattle.schedule_builder.proofs.Lookups.{noted}
use Rattle.schedule_builder.proofs.names.note.Goals as goal

pub returns-in_ok-insert : goal.returns-in_ok-insert
returns-in_ok-insert c = λ x.
    let key_is_name : string_bytes c.in_ok-from_str.field-0 ≡ c.args.name.now = IfOk-at_ok (λ s. string_bytes s ≡ c.args.name.now) c.in_ok-from_str.was c.from_str.ensures.ok in
    let sets = btree_map_updates_text (string_bytes c.in_ok-from_str.field-0) c.args.places.now c.insert.new.self (Some c.args.number) c.in_ok-insert.ensures.updates x in
    rw key_is_name at sets ∙ noted (get_by_text c.args.places.now) c.args.name.now c.args.number x (search rules)
