use Rattle.std.proofs.Common.{◌≡◌, ℕ, Option, Some, None, unwrap_or, length, string_bytes, rules, sym, ap, ◌∙◌}
use Rattle.std.specs.BTreeMap.{get_by_text}
use Rattle.model.specs.declarations.Declarations.{items_of}
use Rattle.schedule_builder.proofs.Lookups.{place_is}
use Rattle.schedule_builder.proofs.orders.place_of.Goals as goal

pub returns-in-Some : goal.returns-in-Some
returns-in-Some c =
    let e : get_by_text c.args.places.now (string_bytes c.args.name.now) ≡ Some c.in-Some.place.now = search rules in
    sym (place_is c.args.desc.now c.args.places.now (string_bytes c.args.name.now) c.requires ∙ ap (λ (o : Option ℕ). unwrap_or o (length (items_of c.args.desc.now))) e)

pub returns-in-None : goal.returns-in-None
returns-in-None c =
    let e : get_by_text c.args.places.now (string_bytes c.args.name.now) ≡ None = search rules in
    c.count.ensures ∙ sym (place_is c.args.desc.now c.args.places.now (string_bytes c.args.name.now) c.requires ∙ ap (λ (o : Option ℕ). unwrap_or o (length (items_of c.args.desc.now))) e)
