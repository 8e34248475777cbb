use Rattle.kinds.specs.Kind.{kind_number}
use Rattle.kinds.specs.Res.{res_number, event_number}
use Rattle.access_set.proofs.Least.{least_at_kind, least_at_resource, least_at_event, least_nowhere}
use Rattle.access_set.proofs.datum.why.Goals as goal

pub returns-in-Some : goal.returns-in-Some
returns-in-Some c = least_at_kind c.args.a.now c.args.b.now (kind_number c.in-Some.kind) c.in-Some.ensures

pub returns-in-Some-least_resource : goal.returns-in-Some-least_resource
returns-in-Some-least_resource c = least_at_resource c.args.a.now c.args.b.now (res_number c.in-Some-least_resource.resource) c.in_default.ensures c.in-Some-least_resource.ensures

pub returns-in-Some-least_event : goal.returns-in-Some-least_event
returns-in-Some-least_event c =
    least_at_event c.args.a.now c.args.b.now (event_number c.in-Some-least_event.event) c.in_default.ensures c.in_default-least_resource.ensures c.in-Some-least_event.ensures

pub returns-in-None : goal.returns-in-None
returns-in-None c = least_nowhere c.args.a.now c.args.b.now c.in_default.ensures c.in_default-least_resource.ensures c.in-None.ensures
