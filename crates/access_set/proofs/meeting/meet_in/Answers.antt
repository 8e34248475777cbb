use Rattle.std.proofs.Common.{refl}
use Rattle.std.proofs.lemmas.Bool.{false≢true}
use Rattle.access_set.proofs.MeetsIn.{meet_by_kind, meet_by_resource, meet_by_event, else_event_in}
use Rattle.access_set.proofs.meeting.meet_in.Goals as goal

pub returns-then-meet_at_kind_in : goal.returns-then-meet_at_kind_in
returns-then-meet_at_kind_in c =
    ((λ e. meet_by_kind c.args.a.now c.args.b.now c.args.sets.now (c.if-meet_at_kind_in.ensures.0 refl)), (λ meeting. refl))

pub returns-then-meet_at_resource : goal.returns-then-meet_at_resource
returns-then-meet_at_resource c =
    ((λ e. meet_by_resource c.args.a.now c.args.b.now c.args.sets.now (c.if-meet_at_resource.ensures.0 refl)), (λ meeting. refl))

pub returns : goal.returns
returns c = (
  (λ e. meet_by_event c.args.a.now c.args.b.now c.args.sets.now (c.meet_at_event.ensures.0 e)),
  (λ meeting. c.meet_at_event.ensures.1 (else_event_in c.args.a.now c.args.b.now c.args.sets.now
      (λ met. false≢true (c.if-meet_at_kind_in.ensures.1 met)) (λ met. false≢true (c.if-meet_at_resource.ensures.1 met)) meeting)),
)
