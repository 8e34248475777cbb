use Rattle.std.proofs.Common.{refl}
use Rattle.std.proofs.lemmas.Bool.{false≢true}
use Rattle.access_set.proofs.Meets.{conflict_at_kind, conflict_at_resource, conflict_at_event, else_event}
use Rattle.access_set.proofs.conflict.conflicts.Goals as goal

pub returns-then-meet_at_kind : goal.returns-then-meet_at_kind
returns-then-meet_at_kind c =
    ((λ e. conflict_at_kind c.args.a.now c.args.b.now (c.if-meet_at_kind.ensures.0 refl)), (λ conflict. refl))

pub returns-then-meet_at_resource : goal.returns-then-meet_at_resource
returns-then-meet_at_resource c =
    ((λ e. conflict_at_resource c.args.a.now c.args.b.now (c.if-meet_at_resource.ensures.0 refl)), (λ conflict. refl))

pub returns : goal.returns
returns c = (
  (λ e. conflict_at_event c.args.a.now c.args.b.now (c.meet_at_event.ensures.0 e)),
  (λ conflict. c.meet_at_event.ensures.1 (else_event c.args.a.now c.args.b.now
      (λ met. false≢true (c.if-meet_at_kind.ensures.1 met)) (λ met. false≢true (c.if-meet_at_resource.ensures.1 met)) conflict)),
)
