use denote.Param.Send.{sendable}
use Rattle.body.proofs.Sent.{view-send, view-sync, view_query-send, view_query-sync}
use Rattle.body.proofs.view._views_may_be_sent.Goals as goal

pub may_be_sent-requires-send-T : goal.may_be_sent-requires-send-T
may_be_sent-requires-send-T c κs = search (sendable, view-send) depth 100

pub may_be_sent-requires-sync-T : goal.may_be_sent-requires-sync-T
may_be_sent-requires-sync-T c κs = search (sendable, view-sync) depth 100

pub may_be_sent-requires-2-send-T : goal.may_be_sent-requires-2-send-T
may_be_sent-requires-2-send-T c κs = search (sendable, view_query-send) depth 100

pub may_be_sent-requires-2-sync-T : goal.may_be_sent-requires-2-sync-T
may_be_sent-requires-2-sync-T c κs = search (sendable, view_query-sync) depth 100
