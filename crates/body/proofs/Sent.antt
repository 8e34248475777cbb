-- What crosses to another thread.
use denote.Param.Send.{IsSend, IsSync, sendable}
use Rattle.std.proofs.Crossing.{crosses}
use Rattle.column_store.specs.contracts.column.Column as column
use Rattle.column_store.specs.contracts.stamped.StampedColumn as stamped
use Rattle.body.specs.contracts.view_column.ViewColumn as held
use Rattle.body.specs.contracts.view_query.ViewQuery as view_query
use Rattle.body.specs.contracts.view_values.ViewValues as values
use Rattle.body.specs.contracts.view_commands.ViewCommands as issued
use Rattle.body.specs.contracts.view.View as view
use Rattle.event_buffers.specs.contracts.lists.EventLists as lists

pub column-send : IsSend column.the_row
column-send = search (sendable, crosses) depth 100

pub column-sync : IsSync column.the_row
column-sync = search (sendable, crosses) depth 100

pub stamped-send : IsSend stamped.the_row
stamped-send = search (sendable, crosses, column-send) depth 100

pub stamped-sync : IsSync stamped.the_row
stamped-sync = search (sendable, crosses, column-sync) depth 100

pub held-send : IsSend held.the_row
held-send = search (sendable, crosses, stamped-send, stamped-sync) depth 100

pub held-sync : IsSync held.the_row
held-sync = search (sendable, crosses, stamped-send, stamped-sync) depth 100

pub view_query-send : IsSend view_query.the_row
view_query-send = search (sendable, crosses, held-send) depth 100

pub view_query-sync : IsSync view_query.the_row
view_query-sync = search (sendable, crosses, held-sync) depth 100

values-send : IsSend values.the_row
values-send = search (sendable, crosses) depth 100

values-sync : IsSync values.the_row
values-sync = search (sendable, crosses) depth 100

issued-send : IsSend issued.the_row
issued-send = search (sendable, crosses) depth 100 fits 50000

issued-sync : IsSync issued.the_row
issued-sync = search (sendable, crosses) depth 100 fits 50000

lists-send : IsSend lists.the_row
lists-send = search (sendable, crosses) depth 100

lists-sync : IsSync lists.the_row
lists-sync = search (sendable, crosses) depth 100

pub view-send : IsSend view.the_row
view-send = search (sendable, crosses, view_query-send, values-send, issued-send, lists-send) depth 100

pub view-sync : IsSync view.the_row
view-sync = search (sendable, crosses, view_query-sync, values-sync, issued-sync, lists-sync) depth 100
