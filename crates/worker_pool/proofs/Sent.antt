-- A job, and what comes of it, may go to another thread.
use denote.RattleType.{RattleType}
use denote.Param.Send.{IsSend, sendable}
use denote.Struct.Field.{u64-field}
use Rattle.std.proofs.Crossing.{crosses}
use Rattle.std.specs.contracts.alloc.Global as Heap
use Rattle.std.specs.contracts.impls.GlobalAllocator.TheImpl.{ghosts}
use Rattle.crossbeam_channel.specs.contracts.channel.Sender.{the_row as SenderRow}
use Rattle.body.specs.contracts.view.View.{the_row as ViewRow}
use Rattle.body.specs.declared.system_body.Body.{Ghosts}
use Rattle.worker_pool.specs.contracts.start.JobResult.{the_row as JobResultRow}
use Rattle.worker_pool.specs.contracts.start.Start.{the_row as StartRow}

pub view_send : IsSend ViewRow
view_send = search (sendable, crosses) depth 400 fits 50000

pub done_send : (B : RattleType) → IsSend B → IsSend (JobResultRow B)
done_send B s = search (sendable, crosses, view_send) depth 40

pub start_send : (B : RattleType) (members : Ghosts B.Denot) → IsSend B → IsSend (StartRow B members)
start_send B members s = search (sendable, crosses, view_send) depth 40

pub bell_send : IsSend (SenderRow (u64-field).row (Heap.the_row) ghosts)
bell_send = search (sendable, crosses) depth 400 fits 50000
