use Rattle.std.proofs.Common.{sym}
use Rattle.program.proofs.Serving.{record-written, record-left}
use Rattle.program.proofs.serve.write_record.Goals as goal

pub returns-then-is_recorded : goal.returns-then-is_recorded
returns-then-is_recorded g c = record-written c.args.work _ _ c.write_whole.result c.args.text.now (sym c.if-is_recorded.ensures) c.write_whole.ensures

pub returns : goal.returns
returns g c = record-left c.args.work _ c.args.text.now (sym c.if-is_recorded.ensures)
