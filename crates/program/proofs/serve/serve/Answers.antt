use Rattle.program.proofs.Serving.{all-written, output-failed, record-failed, refused-told}
use Rattle.program.proofs.serve.serve.Goals as goal

pub returns-in-Err : goal.returns-in-Err
returns-in-Err g c = refused-told _ _ c.args.args.now.work _ _ _ c.in-Err.fault _ _ _ c.in-Err.ensures.refused c.tell.ensures

pub returns-in-Err-write_record : goal.returns-in-Err-write_record
returns-in-Err-write_record g c =
    record-failed _ _ c.args.args.now.work _ _ _ _ _ _ _ _ c.in-Ok.answer c.as_str.result.now c.in-Ok.ensures.done c.as_str.ensures.value c.in-Err-write_record.ensures c.tell-in-Err-write_record.ensures c.from.ensures

pub returns-in-Ok-write_whole : goal.returns-in-Ok-write_whole
returns-in-Ok-write_whole g c =
    all-written _ _ c.args.args.now.work _ _ _ _ _ _ c.in-Ok.answer c.as_str.result.now c.as_str-2.result.now c.in-Ok.ensures.done c.as_str.ensures.value c.in_default.ensures c.as_str-2.ensures.value c.in-Ok-write_whole.ensures

pub returns : goal.returns
returns g c =
    output-failed _ _ c.args.args.now.work _ _ _ _ _ _ _ _ c.in-Ok.answer c.as_str.result.now c.as_str-2.result.now c.in-Ok.ensures.done c.as_str.ensures.value c.in_default.ensures c.as_str-2.ensures.value
    c.in-Err-write_whole.ensures c.tell-in-Err-write_whole.ensures c.from-in-Err-write_whole.ensures
