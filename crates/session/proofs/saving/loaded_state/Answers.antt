use Rattle.session.proofs.LoadedTexts.{unnamed, unread_as}
use Rattle.session.proofs.saving.loaded_state.Goals as goal

pub returns-in_default-head_of : goal.returns-in_default-head_of
returns-in_default-head_of c = unnamed c.in-Ok.text.now c.args.bytes.now c.in-Ok.ensures.cases.0 c.in_default-head_of.ensures

pub returns-in-Err : goal.returns-in-Err
returns-in-Err c =
    rw c.from.ensures (unread_as c.args.file c.in-Ok.text.now c.args.bytes.now c.args.anyway c.in-Some.digits.now c.in-Some.rest.now c.in-Ok.ensures.cases.0 c.in-Some.ensures c.in-Err.fault c.in-Err.ensures.none)
