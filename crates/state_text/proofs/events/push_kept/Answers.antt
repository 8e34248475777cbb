use Rattle.std.proofs.Common.{string_bytes}
use Rattle.std.proofs.lemmas.Result.{on_ok_weaker}
use Rattle.kinds.specs.Res.{event_number}
use Rattle.model.specs.state.Events.{queue_of}
use Rattle.state_text.proofs.KeptValues.{kept_words}
use Rattle.state_text.proofs.events.push_kept.Goals as goal

pub returns : goal.returns
returns c = on_ok_weaker _
    (kept_words (queue_of c.args.events.now (event_number c.args.kind)) c.unread-kept.result.older.now c.unread-kept.result.newer.now
    (string_bytes c.args.text.now) (string_bytes c.push_words.new.text) (string_bytes c.push_words-2.new.text) c.unread-kept.ensures c.in_ok-push_words.ensures)
    c.push_words-2.ensures
