use Rattle.std.proofs.Common.{◌≡◌, ℕ, List, Option, Ok, Err, true, string_bytes, inl, sym, ap₂, ◌∙◌, subst}
use Rattle.std.specs.Prelude.{is_some}
use Rattle.std.specs.Io.KnownBytes.{Appends}
use Rattle.model.specs.steps.Schedule.{Recorded}
use Rattle.streams.specs.Writing.{AppendsFront}
use Rattle.session.specs.Entries.{entry_text, kept}
use Rattle.session.specs.Played.{IsPlayed, IsTurn, Streams}
use Rattle.session.specs.Replies.{reply_text}
use Rattle.session.specs.declared.play.PlayFault.TheVariants.{Memory, Write}
use Rattle.session.specs.declared.play.Replied.{Replied}
use Rattle.session.proofs.Playing.{goes_on, last_told, not_noted, not_read, not_spelled, not_told, noted_as, played_none, told_err}
use Rattle.session.proofs.play.play_by.Goals as goal

pub loop-init : goal.loop-init
loop-init g c =
    let meaning = g.B.Body.meaning in
    let scope = g.M.SpawnThreads.has_scope c.args.mode.now in
    let width = g.M.Mode.width c.args.mode.now in
    let before : Streams = record { input = g.R.Read.remaining c.args.requests.now; output = g.O.Write.contents c.args.out.now; recorded = kept g.J.Write.contents c.args.journal.now } in
    played_none meaning scope width c.args.session.now before

pub returns-in_err-reserve : goal.returns-in_err-reserve
returns-in_err-reserve g c =
    let meaning = g.B.Body.meaning in
    let scope = g.M.SpawnThreads.has_scope c.args.mode.now in
    let width = g.M.Mode.width c.args.mode.now in
    let before : Streams = record { input = g.R.Read.remaining c.args.requests.now; output = g.O.Write.contents c.args.out.now; recorded = kept g.J.Write.contents c.args.journal.now } in
    told_err (λ r. IsPlayed meaning scope width c.args.session.now c.args.session.now before before r) c.from_residual.result Memory c.from_residual.ensures.1
    (inl (record { middle = before.input; played = played_none meaning scope width c.args.session.now before }))

pub returns-in_err-turn : goal.returns-in_err-turn
returns-in_err-turn g c =
    let meaning = g.B.Body.meaning in
    let scope = g.M.SpawnThreads.has_scope c.args.mode.now in
    let width = g.M.Mode.width c.args.mode.now in
    let before : Streams = record { input = g.R.Read.remaining c.args.requests.now; output = g.O.Write.contents c.args.out.now; recorded = kept g.J.Write.contents c.args.journal.now } in
    let input = g.R.Read.remaining c.loop.requests in
    let rest = g.R.Read.remaining c.turn.new.requests in
    let output = g.O.Write.contents c.loop.out in
    let recorded = kept g.J.Write.contents c.loop.journal in
    let room = c.turn.new.room.entry.items in
    let old = c.args.session.now in
    let was = c.loop.session in
    let new = c.turn.new.session in
    let fault = c.in_err-turn.field-0.0 in
    told_err (λ r. IsPlayed meaning scope width old new before (record { input = rest; output = output; recorded = recorded }) r) c.from_residual-in_err-turn.result fault c.from_residual-in_err-turn.ensures.1
    (not_read meaning scope width old was new before input rest output recorded c.is_some-recorded.result room fault c.loop.invariant c.in_err-turn.ensures)

pub returns-in_err-spell : goal.returns-in_err-spell
returns-in_err-spell g c =
    let meaning = g.B.Body.meaning in
    let scope = g.M.SpawnThreads.has_scope c.args.mode.now in
    let width = g.M.Mode.width c.args.mode.now in
    let before : Streams = record { input = g.R.Read.remaining c.args.requests.now; output = g.O.Write.contents c.args.out.now; recorded = kept g.J.Write.contents c.args.journal.now } in
    let input = g.R.Read.remaining c.loop.requests in
    let rest = g.R.Read.remaining c.turn.new.requests in
    let output = g.O.Write.contents c.loop.out in
    let recorded = kept g.J.Write.contents c.loop.journal in
    let room = c.turn.new.room.entry.items in
    let old = c.args.session.now in
    let was = c.loop.session in
    let new = c.turn.new.session in
    let reply = c.in-Some.turn.reply in
    let last = c.in-Some.turn.is_last in
    let t = subst (λ (o : Option Replied). IsTurn meaning scope width c.is_some-recorded.result room was new input rest (Ok o)) c.in-Some.is c.in_ok-turn.ensures in
    let entry = t.1.entry.entry in
    told_err (λ r. IsPlayed meaning scope width old new before (record { input = rest; output = output; recorded = recorded }) r) c.from_residual-in_err-spell.result Memory c.from_residual-in_err-spell.ensures.1
    (not_spelled meaning scope width old was new before input rest output recorded t.0 reply last entry c.loop.invariant t.1.exchange t.1.entry.is t.2)

pub returns-in_err-note : goal.returns-in_err-note
returns-in_err-note g c =
    let meaning = g.B.Body.meaning in
    let scope = g.M.SpawnThreads.has_scope c.args.mode.now in
    let width = g.M.Mode.width c.args.mode.now in
    let before : Streams = record { input = g.R.Read.remaining c.args.requests.now; output = g.O.Write.contents c.args.out.now; recorded = kept g.J.Write.contents c.args.journal.now } in
    let input = g.R.Read.remaining c.loop.requests in
    let rest = g.R.Read.remaining c.turn.new.requests in
    let output = g.O.Write.contents c.loop.out in
    let recorded = kept g.J.Write.contents c.loop.journal in
    let room = c.turn.new.room.entry.items in
    let old = c.args.session.now in
    let was = c.loop.session in
    let new = c.turn.new.session in
    let reply = c.in-Some.turn.reply in
    let last = c.in-Some.turn.is_last in
    let t = subst (λ (o : Option Replied). IsTurn meaning scope width c.is_some-recorded.result room was new input rest (Ok o)) c.in-Some.is c.in_ok-turn.ensures in
    let entry = t.1.entry.entry in
    let more = kept g.J.Write.contents c.note.new.journal in
    let told : string_bytes c.spell.new.text ≡ reply_text reply = c.in_ok-spell.ensures in
    let spelled = entry_text room c.as_slice.result.now c.as_str.result.now in
    let same : is_some c.loop.journal ≡ true → entry ≡ spelled = λ e. t.1.entry.spelled (c.is_some-recorded.ensures ∙ e)
    ∙ ap₂ (λ (rs : List Recorded) (x : List ℕ). entry_text room rs x) (sym c.as_slice.ensures.value) (sym (c.as_str.ensures.value ∙ told)) in
    let fault = c.in_err-note.field-0.0 in
    told_err (λ r. IsPlayed meaning scope width old new before (record { input = rest; output = output; recorded = more }) r) c.from_residual-in_err-note.result fault c.from_residual-in_err-note.ensures.1
    (not_noted meaning scope width old was new before input rest output recorded t.0 reply last entry c.loop.invariant t.1.exchange t.1.entry.is t.2 more fault (noted_as g.J.Write.contents c.loop.journal more spelled entry (Err fault) same c.in_err-note.ensures))

pub returns-in_err-write_whole : goal.returns-in_err-write_whole
returns-in_err-write_whole g c =
    let meaning = g.B.Body.meaning in
    let scope = g.M.SpawnThreads.has_scope c.args.mode.now in
    let width = g.M.Mode.width c.args.mode.now in
    let before : Streams = record { input = g.R.Read.remaining c.args.requests.now; output = g.O.Write.contents c.args.out.now; recorded = kept g.J.Write.contents c.args.journal.now } in
    let input = g.R.Read.remaining c.loop.requests in
    let rest = g.R.Read.remaining c.turn.new.requests in
    let output = g.O.Write.contents c.loop.out in
    let recorded = kept g.J.Write.contents c.loop.journal in
    let room = c.turn.new.room.entry.items in
    let old = c.args.session.now in
    let was = c.loop.session in
    let new = c.turn.new.session in
    let reply = c.in-Some.turn.reply in
    let last = c.in-Some.turn.is_last in
    let t = subst (λ (o : Option Replied). IsTurn meaning scope width c.is_some-recorded.result room was new input rest (Ok o)) c.in-Some.is c.in_ok-turn.ensures in
    let entry = t.1.entry.entry in
    let more = kept g.J.Write.contents c.note.new.journal in
    let told : string_bytes c.spell.new.text ≡ reply_text reply = c.in_ok-spell.ensures in
    let spelled = entry_text room c.as_slice.result.now c.as_str.result.now in
    let same : is_some c.loop.journal ≡ true → entry ≡ spelled = λ e. t.1.entry.spelled (c.is_some-recorded.ensures ∙ e)
    ∙ ap₂ (λ (rs : List Recorded) (x : List ℕ). entry_text room rs x) (sym c.as_slice.ensures.value) (sym (c.as_str.ensures.value ∙ told)) in
    let written = g.O.Write.contents c.write_whole.new.writer in
    told_err (λ r. IsPlayed meaning scope width old new before (record { input = rest; output = written; recorded = more }) r) c.from_residual-in_err-write_whole.result Write c.from_residual-in_err-write_whole.ensures.1
    (not_told meaning scope width old was new before input rest output recorded t.0 reply last entry c.loop.invariant t.1.exchange t.1.entry.is t.2 more (noted_as g.J.Write.contents c.loop.journal more spelled entry (Ok tt) same c.in_ok-note.ensures) written (subst (AppendsFront output written) (c.as_str-in-loop.ensures.value ∙ told) c.in_err-write_whole.ensures))

pub returns-then-turn : goal.returns-then-turn
returns-then-turn g c =
    let meaning = g.B.Body.meaning in
    let scope = g.M.SpawnThreads.has_scope c.args.mode.now in
    let width = g.M.Mode.width c.args.mode.now in
    let before : Streams = record { input = g.R.Read.remaining c.args.requests.now; output = g.O.Write.contents c.args.out.now; recorded = kept g.J.Write.contents c.args.journal.now } in
    let input = g.R.Read.remaining c.loop.requests in
    let rest = g.R.Read.remaining c.turn.new.requests in
    let output = g.O.Write.contents c.loop.out in
    let recorded = kept g.J.Write.contents c.loop.journal in
    let room = c.turn.new.room.entry.items in
    let old = c.args.session.now in
    let was = c.loop.session in
    let new = c.turn.new.session in
    let reply = c.in-Some.turn.reply in
    let last = c.in-Some.turn.is_last in
    let t = subst (λ (o : Option Replied). IsTurn meaning scope width c.is_some-recorded.result room was new input rest (Ok o)) c.in-Some.is c.in_ok-turn.ensures in
    let entry = t.1.entry.entry in
    let more = kept g.J.Write.contents c.note.new.journal in
    let told : string_bytes c.spell.new.text ≡ reply_text reply = c.in_ok-spell.ensures in
    let spelled = entry_text room c.as_slice.result.now c.as_str.result.now in
    let same : is_some c.loop.journal ≡ true → entry ≡ spelled = λ e. t.1.entry.spelled (c.is_some-recorded.ensures ∙ e)
    ∙ ap₂ (λ (rs : List Recorded) (x : List ℕ). entry_text room rs x) (sym c.as_slice.ensures.value) (sym (c.as_str.ensures.value ∙ told)) in
    let written = g.O.Write.contents c.write_whole.new.writer in
    last_told meaning scope width old was new before input rest output recorded t.0 reply last entry c.loop.invariant t.1.exchange t.1.entry.is t.2 more (noted_as g.J.Write.contents c.loop.journal more spelled entry (Ok tt) same c.in_ok-note.ensures) written (subst (Appends output written) (c.as_str-in-loop.ensures.value ∙ told) c.in_ok-write_whole.ensures) c.if-turn.true

pub loop-preserved : goal.loop-preserved
loop-preserved g c =
    let meaning = g.B.Body.meaning in
    let scope = g.M.SpawnThreads.has_scope c.args.mode.now in
    let width = g.M.Mode.width c.args.mode.now in
    let before : Streams = record { input = g.R.Read.remaining c.args.requests.now; output = g.O.Write.contents c.args.out.now; recorded = kept g.J.Write.contents c.args.journal.now } in
    let input = g.R.Read.remaining c.loop.requests in
    let rest = g.R.Read.remaining c.turn.new.requests in
    let output = g.O.Write.contents c.loop.out in
    let recorded = kept g.J.Write.contents c.loop.journal in
    let room = c.turn.new.room.entry.items in
    let old = c.args.session.now in
    let was = c.loop.session in
    let new = c.turn.new.session in
    let reply = c.in-Some.turn.reply in
    let last = c.in-Some.turn.is_last in
    let t = subst (λ (o : Option Replied). IsTurn meaning scope width c.is_some-recorded.result room was new input rest (Ok o)) c.in-Some.is c.in_ok-turn.ensures in
    let entry = t.1.entry.entry in
    let more = kept g.J.Write.contents c.note.new.journal in
    let told : string_bytes c.spell.new.text ≡ reply_text reply = c.in_ok-spell.ensures in
    let spelled = entry_text room c.as_slice.result.now c.as_str.result.now in
    let same : is_some c.loop.journal ≡ true → entry ≡ spelled = λ e. t.1.entry.spelled (c.is_some-recorded.ensures ∙ e)
    ∙ ap₂ (λ (rs : List Recorded) (x : List ℕ). entry_text room rs x) (sym c.as_slice.ensures.value) (sym (c.as_str.ensures.value ∙ told)) in
    let written = g.O.Write.contents c.write_whole.new.writer in
    goes_on meaning scope width old was new before input rest output recorded t.0 reply last entry c.loop.invariant t.1.exchange t.1.entry.is t.2 more (noted_as g.J.Write.contents c.loop.journal more spelled entry (Ok tt) same c.in_ok-note.ensures) written (subst (Appends output written) (c.as_str-in-loop.ensures.value ∙ told) c.in_ok-write_whole.ensures) c.if-turn.false
