use Rattle.std.proofs.Common.{ℕ, List, refl, subst}
use Rattle.streams.specs.Lines.{GivesLine}
use Rattle.streams.specs.declared.lines.Line as streams
use Rattle.parsing.specs.Reads.{SpellsOnly}
use Rattle.requests.specs.Load.{IsLoad}
use Rattle.session.specs.Plays.{IsNoLoad}
use Rattle.session.specs.Plays.Sent.{Line, TooLong}
use Rattle.session.proofs.LoadTurns.{load_turn}
use Rattle.session.proofs.Noted.{either_noted, no_runs, too_long_noted}
use Rattle.session.proofs.play.turn.Goals as goal

pub returns-in-TooLong : goal.returns-in-TooLong
returns-in-TooLong g c =
    let before = g.R.Read.remaining c.args.requests.now in
    let after = g.R.Read.remaining c.next_line.new.reader in
    let given = subst (λ (what : streams.Line). GivesLine 65536 before after c.next_line.new.line.items what) c.in-TooLong.is c.in_ok-next_line.ensures.given in (
      TooLong given.0,
      record {
        exchange = (c.plain.ensures.reply, c.plain.ensures.goes_on, refl);
        entry = too_long_noted g.B.Body.meaning (g.M.Mode.width c.args.mode.now) c.args.session.now c.args.session.now c.args.recorded given.0 c.clear.new.self.items c.plain.result.reply c.plain.result.runs.items c.clear.ensures.items;
        traced = no_runs c.plain.result.runs.items c.plain.ensures.none;
      },
      given.3,
    )

pub returns-in-Some : goal.returns-in-Some
returns-in-Some g c =
    let before = g.R.Read.remaining c.args.requests.now in
    let mid = g.R.Read.remaining c.next_line.new.reader in
    let after = g.R.Read.remaining c.take_load.new.requests in
    let line = c.next_line.new.line.items in
    let given = subst (λ (what : streams.Line). GivesLine 65536 before mid line what) c.in-Whole.is c.in_ok-next_line.ensures.given in
    load_turn g.B.Body.meaning (g.M.SpawnThreads.has_scope c.args.mode.now) (g.M.Mode.width c.args.mode.now) c.args.recorded c.take_load.new.room.entry.items c.args.session.now c.take_load.new.session before mid after line c.in-Some.load
    (subst (λ (l : List ℕ). SpellsOnly IsLoad l c.in-Some.load) c.as_slice.ensures.value c.in-Some.ensures) given.2 c.take_load.result c.take_load.ensures

pub returns-in-None : goal.returns-in-None
returns-in-None g c =
    let before = g.R.Read.remaining c.args.requests.now in
    let mid = g.R.Read.remaining c.next_line.new.reader in
    let line = c.next_line.new.line.items in
    let given = subst (λ (what : streams.Line). GivesLine 65536 before mid line what) c.in-Whole.is c.in_ok-next_line.ensures.given in (
      Line line,
      record {
        exchange = (subst IsNoLoad c.as_slice.ensures.value c.in-None.ensures, c.reply_to.ensures.replied);
        entry = either_noted g.B.Body.meaning (g.M.Mode.width c.args.mode.now) c.args.session.now c.reply_to.new.session c.args.recorded (Line line) c.reply_to.result.reply c.reply_to.new.room.entry.items c.reply_to.result.runs.items c.reply_to.ensures.entry;
        traced = c.reply_to.ensures.text;
      },
      given.2,
    )
