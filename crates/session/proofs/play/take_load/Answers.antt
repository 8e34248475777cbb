use Rattle.std.proofs.Common.{◌≡◌, List, ℕ, ◌++◌, Option, Ok, sym, ap₂, ◌∙◌, subst}
use Rattle.session.specs.Body.{HaveRead, IsKnownAs, ReadsBody, ended}
use Rattle.session.specs.Entries.{load_entry}
use Rattle.session.specs.Plays.{IsLoadReply}
use Rattle.session.specs.declared.body_lines.Follows.{Follows}
use Rattle.session.specs.declared.body_lines.Follows.TheVariants.{Whole}
use Rattle.session.specs.declared.reply.Reply.{Reply}
use Rattle.session.proofs.LoadTurns.{loaded_entry, ok_given}
use Rattle.session.proofs.play.take_load.Goals as goal

pub returns : goal.returns
returns g c =
    let before = g.R.Read.remaining c.args.requests.now in
    let after = g.R.Read.remaining c.read_body.new.requests in
    let body = c.read_body.new.body.items in
    let line = c.args.room.now.line.items in
    let entry = c.add_line-begun.new.body.items in
    let known = c.behind-known.result in
    let reply = c.act_on-reply.result in
    let read : HaveRead c.args.load.lines before after body c.in-Some.known = subst (λ (o : Option Follows). ReadsBody c.args.load.lines before after body (Ok o)) c.in-Some.is c.in_ok-known.ensures in
    let is = c.behind-known.ensures.known read.text body read.is in
    let replied = c.act_on-reply.ensures.replied read.text (subst (IsKnownAs known read.text) (sym c.as_slice-2.ensures.value) is) in
    let begun : known ≡ Whole → entry ≡ ended line = λ w. ok_given c.add_line-begun.result tt (entry ≡ c.clear.new.self.items ++ ended c.as_slice.result.now) (c.behind-known.ensures.begun w) c.add_line-begun.ensures
    ∙ ap₂ (λ (a b : List ℕ). a ++ ended b) c.clear.ensures.items c.as_slice.ensures.value in (
      read.text,
      read.lines,
      subst (λ (r : Reply). IsLoadReply c.args.session.now c.args.load read.text r c.act_on-reply.new.session) (sym c.plain.ensures.reply) replied,
      c.plain.ensures.goes_on,
      c.plain.ensures.none,
      λ e. subst (λ (r : Reply). c.act_on-reply.new.room.entry.items ≡ load_entry line read.text r) (sym c.plain.ensures.reply)
          (loaded_entry line read.text c.as_slice-2.result.now entry c.act_on-reply.new.room.entry.items known reply c.act_on-reply.ensures.done (subst (IsKnownAs known read.text) (sym c.as_slice-2.ensures.value) is) begun (c.act_on-reply.ensures.entry e)),
      read.read,
    )
