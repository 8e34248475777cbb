use Rattle.std.proofs.Common.{◌≡◌, ℕ, List, ◌++◌, refl, sym, ap, ap₂, ◌∙◌, inl, inr, subst}
use Rattle.parsing.specs.Reads.{SpellsOnly}
use Rattle.requests.specs.Asked.{asked_of}
use Rattle.requests.specs.Faults.{IsRequestFault}
use Rattle.requests.specs.Grammar.{IsRequest}
use Rattle.session.specs.Body.{ended}
use Rattle.session.specs.Entries.{line_entry}
use Rattle.session.specs.Plays.{IsUnasked}
use Rattle.session.specs.declared.play.Room.{Room}
use Rattle.session.proofs.Noted.{asked_noted, unasked_for}
use Rattle.session.proofs.play.reply_to.Goals.{in-Put+in-Spawn-1, in-Put+in-SetResource-1, in-Query-1, in-Hello-1}
use Rattle.session.proofs.play.reply_to.Goals as goal

pub returns-in-Ok-read_request-clause-replied : goal.returns-in-Ok-read_request-clause-replied
returns-in-Ok-read_request-clause-replied g c = inl (record {
  asked = asked_of c.in-Ok-read_request.request;
  spells = subst (λ (line : List ℕ). SpellsOnly IsRequest line (asked_of c.in-Ok-read_request.request)) (c.in-Ok.ensures.cases.0 ∙ c.as_slice.ensures.value) c.in-Ok-read_request.ensures.ok;
  answer = c.answer.ensures.answer;
  ends = c.answer.ensures.ends;
})

pub returns-in-Ok-read_request-clause-entry : goal.returns-in-Ok-read_request-clause-entry
returns-in-Ok-read_request-clause-entry g c =
    let line = c.args.room.now.line.items in
    let request = asked_of c.in-Ok-read_request.request in
    let reply = c.answer.result.reply in
    let spells = subst (λ (l : List ℕ). SpellsOnly IsRequest l request) (c.in-Ok.ensures.cases.0 ∙ c.as_slice.ensures.value) c.in-Ok-read_request.ensures.ok in
    let left : c.match-request.room.entry.items ≡ c.answer.new.entry.items = elim c.match-request.branch [
      | in-Put+in-Spawn-1 w ↦ ap (λ (r : Room g.row.B.Denot). r.entry.items) w.room-is
      | in-Put+in-SetResource-1 w ↦ ap (λ (r : Room g.row.B.Denot). r.entry.items) w.room-is
      | in-Query-1 w ↦ ap (λ (r : Room g.row.B.Denot). r.entry.items) w.room-is
      | in-Hello-1 w ↦ ap (λ (r : Room g.row.B.Denot). r.entry.items) w.room-is
    ] in
    let added : c.add_line.new.body.items ≡ ended line = c.in_default-add_line.ensures ∙ ap₂ (λ (a b : List ℕ). a ++ ended b) c.clear.ensures.items (c.as_bytes.ensures.value ∙ c.in-Ok.ensures.cases.0 ∙ c.as_slice.ensures.value) in
    asked_noted g.B.Body.meaning (g.M.Mode.width c.args.mode.now) c.args.session.now c.answer.new.session line c.match-request.room.entry.items request reply c.answer.result.runs.items spells c.answer.ensures.runs
    (left ∙ c.answer.ensures.entry ∙ ap (λ (t : List ℕ). line_entry request t reply) added)

pub returns-in-Err-read_request-clause-replied : goal.returns-in-Err-read_request-clause-replied
returns-in-Err-read_request-clause-replied g c =
    let line = c.args.room.now.line.items in
    let told = subst (λ (l : List ℕ). IsRequestFault l c.in-Err-read_request.fault) (c.in-Ok.ensures.cases.0 ∙ c.as_slice.ensures.value) c.in-Err-read_request.ensures.err in
    inr (subst (IsUnasked line) (sym (c.plain-in-Err-read_request.ensures.reply ∙ c.unasked.ensures)) (unasked_for line c.in-Err-read_request.fault told), c.plain-in-Err-read_request.ensures.goes_on, refl)
