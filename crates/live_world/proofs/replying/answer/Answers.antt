use Rattle.std.proofs.Common.{ℕ, List, false, inl, inr, refl, sym, subst}
use Rattle.live_world.proofs.Replies.{unasked_for}
use Rattle.parsing.specs.Reads.{SpellsOnly}
use Rattle.requests.specs.Asked.{asked_of}
use Rattle.requests.specs.Faults.{IsRequestFault}
use Rattle.requests.specs.Grammar.{IsRequest}
use Rattle.session.specs.Plays.{IsUnasked, is_quit}
use Rattle.live_world.proofs.replying.answer.Goals as goal

pub returns-in-Ok-read_request : goal.returns-in-Ok-read_request
returns-in-Ok-read_request c =
    let asked = asked_of c.in-Ok-read_request.request in (
      is_quit asked,
      inl (record {
        asked = asked;
        spells = subst (λ (line : List ℕ). SpellsOnly IsRequest line asked) c.in-Ok.ensures.cases.0 c.in-Ok-read_request.ensures.ok;
        answer = c.answer_here.ensures.reply;
        ends = refl;
      }),
    )

pub returns-in-Err : goal.returns-in-Err
returns-in-Err c =
    let line = c.args.line.now in
    let told = subst (λ (l : List ℕ). IsRequestFault l c.in-Err.fault) c.in-Ok.ensures.cases.0 c.in-Err.ensures.err in
    (false, inr (subst (IsUnasked line) (sym c.unasked.ensures) (unasked_for line c.in-Err.fault told), refl, refl))
