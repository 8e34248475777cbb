use Rattle.session.proofs.laws.alike_sessions_are_in_lockstep.Goals as goal

pub returns : goal.returns
returns g c = λ alike. record {
  ready = c.session_is_ready.ensures alike.there;
  other_ready = c.session_is_ready-2.ensures alike.other_there;
  alike = alike;
}
