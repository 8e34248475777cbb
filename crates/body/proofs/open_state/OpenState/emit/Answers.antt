use Rattle.std.proofs.Common.{◌≡◌, ℕ, ◌<◌, ◌≤◌, nat_lt, true, inl, inr, sym, ap, ◌∙◌, arith}
use Rattle.std.proofs.lemmas.Bool.{cases_lt, lt-ltb}
use Rattle.kinds.specs.Res.{event_number}
use Rattle.model.specs.state.State.{last_tick}
use Rattle.model.specs.state.Events.{queue_of}
use Rattle.body.specs.Steps.{StateValue}
use Rattle.body.proofs.open_state.OpenState.emit.Goals as goal

pub returns-clause-room : goal.returns-clause-room
returns-clause-room c =
    let number = (queue_of c.self.inside.events (event_number c.args.event)).next in
    let most : number ≤ last_tick = omega (arith, c.next-next.ensures.value, c.next-next.ensures.most) in
    ap (λ (v : StateValue). nat_lt (queue_of v.state.events (event_number c.args.event)).next last_tick) (sym c.self.view_is)
    ∙ below number (elim (cases_lt number last_tick) as (λ _. number < last_tick) [
      | inl l ↦ l
      | inr l ↦ absurd (let last : number ≡ last_tick = omega arith in let e = c.in_ok-send.ensures.spent.1 last in cc)
    ])
  where
    below : (n : ℕ) → n < last_tick → nat_lt n last_tick ≡ true
    below n l = lt-ltb n last_tick l
