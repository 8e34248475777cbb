use Rattle.std.proofs.Common.{ℕ, ◌≡◌, get_or, inl, inr, refl, sym, ap, ◌∙◌, arith}
use Rattle.std.proofs.lemmas.Bool.{false≢true, cases_lt}
use Rattle.std.proofs.lemmas.Bool.Decides.{Decides-eqb}
use Rattle.std.proofs.lemmas.Slice.Eq.{slice_eq-Decides}
use Rattle.kinds.specs.declared.res.Event.{Event}
use Rattle.kinds.specs.declared.res.Event.TheVariants.{Hit}
use Rattle.kinds.specs.Res.{event_number, event_name}
use Rattle.kinds.proofs.Names.{every_event, event_numbers_apart, event_names_apart, listed_number}
use Rattle.kinds.proofs.Numbers.{event_below}
use Rattle.kinds.proofs.res.Event.named.Goals as goal

pub returns-then-eq : goal.returns-then-eq
returns-then-eq c =
    let here : Event = get_or every_event c.loop-event.event-index Hit in
    let same : c.args.word.now ≡ event_name here = sym ((slice_eq-Decides Decides-eqb c.name.result.now c.args.word.now c.eq.result c.eq.ensures).0 c.if-eq.true) ∙ c.name.ensures in
    (same, λ other named. event_names_apart other here (sym named ∙ same))

pub loop-event-preserved : goal.loop-event-preserved
loop-event-preserved c = λ k low named.
    let i : ℕ = c.loop-event.event-index in
    let here : event_number (get_or every_event i Hit) ≡ i = omega (arith, listed_number event_number every_event 0 4 i Hit refl c.loop-event-test.true) in
    elim (cases_lt (event_number k) i) [
      | inl less ↦ c.loop-event.invariant k less named
      | inr more ↦
          let same : k ≡ get_or every_event i Hit = event_numbers_apart k (get_or every_event i Hit) (omega arith) in
          let now : c.args.word.now ≡ event_name (get_or every_event i Hit) = named ∙ ap event_name same in
          false≢true (sym c.if-eq.false ∙ (slice_eq-Decides Decides-eqb c.name.result.now c.args.word.now c.eq.result c.eq.ensures).1 (c.name.ensures ∙ sym now))
    ]

pub returns : goal.returns
returns c = λ k named. let below = event_below k in c.loop-event.invariant k (omega arith) named
