use Rattle.std.proofs.Common.{◌≡◌, ℕ, List, sym, ap, ◌∙◌, subst}
use Rattle.std.specs.List.{AllByRecursion}
use Rattle.model.specs.state.State.{State}
use Rattle.engine.specs.Meanings.{LacksMemories}
use Rattle.session.specs.Live.{Live}
use Rattle.session.proofs.Lives.{all_marked, has_memories}
use Rattle.session.proofs.session.Session.mark.Goals as goal

pub invariant_of-self : goal.invariant_of-self
invariant_of-self g c =
    let schedule = c.self.inside.engine.schedule in
    let has : (LacksMemories schedule c.self.inside.engine.state → ⊥) = has_memories schedule c.self.inside.engine.state (c.is_spoiled-spoiled.ensures.suits (ap (λ (l : Live g.row.B.Denot). l.engine.spoiled) c.self.view_is ∙ c.requires)).memories in
    let same : c.self.inside.engine.state ≡ c.in-Ok.state = sym (c.in-Ok.ensures ∙ c.state.ensures) in
    record {
      fit = c.self.invariant.fit;
      kept = subst (AllByRecursion (λ (m : List ℕ × State). LacksMemories schedule m.1 → ⊥)) (sym c.in-Ok-keep.ensures.ok)
          (all_marked (λ (m : List ℕ × State). LacksMemories schedule m.1 → ⊥) c.args.name.now c.in-Ok.state c.self.inside.marks c.self.invariant.kept (subst (λ (w : State). LacksMemories schedule w → ⊥) same has));
    }
