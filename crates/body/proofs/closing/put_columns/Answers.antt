use Rattle.std.proofs.Common.{map, sym, ap, subst, ◌∙◌}
use Rattle.std.proofs.lemmas.List.{map-append}
use Rattle.archetype_store.specs.Lending.{CanComeHome, all_home}
use Rattle.body.specs.HeldColumns.{held_seen}
use Rattle.body.specs.Lent.{lent_of}
use Rattle.body.proofs.LendingCloses.{last-can, others-can, last-first}
use Rattle.body.proofs.closing.put_columns.Goals as goal

pub put_held-requires : goal.put_held-requires
put_held-requires c =
    let is = ap (map held_seen) c.in-Some.ensures.items ∙ map-append held_seen c.pop.new.self.items _ in
    last-can (map held_seen c.loop-held.columns.items) (map held_seen c.pop.new.self.items) (held_seen c.in-Some.held) c.loop-held.world is c.loop-held.invariant.can

pub loop-held-preserved : goal.loop-held-preserved
loop-held-preserved c =
    let is = ap (map held_seen) c.in-Some.ensures.items ∙ map-append held_seen c.pop.new.self.items _ in
    let before = map held_seen c.loop-held.columns.items in
    let after = map held_seen c.pop.new.self.items in
    record {
      can = subst (CanComeHome (lent_of after)) (sym c.put_held.ensures) (others-can before after (held_seen c.in-Some.held) c.loop-held.world is c.loop-held.invariant.can);
      home = ap (all_home (lent_of after)) c.put_held.ensures ∙ last-first before after (held_seen c.in-Some.held) c.loop-held.world is c.loop-held.invariant.can ∙ c.loop-held.invariant.home;
    }
