use Rattle.std.proofs.Common.{◌≡◌, ◌+◌, List, [], Vec, Global, drop, get_or, length, map, set, sym, ap, ap₂, ◌∙◌, arith}
use Rattle.std.proofs.lemmas.List.{drop_all, drop_more, drop-set-lt, length-set}
use Rattle.model.specs.declared.entities.Entity.{Entity}
use Rattle.engine.specs.Deferred.{noted_each}
use Rattle.engine.proofs.LevelGrants.{noted_more, noted_none}
use Rattle.engine.proofs.granting.note_grants.Goals.{then-place-given, else-place-given}
use Rattle.engine.proofs.granting.note_grants.Goals as goal

-- the ids of lists
abbrev items_of : List (Vec Entity Global) → List (List Entity)
items_of given = map (λ ids. ids.items) given

pub loop-place-preserved : goal.loop-place-preserved
loop-place-preserved c =
    let ns = c.args.systems.now in
    let i = c.loop-place.place in
    let given = c.loop-place.given in
    let grants = c.loop-place.grants in
    elim c.if-place-given.branch [
      | then-place-given w ↦
          let was = w.index-given-place.result in
          let n = get_or ns i 0 in
          let ids = (get_or given i was).items in
          let later = drop (i + 1) given in
          let filled : c.if-place-given.grants ≡ set grants n ids = w.grants-is ∙ ap (set grants n) w.exchange.ensures in
          record {
            noted =
                ap₂ (λ lists noted. noted_each (drop (i + 1) ns) (items_of lists) noted) (ap (drop (i + 1)) w.given-is ∙ drop-set-lt (i + 1) given i w.exchange.new.ids (omega arith)) filled
                ∙ sym (noted_more ns i 0 ids (items_of later) grants c.loop-place-test.true)
                ∙ sym (ap (λ lists. noted_each (drop i ns) (items_of lists) grants) (drop_more given i was w.if-place-given.true))
                ∙ c.loop-place.invariant.noted;
            count = ap length filled ∙ length-set grants n ids ∙ c.loop-place.invariant.count;
          }
      | else-place-given w ↦
          let past = w.if-place-given.false in
          let none : drop i given ≡ [] = drop_all i given past in
          let none_after : drop (i + 1) c.if-place-given.given ≡ [] = ap (drop (i + 1)) w.given-is ∙ drop_all (i + 1) given (omega arith) in
          record {
            noted =
                ap₂ (λ lists noted. noted_each (drop (i + 1) ns) (items_of lists) noted) none_after w.grants-is
                ∙ noted_none (drop (i + 1) ns) grants
                ∙ sym (noted_none (drop i ns) grants)
                ∙ sym (ap (λ lists. noted_each (drop i ns) (items_of lists) grants) none)
                ∙ c.loop-place.invariant.noted;
            count = ap length w.grants-is ∙ c.loop-place.invariant.count;
          }
    ]
