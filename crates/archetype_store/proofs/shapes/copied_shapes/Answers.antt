use Rattle.archetype_store.proofs.Common.{ℕ, List, [], map, ap, ◌∙◌, copied_next, mapped_all, KeptShape, Fitting, kept_seen}
use Rattle.archetype_store.proofs.shapes.copied_shapes.Goals as goal

pub loop-kept-preserved : goal.loop-kept-preserved
loop-kept-preserved c =
    let kept : KeptShape = c.kept-item.result in
    let copy : KeptShape = record { shape = kept.shape; tables = c.in_ok-from_slice.field-0 } in
    let same = ap (λ (ts : List ℕ). let f : Fitting = record { shape = kept.shape; tables = ts } in f) (c.in_ok-from_slice.ensures.items ∙ c.as_slice.ensures.value) ∙ ap kept_seen c.kept-item.is in
    copied_next kept_seen kept_seen c.args.shapes.now c.loop-kept.kept-index kept [] c.loop-kept.copies.items c.push.new.self.items copy c.loop-kept-test.true c.loop-kept.invariant same c.in_ok-push.ensures.items

pub returns : goal.returns
returns c = mapped_all kept_seen c.args.shapes.now c.loop-kept.kept-index [] (map kept_seen c.loop-kept.copies.items) c.loop-kept-test.false c.loop-kept.invariant
