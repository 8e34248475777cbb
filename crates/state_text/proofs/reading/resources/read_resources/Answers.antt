use Rattle.std.proofs.Common.{◌≡◌, ◌<◌, ◌≤◌, ◌+◌, ◌++◌, ℕ, length, map, drop, get_or, take_all, append-nil, ap, ap₂, sym, subst, ◌∙◌, arith}
use Rattle.std.proofs.lemmas.List.{drop_more, drop_all}
use Rattle.kinds.specs.declared.res.Res.TheVariants.{Round}
use Rattle.kinds.specs.Res.{res_number, every_res}
use Rattle.model.specs.state.State.{no_resource}
use Rattle.model.proofs.lists.Each.{each-at}
use Rattle.archetype_store.specs.Store.{with_resource}
use Rattle.state_text.specs.LineWords.{AreLines, IsResourceAt, resource_words, resources_before, with_resources}
use Rattle.state_text.proofs.Passed.{passed}
use Rattle.state_text.proofs.ResourcesRead.{number_is, set_next}
use Rattle.state_text.proofs.reading.resources.read_resources.Goals as goal

pub returns-in_err-words-clause-all : goal.returns-in_err-words-clause-all
returns-in_err-words-clause-all c rs more many eight is h =
    let i = c.loop-res.res-index in
    let low : i < 8 = let all = ap length c.as_slice-res-items.ensures in omega (arith, c.loop-res-test.true, all) in
    let so_far = c.loop-res.invariant.read rs more many eight is h in
    let here = subst (λ list. AreLines (resources_before rs list more) c.loop-res.lines.rest.now) (drop_more every_res i Round low) so_far.1 in
    passed _ _ _ c.from_residual.ensures.1 (c.in_err-words.ensures _ _ here)

pub returns-in_err-read_resource-clause-all : goal.returns-in_err-read_resource-clause-all
returns-in_err-read_resource-clause-all c rs more many eight is h =
    let i = c.loop-res.res-index in
    let low : i < 8 = let all = ap length c.as_slice-res-items.ensures in omega (arith, c.loop-res-test.true, all) in
    let so_far = c.loop-res.invariant.read rs more many eight is h in
    let here = subst (λ list. AreLines (resources_before rs list more) c.loop-res.lines.rest.now) (drop_more every_res i Round low) so_far.1 in
    let n = res_number (get_or every_res i Round) in
    let same : n ≡ i = number_is i Round low in
    let r = get_or rs n no_resource in
    let read = c.in_ok-words.ensures (resource_words (get_or every_res i Round) r) (resources_before rs (drop (i + 1) every_res) more) here in
    let there = subst (λ (clock : ℕ). IsResourceAt clock r) (sym c.loop-res.invariant.clock) (each-at (IsResourceAt c.args.world.now.state.clock) rs n no_resource (omega (arith, same, low, eight)) is) in
    passed _ _ _ c.from_residual-in_err-read_resource.ensures.1
    (c.in_err-read_resource.ensures.all r there (ap (map (λ word. word.now)) c.deref.ensures.value ∙ read.0 ∙ ap (λ list. resource_words (get_or list i Round) r) (sym c.as_slice-res-items.ensures)))

pub loop-res-preserved : goal.loop-res-preserved
loop-res-preserved c = record {
  clock = c.in_ok-read_resource.ensures.clock ∙ c.loop-res.invariant.clock;
  layout = c.in_ok-read_resource.ensures.layout ∙ c.loop-res.invariant.layout;
  read = λ rs more many eight is h.
      let i = c.loop-res.res-index in
      let low : i < 8 = let all = ap length c.as_slice-res-items.ensures in omega (arith, c.loop-res-test.true, all) in
      let so_far = c.loop-res.invariant.read rs more many eight is h in
      let here = subst (λ list. AreLines (resources_before rs list more) c.loop-res.lines.rest.now) (drop_more every_res i Round low) so_far.1 in
      let n = res_number (get_or every_res i Round) in
      let same : n ≡ i = number_is i Round low in
      let r = get_or rs n no_resource in
      let read = c.in_ok-words.ensures (resource_words (get_or every_res i Round) r) (resources_before rs (drop (i + 1) every_res) more) here in
      let there = subst (λ (clock : ℕ). IsResourceAt clock r) (sym c.loop-res.invariant.clock) (each-at (IsResourceAt c.args.world.now.state.clock) rs n no_resource (omega (arith, same, low, eight)) is) in
      let set = c.in_ok-read_resource.ensures.all r there (ap (map (λ word. word.now)) c.deref.ensures.value ∙ read.0 ∙ ap (λ list. resource_words (get_or list i Round) r) (sym c.as_slice-res-items.ensures)) in (
        set ∙ (λ k. with_resource (res_number (get_or (c.as_slice-res-items.ensures k) i Round)) r.value r.changed (so_far.0 k))
            ∙ ap (λ xs. with_resources xs c.args.world.now.state) (set_next rs c.args.world.now.state.resources i n same (omega (arith, low, eight)) many),
        read.1,
      );
}

pub returns-clause-all : goal.returns-clause-all
returns-clause-all c rs more many eight is h =
    let i = c.loop-res.res-index in
    let past : 8 ≤ i = let all = ap length c.as_slice-res-items.ensures in omega (arith, c.loop-res-test.false, all) in
    let so_far = c.loop-res.invariant.read rs more many eight is h in
    let whole = ap₂ ◌++◌ (take_all i rs (omega (arith, past, eight))) (drop_all i c.args.world.now.state.resources (omega (arith, past, eight, many))) ∙ append-nil rs in (
      so_far.0 ∙ ap (λ xs. with_resources xs c.args.world.now.state) whole,
      subst (λ list. AreLines (resources_before rs list more) c.loop-res.lines.rest.now) (drop_all i every_res (omega (arith, past))) so_far.1,
    )
