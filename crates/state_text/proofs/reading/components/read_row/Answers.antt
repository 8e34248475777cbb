use Rattle.std.proofs.Common.{map, refl, subst, ◌∙◌, rules, arith}
use Rattle.std.proofs.lemmas.List.{length-map}
use Rattle.std.specs.List.{AllByRecursion}
use Rattle.archetype_store.specs.Row.{component_of}
use Rattle.state_text.specs.Laws.{FitsComponent}
use Rattle.state_text.specs.LineWords.{IsRow}
use Rattle.state_text.proofs.Passed.{passed}
use Rattle.state_text.proofs.WordsSpelled.{behind_is}
use Rattle.state_text.proofs.RowsRead.{all_between, read_next, read_more, read_all}
use Rattle.state_text.proofs.reading.components.read_row.Goals as goal

pub returns-in_err-taken-clause-all : goal.returns-in_err-taken-clause-all
returns-in_err-taken-clause-all c cs row fits e =
    let texts = map (λ word. word.now) c.args.words.now in
    let old = map component_of c.loop-taken.row.items in
    let next = read_next texts cs old c.loop-taken.taken (let long = length-map c.args.words.now (λ word. word.now) in omega (arith, long, c.loop-taken-test.true)) (c.loop-taken.invariant.read cs row fits e) in
    passed _ _ _ c.from_residual.ensures.1 (c.in_err-taken.ensures.all next.next next.more (subst (IsRow c.args.clock) next.whole row)
    (all_between FitsComponent old next.next next.more (subst (AllByRecursion FitsComponent) next.whole fits)) (behind_is c.loop-taken.taken c.args.words.now texts refl ∙ next.left))

pub loop-taken-preserved : goal.loop-taken-preserved
loop-taken-preserved c =
    let texts = map (λ word. word.now) c.args.words.now in
    let old = map component_of c.loop-taken.row.items in
    record {
      low = search rules;
      row = c.in_ok-taken.ensures.row;
      read = λ cs row fits e.
          let next = read_next texts cs old c.loop-taken.taken (let long = length-map c.args.words.now (λ word. word.now) in omega (arith, long, c.loop-taken-test.true)) (c.loop-taken.invariant.read cs row fits e) in
          let read = c.in_ok-taken.ensures.all next.next next.more (subst (IsRow c.args.clock) next.whole row)
          (all_between FitsComponent old next.next next.more (subst (AllByRecursion FitsComponent) next.whole fits)) (behind_is c.loop-taken.taken c.args.words.now texts refl ∙ next.left) in
          read_more texts cs old c.loop-taken.taken next c.in_ok-taken.field-0 (map component_of c.read_component.new.row.items) read.0 read.1;
    }

pub returns-clause-all : goal.returns-clause-all
returns-clause-all c cs row fits e =
    let long = length-map c.args.words.now (λ word. word.now) in
    read_all (map (λ word. word.now) c.args.words.now) cs (map component_of c.loop-taken.row.items) c.loop-taken.taken (omega (arith, long, c.loop-taken-test.false)) (c.loop-taken.invariant.read cs row fits e)
