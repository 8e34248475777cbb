use Rattle.std.proofs.Common.{ap, ◌∙◌, map}
use Rattle.smallvec.specs.SmallVec.{SmallVec}
use Rattle.query.specs.declared.alternative.Alternatives.{Alternatives}
use Rattle.query.specs.Alternative.{alternatives_of}
use Rattle.access_set.proofs.Choices.{choice_taken, choice_passed}
use Rattle.access_set.proofs.footprint.choices_of.Goals as goal
use Rattle.access_set.proofs.footprint.choices_of.Goals.{in-Some+in_ok-push, in_default}

pub loop-term-preserved : goal.loop-term-preserved
loop-term-preserved c = elim c.match-choice.branch [
  | in-Some+in_ok-push w ↦
      ap (λ (list : SmallVec Alternatives). map alternatives_of list.items) w.list-is
      ∙ (ap (map alternatives_of) w.in_ok-push.ensures.ok
      ∙ choice_taken c.args.terms.now c.loop-term.term-index _ c.loop-term.list.items w.in-Some.alternatives c.choice.result c.loop-term-test.true c.loop-term.invariant c.choice.ensures w.in-Some.is)
  | in_default w ↦
      ap (λ (list : SmallVec Alternatives). map alternatives_of list.items) w.list-is
      ∙ choice_passed c.args.terms.now c.loop-term.term-index _ c.loop-term.list.items c.choice.result c.loop-term-test.true c.loop-term.invariant c.choice.ensures w.in_default.is
]
