use Rattle.std.proofs.Common.{ap, ◌∙◌}
use Rattle.model.specs.access.Conflict.{choices}
use Rattle.access_set.proofs.Choices.{low_choices}
use Rattle.access_set.proofs.footprint.Footprint.of_query.Goals as goal

pub returns : goal.returns
returns c = record {
  words = c.of_query.ensures;
  choices = c.in_ok-choices_of.ensures ∙ ap choices c.terms.ensures;
  low = low_choices c.prove_kinds_apart.ensures.below c.in_ok-choices_of.field-0.items;
}
