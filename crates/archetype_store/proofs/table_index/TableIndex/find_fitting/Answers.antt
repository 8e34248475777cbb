use Rattle.archetype_store.proofs.Common.{ap₂, ◌∙◌, numbered}
use Rattle.archetype_store.proofs.FittingTables.{archetypes_fitting}
use Rattle.archetype_store.proofs.table_index.TableIndex.find_fitting.Goals as goal

pub returns : goal.returns
returns c = λ tables i kept.
    c.in_ok-numbers_at.ensures ∙ ap₂ numbered (c.as_slice.ensures.value ∙ i.numbers) (c.in-Some.ensures tables i) ∙ archetypes_fitting c.args.shape tables
