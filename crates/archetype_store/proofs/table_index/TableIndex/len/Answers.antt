use Rattle.archetype_store.proofs.Common.{length, ap, ◌∙◌}
use Rattle.archetype_store.proofs.TableIndex.{peopled_many}
use Rattle.archetype_store.proofs.table_index.TableIndex.len.Goals as goal

pub returns : goal.returns
returns c = λ tables i. c.len.ensures ∙ c.args.self.now.peopled.ok.0 ∙ ap length i.peopled ∙ peopled_many 0 tables
