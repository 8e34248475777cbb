use Rattle.archetype_store.proofs.Common.{ap, StoreValue}
use Rattle.entity_table.proofs.WithRows.{lives_at-with_rows, is_alive-with_rows}
use Rattle.archetype_store.proofs.store.World.next_living.Goals as goal

pub returns-clause-lives : goal.returns-clause-lives
returns-clause-lives c = rw (← (ap (λ (v : StoreValue). v.state.slots) c.self.view_is)) (simp is_alive-with_rows c.next_living.ensures.lives)

pub returns-clause-least : goal.returns-clause-least
returns-clause-least c = rw (← (ap (λ (v : StoreValue). v.state.slots) c.self.view_is)) (simp lives_at-with_rows c.next_living.ensures.least)

pub returns-clause-none : goal.returns-clause-none
returns-clause-none c = rw (← (ap (λ (v : StoreValue). v.state.slots) c.self.view_is)) (simp lives_at-with_rows c.next_living.ensures.none)
