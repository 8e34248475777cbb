use Rattle.std.proofs.Common.{◌≡◌, ◌≤◌, ◌-◌, List, length, map}
use Rattle.std.specs.List.{AllByRecursion}
use Rattle.model.specs.state.State.{Component}
use Rattle.archetype_store.specs.Row.{component_of}
use Rattle.state_text.specs.Laws.{FitsComponent}
use Rattle.state_text.specs.LineWords.{IsRow, row_words}
use Rattle.state_text.proofs.RowsRead.{HasRead}
use Rattle.state_text.proofs.reading.components.read_row.Given as goal

-- the components of the first words are read
abbrev pub invariant-loop-taken : goal.invariant-loop-taken
invariant-loop-taken l = record {
  low : l.taken ≤ length l.words;
  row : IsRow l.clock (map component_of l.row.items);
  read : (cs : List Component) → IsRow l.clock cs → AllByRecursion FitsComponent cs → map (λ word. word.now) l.words ≡ row_words cs
      → HasRead (map (λ word. word.now) l.words) cs (map component_of l.row.items) l.taken;
}

abbrev pub decreases-loop-taken : goal.decreases-loop-taken
decreases-loop-taken l = length l.words - l.taken
