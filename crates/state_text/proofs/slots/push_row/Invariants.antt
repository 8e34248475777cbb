use Rattle.std.proofs.Common.{◌≡◌, ◌++◌, map, take, string_bytes}
use Rattle.archetype_store.specs.Row.{component_of}
use Rattle.state_text.specs.StateText.{row_text}
use Rattle.state_text.proofs.slots.push_row.Given as goal

-- the components so far are written
abbrev pub invariant-loop-component : goal.invariant-loop-component
invariant-loop-component l = string_bytes l.text ≡ string_bytes l.fn.text ++ row_text l.form (map component_of (take l.component-index l.components))
