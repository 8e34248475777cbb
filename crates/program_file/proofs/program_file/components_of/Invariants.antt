use Rattle.std.proofs.Common.{◌≡◌, ◌++◌, List}
use Rattle.toml.specs.View.{members_view}
use Rattle.toml.proofs.Views.{Entry}
use Rattle.program_file.specs.Tables.{IsEntityIn}
use Rattle.program_file.proofs.program_file.components_of.Given as goal

-- the components of the members so far
abbrev pub invariant-loop-key : goal.invariant-loop-key
invariant-loop-key l = (done : List Entry) × (l.table.entries ≡ done ++ l.key-iterator) × IsEntityIn (members_view done) l.components.items
