-- The sets of a program file, and the members of each.
use Rattle.std.specs.Prelude.{ℕ, ◌<◌, ◌≡◌, List, [], Option, flat_map, get_or, length, map}
use Rattle.std.specs.List.{position}
use Rattle.std.specs.Option.{option_map, option_to_list}
use Rattle.std.specs.Str.{bytes_eq}
use Rattle.model.specs.declarations.Declarations.{Declared, DeclaredItem, hierarchy_of}
use Rattle.program_file.specs.declared.program_file.ItemTable.{ItemTable}
use Rattle.system_set.specs.Coverage.{AreNumbers}
use Rattle.findings.specs.declared.sets.Sets.{Sets}

-- the sets of what is declared, by number: their names, and of each its members by their numbers among the systems, in rising order
pub record AreSetsOf (d : Declared) (s : Sets) : Type 0 where
  pub names : map (λ name. name.now) s.names.items ≡ map (λ (i : DeclaredItem). i.name) d.sets
  pub count : length s.members.items ≡ length d.sets
  pub members : (n : ℕ) → n < length d.sets → AreNumbers (hierarchy_of d) n (get_or (map (λ numbers. numbers.items) s.members.items) n [])

-- ---- how they are found

-- the number of the first set of a name, where there is one
abbrev pub set_named : List ItemTable → List ℕ → Option ℕ
set_named sets name = position (λ (set : ItemTable). bytes_eq set.name.now name) sets

-- an item with the set of a name, where there is one
abbrev pub held_by_one : List ItemTable → ℕ → List ℕ → List (ℕ × ℕ)
held_by_one sets item name = option_to_list (option_map (λ set. (item, set)) (set_named sets name))

-- an item with each of the sets of these names that there is
abbrev pub held_by : List ItemTable → ℕ → List (List ℕ) → List (ℕ × ℕ)
held_by sets item names = flat_map (held_by_one sets item) names
