-- What a program file that is refused is told as.
use Rattle.std.specs.Prelude.{ℕ, List, ◌++◌, codes, decimal}
use Rattle.program_file.specs.declared.place.Place.{Place}
use Rattle.program_file.specs.declared.place.Place.TheVariants.{Top, Resources, Entity, Set, System, Chain}
use Rattle.program_file.specs.declared.fault.FileFault.{FileFault}
use Rattle.program_file.specs.declared.fault.FileFault.TheVariants.{Document, Value, Text, Memory}

-- a place
abbrev pub place_text : Place → List ℕ
place_text Top = codes "top"
place_text Resources = codes "resources"
place_text (Entity number) = codes "entity " ++ decimal number
place_text (Set number) = codes "set " ++ decimal number
place_text (System number) = codes "system " ++ decimal number
place_text (Chain number) = codes "chain " ++ decimal number

-- the line of a fault, without its end
abbrev pub file_fault_text : FileFault → List ℕ
file_fault_text Document = codes "refused P1"
file_fault_text (Value place) = codes "refused P2 " ++ place_text place
file_fault_text (Text place) = codes "refused P3 " ++ place_text place
file_fault_text Memory = codes "error memory"
