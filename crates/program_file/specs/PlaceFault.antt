-- What is told of a place of a program file.
use Rattle.parsing.specs.declared.read_error.ReadError.{ReadError}
use Rattle.parsing.specs.declared.read_error.ReadError.TheVariants as error
use Rattle.program_file.specs.declared.place.Place.{Place}
use Rattle.program_file.specs.declared.fault.FileFault.{FileFault}
use Rattle.program_file.specs.declared.fault.FileFault.TheVariants as fault
use Rattle.program_file.specs.declared.place_fault.PlaceFault.{PlaceFault}
use Rattle.program_file.specs.declared.place_fault.PlaceFault.TheVariants.{Value, Text, Memory}

-- the fault with its place; a failed allocation has none
abbrev pub fault_at : Place → PlaceFault → FileFault
fault_at place Value = fault.Value place
fault_at place Text = fault.Text place
fault_at place Memory = fault.Memory

-- what a text that is not read is in its place
abbrev pub place_fault_of : ReadError → PlaceFault
place_fault_of error.Outside = Text
place_fault_of error.Memory = Memory

-- a fault that a place can have: not of the file as bytes, not of a run
abbrev pub IsOfPlace : FileFault → Type 0
IsOfPlace (fault.Value place) = Unit {0}
IsOfPlace (fault.Text place) = Unit {0}
IsOfPlace fault.Memory = Unit {0}
IsOfPlace _ = ⊥

-- a fault of the file as bytes
abbrev pub IsOfBytes : FileFault → Type 0
IsOfBytes fault.Document = Unit {0}
IsOfBytes fault.Memory = Unit {0}
IsOfBytes _ = ⊥

-- what is no fault of a grammar
abbrev pub IsNoText : PlaceFault → Type 0
IsNoText Value = Unit {0}
IsNoText Text = ⊥
IsNoText Memory = Unit {0}

-- what is no fault of a key's value
abbrev pub IsNoValue : PlaceFault → Type 0
IsNoValue Value = ⊥
IsNoValue Text = Unit {0}
IsNoValue Memory = Unit {0}

-- nothing at all is what was looked for, or an allocation failed
abbrev pub NoneIs : {X : Type 0} → (X → Type 0) → PlaceFault → Type 0
NoneIs {X} Is Value = (x : X) → Is x → ⊥
NoneIs {X} Is Text = (x : X) → Is x → ⊥
NoneIs {X} Is Memory = Unit {0}

-- the same of a fault that is told of a place
abbrev pub NoneIsAt : {X : Type 0} → (X → Type 0) → FileFault → Type 0
NoneIsAt {X} Is fault.Document = ⊥
NoneIsAt {X} Is (fault.Value place) = (x : X) → Is x → ⊥
NoneIsAt {X} Is (fault.Text place) = (x : X) → Is x → ⊥
NoneIsAt {X} Is fault.Memory = Unit {0}
