-- The text of an error of a reader.
use Rattle.std.specs.Prelude.{ℕ, List, codes}
use Rattle.parsing.specs.declared.read_error.ReadError.{ReadError}
use Rattle.parsing.specs.declared.read_error.ReadError.TheVariants.{Outside, Memory}

-- what the error is printed as
abbrev pub read_error_text : ReadError → List ℕ
read_error_text Outside = codes "the text is outside its grammar"
read_error_text Memory = codes "memory was wanting"
