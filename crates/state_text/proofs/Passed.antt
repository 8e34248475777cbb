-- A fault that is passed on, and a value with what is left behind it.
use Rattle.std.proofs.Common.{◌≡◌, ℕ, List, Result, Ok, Err, ◌∙◌}
use Rattle.std.specs.Result.{IsErrAnd}
use Rattle.state_text.specs.declared.reading.fault.LineFault.{LineFault}
use Rattle.state_text.specs.declared.reading.fault.LineFault.TheVariants.{Memory}
use Rattle.state_text.specs.LineWords.{AreLines}
use Rattle.state_text.specs.Reading.{UnlessMemory, Gives, GivesBefore}

-- a failed allocation is told as one
pub passed : {X : Type 0} (P : X → Type 0) (r : Result X LineFault) (fault : LineFault) → IsErrAnd r (λ e. e ≡ fault) → fault ≡ Memory → UnlessMemory r P
passed P (Ok x) fault h memory = absurd h
passed P (Err e) fault h memory = h ∙ memory

-- what is given of a line, with the lines behind it
pub before : {X : Type 0} (r : Result X LineFault) (x : X) (more : List (List (List ℕ))) (rest : List ℕ) → Gives r x → AreLines more rest → GivesBefore r x more rest
before (Ok y) x more rest given left = (given, left)
before (Err e) x more rest given left = given
