-- What a body that has run tells.
use Rattle.std.specs.Prelude.{ℕ, ◌≡◌, Result, Ok, Err}
use Rattle.model.specs.shown.Outcome.{Outcome}
use Rattle.body.specs.Seen.{Seen}
use Rattle.body.specs.declared.system_body.BodyFault.{BodyFault}
use Rattle.body.specs.declared.system_body.BodyFault.TheVariants.{Memory, Refused}

-- the answer of a body with this meaning of what it was shown: the outcome is that of the meaning, or the refusal is. Want of memory tells
-- nothing
abbrev pub Answers : Result Outcome ℕ → Seen → Result (Unit {0}) BodyFault → Type 0
Answers meaning seen (Ok done) = meaning ≡ Ok seen.outcome
Answers meaning seen (Err (Refused n)) = meaning ≡ Err n
Answers meaning seen (Err Memory) = Unit {0}
