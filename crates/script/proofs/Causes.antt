-- What is told where a test is not passed.
use Rattle.std.proofs.Common.{◌≡◌, ◌≢◌, ℕ, Bool, true, false, not, Option, refl, ap, ap₂, ◌∙◌}
use Rattle.std.specs.Bool.{then_some}
use Rattle.script.specs.declared.fault.Cause.{Cause}
use Rattle.kinds.specs.declared.kind.Kind.{Kind}
use Rattle.kinds.specs.declared.res.Event.{Event}
use Rattle.script.specs.declared.operands.Target.{Target}
use Rattle.script.specs.declared.operands.Source.{Source}
use Rattle.script.specs.declared.instruction.Operation.{Operation}
use Rattle.script.specs.declared.instruction.Relation.{Relation}
use Rattle.script.specs.declared.instruction.Instruction.{Instruction}
use Rattle.script.specs.declared.instruction.Instruction.TheVariants.{Change, Compare, Has, Emit, Spawn, Insert, Remove, Despawn}
use Rattle.script.specs.Faults.{unless, least, IsCommand}

-- a cause that is given where a test fails is that of the definitions
unless_passed : (passed : Bool) (cause : Cause) → then_some (not passed) cause ≡ unless passed cause
unless_passed true cause = refl
unless_passed false cause = refl

-- the same, of a test that is known by another word
pub told_unless : (passed known : Bool) (cause : Cause) (told : Option Cause) → told ≡ then_some (not passed) cause → passed ≡ known → told ≡ unless known cause
told_unless passed known cause told is same = is ∙ ap (λ b. then_some (not b) cause) same ∙ unless_passed known cause

-- the lesser of two causes, each known by another word
pub least_of : (given first second left right : Option Cause) → given ≡ least first second → first ≡ left → second ≡ right → given ≡ least left right
least_of given first second left right is first-is second-is = is ∙ ap₂ least first-is second-is

-- an instruction of none of four forms is a command
pub is_command : (i : Instruction) → ((o : Operation) (t : Target) (s : Source) → i ≢ Change o t s) → ((r : Relation) (x y : Source) (n : ℕ) → i ≢ Compare r x y n)
    → ((k : Kind) (n : ℕ) → i ≢ Has k n) → ((e : Event) (s : Source) → i ≢ Emit e s) → IsCommand i
is_command (Change o t s) no_change no_compare no_has no_emit = no_change o t s refl
is_command (Compare r x y n) no_change no_compare no_has no_emit = no_compare r x y n refl
is_command (Has k n) no_change no_compare no_has no_emit = no_has k n refl
is_command (Emit e s) no_change no_compare no_has no_emit = no_emit e s refl
is_command (Spawn n) no_change no_compare no_has no_emit = tt
is_command (Insert s k vs) no_change no_compare no_has no_emit = tt
is_command (Remove s k) no_change no_compare no_has no_emit = tt
is_command (Despawn s) no_change no_compare no_has no_emit = tt
