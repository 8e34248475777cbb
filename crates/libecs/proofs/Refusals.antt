-- A program file that is not opened leaves a handle as it is.
use Rattle.std.proofs.Common.{ℕ, List, Option, refl}
use Rattle.libecs.specs.Calls.{HasOpened, IsRefusal, IsUnopened}
use Rattle.libecs.specs.declared.calls.Status.{Status}
use Rattle.libecs.specs.declared.calls.Status.TheVariants.{Done, Refused, Closed, Memory, Open}
use Rattle.live_world.specs.declared.live_world.LiveWorld.{LiveWorld}
use Rattle.program.specs.declared.fault.Fault.{Fault}

pub unopened : (file : List ℕ) (old : Option LiveWorld) (room : List ℕ × List ℕ) (wanted : ℕ) (fault : Fault) (status : Status)
    → IsUnopened file fault → IsRefusal fault room wanted status → HasOpened file old old room wanted status
unopened file old room wanted fault Refused why told = (refl, (fault, why, told))
unopened file old room wanted fault Memory why told = (refl, (fault, why, told))
unopened file old room wanted fault Done why told = absurd told
unopened file old room wanted fault Closed why told = absurd told
unopened file old room wanted fault Open why told = absurd told
