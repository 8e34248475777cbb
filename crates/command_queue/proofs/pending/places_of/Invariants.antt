use Rattle.std.proofs.Common.{◌≡◌, ℕ, take}
use Rattle.command_queue.specs.ChangePlaces.{place_told}
use Rattle.command_queue.specs.Pending.{place_of}
use Rattle.command_queue.proofs.pending.places_of.Given as goal

-- the places of the changes so far are told
abbrev pub invariant-loop-place : goal.invariant-loop-place
invariant-loop-place l = record { told : (q : ℕ) → place_told l.places q ≡ place_of q (take l.place l.changes) }
