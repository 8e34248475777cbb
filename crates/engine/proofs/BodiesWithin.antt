-- Bodies that fit keep within the parameters of their systems, on whatever a state of the schedule can show them.
use Rattle.std.proofs.Common.{ℕ, zero, suc, ◌<◌, ◌≡◌, true, List, [], ◌∷◌, length, map, get_or, Some, sym, ap, ◌∙◌, subst, arith}
use Rattle.std.proofs.lemmas.List.{length-map}
use Rattle.model.specs.access.Access.{Params}
use Rattle.model.specs.state.State.{Memory, no_memory, register_count}
use Rattle.model.specs.state.Shape.{BodiesKeepWithin, AreMemoriesOfSystems}
use Rattle.model.specs.shown.Input.{shown}
use Rattle.model.specs.shown.Outcome.{BodyMeaning}
use Rattle.model.specs.steps.Schedule.{Schedule, ScheduledSystem, params_of}
use Rattle.model.specs.runs.RunState.{body_of, memory_of_system}
use Rattle.kinds.specs.Components.{widths}
use Rattle.body.specs.Keeps.{KeepsWithin}
use Rattle.engine.specs.Meanings.{meaning_of, meanings, AllKeepWithin}
use Rattle.engine.proofs.BodiesAtHome.{at_body}
use Rattle.engine.proofs.JobsOut.{meaning-there}
use Rattle.engine.proofs.SystemStart.{can_be_shown}

-- what the body of a system means, where each is at home
pub meaning-at : {B : Type 0} (meaning : B → Params → BodyMeaning) (s : Schedule) (bodies : List B) (n : ℕ) (d : B) → length bodies ≡ length s.systems → n < length s.systems →
    body_of (meanings meaning s (map Some bodies)) n ≡ meaning (get_or bodies n d) (params_of s n)
meaning-at {B} meaning s bodies n d count known =
    meaning-there meaning (λ body params. true) true s (map Some bodies) n (length-map bodies (λ (body : B). Some body) ∙ count) known
    ∙ ap (meaning_of meaning (params_of s n)) (at_body bodies n d (omega (arith, count, known)))

-- so it keeps within what that body keeps within
pub keeps-at : {B : Type 0} (meaning : B → Params → BodyMeaning) (s : Schedule) (bodies : List B) (n : ℕ) (d : B) → length bodies ≡ length s.systems → n < length s.systems →
    KeepsWithin (params_of s n) (meaning (get_or bodies n d) (params_of s n)) → KeepsWithin (params_of s n) (body_of (meanings meaning s (map Some bodies)) n)
keeps-at meaning s bodies n d count known keeps = subst (KeepsWithin (params_of s n)) (sym (meaning-at meaning s bodies n d count known)) keeps

-- ---- what bodies are shown

-- the memory of each system has its registers
registers-there : (clock : ℕ) (xs : List ScheduledSystem) (ms : List Memory) (n : ℕ) → n < length xs → AreMemoriesOfSystems clock xs ms → length (get_or ms n no_memory).registers ≡ register_count
registers-there clock [] ms n known h = absurd (omega (arith, known))
registers-there clock (x ∷ xs) [] n known h = absurd h
registers-there clock (x ∷ xs) (m ∷ ms) zero known h = h.0.registers
registers-there clock (x ∷ xs) (m ∷ ms) (suc n) known h = registers-there clock xs ms n (omega (arith, known)) h.1

-- bodies that keep within their parameters do so on what a state of the schedule can show them
pub bodies_keep : (s : Schedule) (bodies : List BodyMeaning) → AllKeepWithin s bodies → BodiesKeepWithin widths s bodies
unfolding KeepsWithin
bodies_keep s bodies keep n w ids o known shape given e =
    keep n known (shown (params_of s n) (memory_of_system w n) w ids) o
    (can_be_shown s n (memory_of_system w n) w ids (registers-there w.world.clock s.systems w.systems n known shape.systems) given) e
