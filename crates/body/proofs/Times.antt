-- No last run is above the clock, and each memory has its registers: after a tick, after a run, and as registers are kept.
use Rattle.std.proofs.Common.{ℕ, zero, suc, ℤ, ◌≤◌, ◌≡◌, List, [], ◌∷◌, length, arith}
use Rattle.model.specs.Lists.{update_at}
use Rattle.model.specs.state.State.{EventQueue, Memory, register_count}
use Rattle.model.specs.runs.RunState.{memory_after_run, with_registers}
use Rattle.body.specs.Steps.{AreInTime, IsInTime}

-- at a later tick
later_in_time : (clock later : ℕ) (memories : List Memory) → IsInTime clock memories → clock ≤ later → IsInTime later memories
later_in_time clock later [] all past = tt
later_in_time clock later (m ∷ memories) all past = (
  record { last_run = let h : m.last_run ≤ clock = all.0.last_run in omega arith; registers = all.0.registers },
  later_in_time clock later memories all.1 past,
)

pub all_later : (clock later : ℕ) (systems conditions : List Memory) → AreInTime clock systems conditions → clock ≤ later → AreInTime later systems conditions
all_later clock later systems conditions all past = record {
  systems_in = later_in_time clock later systems all.systems_in past;
  conditions_in = later_in_time clock later conditions all.conditions_in past;
}

-- after a run that is not above it
pub ran_in_time : (clock tick n : ℕ) (reads : List ℕ) (queues : List EventQueue) (memories : List Memory) → IsInTime clock memories → tick ≤ clock →
    IsInTime clock (update_at n (memory_after_run tick reads queues) memories)
ran_in_time clock tick n reads queues [] all past = tt
ran_in_time clock tick zero reads queues (m ∷ memories) all past = (record { last_run = past; registers = all.0.registers }, all.1)
ran_in_time clock tick (suc n) reads queues (m ∷ memories) all past = (all.0, ran_in_time clock tick n reads queues memories all.1 past)

-- with other registers in a memory
pub kept_in_time : (clock n : ℕ) (registers : List ℤ) (memories : List Memory) → length registers ≡ register_count → IsInTime clock memories →
    IsInTime clock (update_at n (with_registers registers) memories)
kept_in_time clock n registers [] count all = tt
kept_in_time clock zero registers (m ∷ memories) count all = (record { last_run = all.0.last_run; registers = count }, all.1)
kept_in_time clock (suc n) registers (m ∷ memories) count all = (all.0, kept_in_time clock n registers memories count all.1)
