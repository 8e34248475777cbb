-- The resources and the registers of a view.
use Rattle.std.specs.Prelude.{ℕ, ℤ, pos, ◌≡◌, true, List, length, get_or, map, replicate, Option, Some, None}
use Rattle.model.specs.Lists.{has}
use Rattle.model.specs.access.Access.{Params}
use Rattle.model.specs.shown.Input.{value_of}
use Rattle.model.specs.state.State.{Resource, resource_count, register_count}

-- the resources that are named, read and written, what each of them is shown as, what was written of these, and the registers, as they were
-- shown and now
pub record ValuesSeen : Type 0 where
  pub res : List ℕ
  pub res_mut : List ℕ
  pub res_shown : List ℤ
  pub res_mut_shown : List ℤ
  pub written : List (Option ℤ)
  pub registers_shown : List ℤ
  pub registers : List ℤ

-- the value of a resource, and what was written of it
abbrev pub value_at : List ℤ → ℕ → ℤ
value_at values number = get_or values number (pos 0)

abbrev pub written_at : List (Option ℤ) → ℕ → Option ℤ
written_at written number = get_or written number None

-- what is seen of values of all resources by number, and of what was written of them
abbrev pub values_over : Params → List ℤ → List (Option ℤ) → List ℤ → List ℤ → ValuesSeen
values_over params values written registers_shown registers = record {
  res = params.res;
  res_mut = params.res_mut;
  res_shown = map (value_at values) params.res;
  res_mut_shown = map (value_at values) params.res_mut;
  written = map (written_at written) params.res_mut;
  registers_shown = registers_shown;
  registers = registers;
}

-- all resources and registers are 0, and nothing is written
abbrev pub blank_values : Params → ValuesSeen
blank_values params = values_over params (replicate resource_count (pos 0)) (replicate resource_count None) (replicate register_count (pos 0)) (replicate register_count (pos 0))

-- what is written is written of resources that may be
pub record AreWritable (params : Params) (written : List (Option ℤ)) : Type 0 where
  pub count : length written ≡ resource_count
  pub each : (number : ℕ) (value : ℤ) → written_at written number ≡ Some value → has number params.res_mut ≡ true

-- with nothing written: what these resources and registers are shown as
abbrev pub first_values : Params → List Resource → List ℤ → ValuesSeen
first_values params resources registers = record {
  res = params.res;
  res_mut = params.res_mut;
  res_shown = map (value_of resources) params.res;
  res_mut_shown = map (value_of resources) params.res_mut;
  written = map (λ number. None) params.res_mut;
  registers_shown = registers;
  registers = registers;
}
