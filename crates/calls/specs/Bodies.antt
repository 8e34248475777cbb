-- What the bodies of the tests make of what they are shown, and for which parameters they may.
use Rattle.std.specs.Prelude.{ℕ, ℤ, pos, ◌+ℤ◌, ◌&&◌, Bool, true, cond, List, get_or, set, Option, Some, None, Result, Ok, Err}
use Rattle.std.specs.Ordering.{int_eq}
use Rattle.std.specs.Int.{saturate_signed}
use mir.Syntax.{w64}
use Rattle.model.specs.Lists.{has}
use Rattle.model.specs.access.Access.{Params, names_resource}
use Rattle.model.specs.shown.Input.{Shown}
use Rattle.model.specs.shown.Outcome.{Outcome, untouched}
use Rattle.body.specs.Seen.{value_read, with_value}
use Rattle.kinds.specs.Res.{res_number}
use Rattle.kinds.specs.declared.res.Res.TheVariants.{Round, Total, Step}

-- of what one refuses, what is added to, and what is added
abbrev pub round : ℕ
round = res_number Round

abbrev pub total : ℕ
total = res_number Total

abbrev pub step : ℕ
step = res_number Step

-- what a resource is read as where this was written
abbrev pub read_over : Params → Shown → List (Option ℤ) → ℕ → ℤ
read_over params shown written number = value_read params.res params.res_mut shown.res shown.res_mut written number

abbrev pub tallied_over : Params → Shown → Outcome → Outcome
tallied_over params shown o = record {
  cells = o.cells;
  res_mut = with_value params.res_mut total (saturate_signed w64 (read_over params shown o.res_mut total +ℤ read_over params shown o.res_mut step)) o.res_mut;
  events = o.events;
  commands = o.commands;
  registers = set o.registers 0 (saturate_signed w64 (get_or o.registers 0 (pos 0) +ℤ pos 1));
}

-- the outcome of one that adds the step to the total, and counts its runs in a register, over nothing written
abbrev pub tallied : Params → Shown → Outcome
tallied params shown = tallied_over params shown (untouched params shown)

-- the answer of one that writes nothing, or refuses with a number
abbrev pub answered : Option ℕ → Params → Shown → Result Outcome ℕ
answered None params shown = Ok (untouched params shown)
answered (Some number) params shown = Err number

-- the answer of one that refuses with 7 where the round is 1
abbrev pub refused_at_one : Params → Shown → Result Outcome ℕ
refused_at_one params shown = cond (int_eq (read_over params shown (untouched params shown).res_mut round) (pos 1)) (Err 7) (Ok (untouched params shown))

-- the parameters that they fit
abbrev pub may_always : Params → Bool
may_always params = true

abbrev pub may_refuse : Params → Bool
may_refuse params = names_resource params round

abbrev pub may_tally : Params → Bool
may_tally params = has total params.res_mut && names_resource params step
