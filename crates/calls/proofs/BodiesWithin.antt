-- What the bodies mean keeps within the parameters of their systems.
use Rattle.std.proofs.Common.{◌≡◌, ℕ, pos, Bool, true, false, cond, [], Option, Some, None, Result, Ok, Err}
use Rattle.std.specs.Ordering.{int_eq}
use Rattle.kinds.specs.Components.{widths}
use Rattle.model.specs.access.Access.{Params}
use Rattle.model.specs.shown.Input.{Shown}
use Rattle.model.specs.shown.Outcome.{Outcome, IsWithin, untouched}
use Rattle.body.specs.Keeps.{KeepsWithin}
use Rattle.body.specs.Seen.{Seen, with_resource}
use Rattle.body.proofs.Keeps.{IsWithin-untouched, IsWithin-with_resource, IsWithin-with_register, keeps_ok, keeps_untouched, keeps_refusing}
use Rattle.calls.specs.Bodies.{round, total, read_over, answered, tallied, refused_at_one}

-- a view with this outcome
abbrev view_of : Params → Shown → Outcome → Seen
view_of params shown o = record { params = params; shown = shown; outcome = o; opening = record { taken = []; tick = 0; places = [] } }

pub tallied_keeps : (params : Params) → KeepsWithin params (λ seen. Ok (tallied params seen))
tallied_keeps params = keeps_ok params (tallied params) (λ seen can.
    let first = view_of params seen (untouched params seen) in
    IsWithin-with_register (view_of params seen (with_resource first total _).outcome) 0 _ (IsWithin-with_resource first total _ (IsWithin-untouched params seen can.rows can.registers)))

pub answered_keeps : (params : Params) (refusal : Option ℕ) → KeepsWithin params (answered refusal params)
answered_keeps params None = keeps_untouched params
answered_keeps params (Some number) = keeps_refusing params number

pub refused_keeps : (params : Params) → KeepsWithin params (refused_at_one params)
unfolding KeepsWithin
refused_keeps params seen o can e = go (int_eq (read_over params seen (untouched params seen).res_mut round) (pos 1)) e
  where
    go : (b : Bool) → cond {A = Result Outcome ℕ} b (Err 7) (Ok (untouched params seen)) ≡ Ok o → IsWithin widths params seen o
    go true h = absurd (cc)
    go false h = keeps_untouched params seen o can h
