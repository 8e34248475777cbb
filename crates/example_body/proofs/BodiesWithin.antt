-- What the body makes of what it is shown keeps within the parameters of its system.
use Rattle.std.proofs.Common.{◌≡◌, ℕ, zero, suc, ◌+◌, ◌≤◌, [], length, Ok, refl, ap, ◌∙◌, subst, arith}
use Rattle.model.specs.state.State.{register_count}
use Rattle.model.specs.access.Access.{Params}
use Rattle.model.specs.shown.Input.{Shown}
use Rattle.model.specs.shown.Outcome.{IsWithin, untouched}
use Rattle.kinds.specs.Components.{widths}
use Rattle.body.specs.Keeps.{KeepsWithin}
use Rattle.body.specs.Seen.{Seen, rows_at, read_at}
use Rattle.body.proofs.Keeps.{IsWithin-untouched, IsWithin-with_written, keeps_ok}
use Rattle.example_body.specs.Drift.{position, velocity, moved, drifted}
use Rattle.example_body.proofs.Rows.{moved_to, step, began, ended}

-- so where so many rows have moved
IsWithin-moved_to : (params : Params) (seen : Shown) (n : ℕ) → n ≤ length (rows_at seen 0) → length seen.rows ≡ length params.queries → length seen.registers ≡ register_count → IsWithin widths params seen (moved_to params seen (untouched params seen) n)
IsWithin-moved_to params seen zero l h r = subst (IsWithin widths params seen) (began params seen (untouched params seen) refl) (IsWithin-untouched params seen h r)
IsWithin-moved_to params seen (suc n) l h r =
    let view : Seen = record { params = params; shown = seen; outcome = moved_to params seen (untouched params seen) n; opening = record { taken = []; tick = 0; places = [] } } in
    subst (IsWithin widths params seen) (step params seen (untouched params seen) n (omega arith) ∙ ap (moved_to params seen (untouched params seen)) (let e : n + 1 ≡ suc n = omega arith in e))
    (IsWithin-with_written view 0 n position (moved (read_at view 0 n position) (read_at view 0 n velocity)) refl (IsWithin-moved_to params seen n (omega arith) h r))

pub drifted_keeps : (params : Params) → KeepsWithin params (λ seen. Ok (drifted params seen))
drifted_keeps params = keeps_ok params (drifted params) (λ seen can.
    subst (IsWithin widths params seen) (ended params seen (untouched params seen) (length (rows_at seen 0)) (omega arith) refl) (IsWithin-moved_to params seen (length (rows_at seen 0)) (omega arith) can.rows can.registers))
