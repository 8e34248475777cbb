-- One sync point less to draw.
use Rattle.std.proofs.Common.{◌≡◌, ℕ, zero, suc, ◌-◌, ◌<◌, ◌++◌, ap, arith}
use Rattle.schedule_drawing.specs.Drawn.{syncs_from}
use Rattle.schedule_drawing.specs.Marks.{sync_shapes}
use Rattle.schedule_drawing.specs.Places.{next_row}

pub syncs_next : (bottom k count : ℕ) → 0 < count → syncs_from bottom k count ≡ sync_shapes bottom k ++ syncs_from bottom (next_row k) (count - 1)
syncs_next bottom k zero h = absurd (omega arith)
syncs_next bottom k (suc count) h =
    let e : count ≡ suc count - 1 = omega arith in
    ap (λ n. sync_shapes bottom k ++ syncs_from bottom (next_row k) n) e
