-- What a body means keeps within the parameters of its system.
use Rattle.std.specs.Prelude.{◌≡◌, length, Ok}
use Rattle.std.specs.Option.{unwrap_or}
use Rattle.model.specs.state.State.{register_count}
use Rattle.model.specs.access.Access.{Params}
use Rattle.model.specs.shown.Input.{Shown}
use Rattle.model.specs.shown.Outcome.{Outcome, BodyMeaning, IsWithin}
use Rattle.kinds.specs.Components.{widths}
use Rattle.entity_table.specs.Ids.{AreApart}

-- what a system with these parameters can be shown: rows for each query, eight registers, and as many ids as it is granted at a start, none
-- twice
pub record CanBeShown (params : Params) (seen : Shown) : Type 0 where
  pub rows : length seen.rows ≡ length params.queries
  pub registers : length seen.registers ≡ register_count
  pub ids : length seen.granted ≡ unwrap_or params.spawns 0
  pub once : AreApart seen.granted

-- each outcome that it means keeps within these parameters, whatever a system with them can be shown
unfoldable pub KeepsWithin : Params → BodyMeaning → Type 0
KeepsWithin params meaning = (seen : Shown) (o : Outcome) → CanBeShown params seen → meaning seen ≡ Ok o → IsWithin widths params seen o
