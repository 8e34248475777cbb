-- What a `Kept` owns, and how its world is told from others.
use Rattle.std.specs.Prelude.{Option, Some, None}
use Rattle.std.specs.Coded.{Coded, coded_option}
use base.Fml.{Fml, ftrue}
use denote.RawPtr.{Ptr}
use Rattle.std.specs.declared.alloc.Global.{Global}
use Rattle.std.specs.contracts.impls.GlobalAllocator.TheImpl.{ghosts}
use Rattle.std_alloc.specs.Box.Ownership.{box_owns}
use Rattle.live_world.specs.declared.live_world.LiveWorld.{LiveWorld}
use Rattle.live_world.specs.contracts.live_world.LiveWorld.{the_row}

-- nothing, or the box of a world, with the right to give its memory back
abbrev pub kept_at : Global → Ptr → Option LiveWorld → Fml
kept_at alloc at None = ftrue
kept_at alloc at (Some world) = box_owns (ghosts.dealloc_token alloc) the_row at world

-- the code of a world that is there or not
abbrev pub kept_code : Coded (Option LiveWorld)
kept_code = coded_option the_row.coded
