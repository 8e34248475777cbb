-- What a handle holds.
use Rattle.std.specs.Prelude.{Option}
use Rattle.libecs.specs.declared.handle.Handle.{Handle}
use Rattle.live_world.specs.declared.live_world.LiveWorld.{LiveWorld}

-- the world that is open in a handle
abbrev pub world_in : Handle → Option LiveWorld
world_in handle = handle.slot.kept
