use Rattle.std.proofs.Common.{◌≡◌, map}
use Rattle.kinds.specs.Res.{res_name}
use Rattle.program_file.proofs.keys.resources_at.Given as goal

-- the resources so far, by their names
abbrev pub invariant-loop-name : goal.invariant-loop-name
invariant-loop-name l = map res_name l.resources.items ≡ map (λ name. name.now) l.yielded
