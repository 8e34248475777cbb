-- What stands where a standard stream is closed.
use Rattle.std.specs.Prelude.{pos, ◌≤ℤ◌, Option, IfSome}
use Rattle.std.specs.Fd.{file_raw_fd}
use Rattle.std.specs.declared.fs.File.{File}

-- a file, if it is one, whose number is that of a standard stream: 0, 1 or 2
abbrev pub IsStandIn : Option File → Type 0
IsStandIn held = IfSome held (λ file. file_raw_fd file ≤ℤ pos 2)
