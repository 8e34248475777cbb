-- None of those so far that writes meets another.
use Rattle.std.proofs.Common.{ℕ, true, ◌<◌, ◌≡◌, get_or}
use Rattle.access_set.specs.Footprints.{is_writing, no_kinds, MeetsBeside}
use Rattle.access_set.proofs.self_conflict.has_meeting_writer.Given as goal

abbrev pub invariant-loop-number : goal.invariant-loop-number
invariant-loop-number l = (n : ℕ) → n < l.number → is_writing (get_or l.footprints n no_kinds) ≡ true → MeetsBeside l.footprints n → ⊥
