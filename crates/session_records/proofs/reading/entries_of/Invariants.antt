use Rattle.std.proofs.Common.{◌≡◌, length}
use Rattle.session_records.specs.Entries.{AreEntries}
use Rattle.session_records.proofs.reading.entries_of.Given as goal

-- these entries were read, and the rest is left
abbrev pub invariant-loop-before : goal.invariant-loop-before
invariant-loop-before l = record {
  read : AreEntries l.text l.items.items l.rest;
  count : length l.items.items ≡ l.before;
}
