-- The entries of a record, as they are read.
use Rattle.std.specs.Prelude.{ℕ, ◌≡◌, List, [], ◌∷◌}
use Rattle.session.specs.Records.{IsReadEntry}
use Rattle.session.specs.declared.entry.Entry.{Entry as Read}

-- a text has these entries in front of what is left of it
abbrev pub AreEntries : List ℕ → List Read → List ℕ → Type 0
AreEntries text [] rest = text ≡ rest
AreEntries text (read ∷ reads) rest = (behind : List ℕ) × IsReadEntry text read behind × AreEntries behind reads rest
