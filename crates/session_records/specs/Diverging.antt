-- Where two records of one file part.
use Rattle.std.specs.Prelude.{ℕ, ◌≡◌, List, [], ◌∷◌, ◌++◌, flat_map, length, map, Option}
use Rattle.findings.specs.Parting.{IsDifferenceOf, IsPartingBy}
use Rattle.findings.specs.Texts.{IsApartBy, place_line}
use Rattle.findings.specs.declared.diverging.Parting.{Parting}
use Rattle.findings.specs.declared.diverging.Parting.TheVariants as parting
use Rattle.findings.specs.declared.diverging.Place.{Place}
use Rattle.model.specs.shown.Outcome.{BodyMeaning}
use Rattle.program.specs.Setup.{meanings_of_scripts, script_means}
use Rattle.script.specs.declared.script_body.ScriptBody.{ScriptBody}
use Rattle.session.specs.Live.{Live, state_in}
use Rattle.session.specs.Records.{HasTakenAs, head_line, traces_in}
use Rattle.session.specs.declared.entry.Entry.{Entry as Read}
use Rattle.session_records.specs.Entries.{AreEntries}
use Rattle.session_records.specs.Texts.{IsRequestsText, agreement_line}
use Rattle.session_records.specs.declared.diverging.Retaker.{Retaker}

-- ---- entries that are taken again

-- an entry that was read was taken again, and replied as it was told
abbrev pub IsRetaken : List BodyMeaning → Live ScriptBody → Read → Live ScriptBody → Type 0
IsRetaken bodies old read new = (words : List ℕ) × HasTakenAs script_means bodies old new read words

-- so was each of these, one by one
abbrev pub AreRetaken : List BodyMeaning → Live ScriptBody → List Read → Live ScriptBody → Type 0
AreRetaken bodies old [] new = old ≡ new
AreRetaken bodies old (read ∷ reads) new = (mid : Live ScriptBody) × IsRetaken bodies old read mid × AreRetaken bodies mid reads new

abbrev pub AreAllRetaken : List BodyMeaning → Live ScriptBody → List Read → Type 0
AreAllRetaken bodies old reads = (last : Live ScriptBody) × AreRetaken bodies old reads last

-- ---- two records

-- the status: 0 where the worlds agree after each entry, and both records have as many
abbrev pub status_of : Parting → ℕ
status_of (parting.None count) = 0
status_of (parting.Longer count) = 1
status_of (parting.After entry world beside) = 1

-- what the bodies of one mean
abbrev pub meant : Retaker → List BodyMeaning
meant one = meanings_of_scripts one.session.engine.schedule one.bodies.items

-- these are the entries of a record, all of which were taken again
pub record AreRetakenOf (one : Retaker) (journal : List ℕ) (entries : List Read) : Type 0 where
  pub text : List ℕ
  pub rest : List ℕ
  pub headed : journal ≡ head_line one.session.file ++ text
  pub read : AreEntries text entries rest
  pub taken : AreAllRetaken (meant one) one.session entries

-- the text tells after which entry of two records the worlds differ first, whose requests differ first, in which step their runs differ first, and the lines in
-- which the worlds differ; and the status is that of the first. All entries of both were taken again
pub record IsDivergence (one other : Retaker) (journal beside : List ℕ) (status : ℕ) (text : List ℕ) : Type 0 where
  pub entries : List Read
  pub others : List Read
  pub taken : AreRetakenOf one journal entries
  pub taken_beside : AreRetakenOf other beside others
  pub parting : Parting
  pub parts : IsPartingBy (IsRetaken (meant one)) (IsRetaken (meant other)) state_in 0 one.session other.session entries others parting
  pub requests : List ℕ
  pub differ : IsRequestsText (map (λ read. read.line.now) entries) (map (λ read. read.line.now) others) requests
  pub place : Option Place
  pub steps : IsDifferenceOf (flat_map (λ read. traces_in read.deed) entries) (flat_map (λ read. traces_in read.deed) others) place
  pub lines : List ℕ
  pub apart : IsApartBy parting lines
  pub counted : status ≡ status_of parting
  pub told : text ≡ agreement_line parting (length entries) (length others) ++ requests ++ place_line place ++ lines
