-- What a command leaves that looks at records of sessions.
use Rattle.std.specs.Prelude.{ℕ, ◌≡◌, ⊤, List, Option, IfSome, string_bytes}
use Rattle.live_world.specs.Opened.{IsOpened}
use Rattle.program.specs.Hosted.{AreScriptsIn}
use Rattle.script.specs.declared.script_body.ScriptBody.{ScriptBody}
use Rattle.session.specs.Live.{Live}
use Rattle.session_records.specs.Diverging.{IsDivergence, meant}
use Rattle.session_records.specs.Stories.{IsRecordStory}
use Rattle.session_records.specs.Reported.{IsReported}
use Rattle.session_records.specs.declared.diverging.Retaker.{Retaker}
use Rattle.session_records.specs.declared.told.Told.{Told}
use Rattle.ecsview.specs.Ended.{IsEnded}
use Rattle.ecsview.specs.declared.recorded.RecordWork.{RecordWork}
use Rattle.ecsview.specs.declared.recorded.RecordWork.TheVariants.{Steps, Diverge}
use Rattle.ecsview.specs.declared.viewing.Shown.{Shown}

-- a session of a file with these bytes, as it is opened, and the scripts of the file
pub record HasOpened (bytes : List ℕ) (one : Retaker) : Type 0 where
  pub session : IsOpened bytes 0 one.session
  pub scripts : AreScriptsIn bytes one.bodies.items

-- the bytes that a reader has, where they are known
abbrev pub IsReadOf : Option (List ℕ) → List ℕ → Type 0
IsReadOf known bytes = IfSome known (λ all. bytes ≡ all)

-- the text is the story of a record, taken again from such a session
pub record IsStoryOf (file record_bytes : Option (List ℕ)) (asked : Option ℕ) (text : List ℕ) : Type 0 where
  pub bytes : List ℕ
  pub of_file : IsReadOf file bytes
  pub journal : List ℕ
  pub of_record : IsReadOf record_bytes journal
  pub one : Retaker
  pub opened : HasOpened bytes one
  pub last : Live ScriptBody
  pub story : IsRecordStory (meant one) asked one.session last journal text

-- the text tells where two records part, each taken again from such a session
pub record IsDivergenceOf (file record_bytes other : Option (List ℕ)) (status : ℕ) (text : List ℕ) : Type 0 where
  pub bytes : List ℕ
  pub of_file : IsReadOf file bytes
  pub journal : List ℕ
  pub of_record : IsReadOf record_bytes journal
  pub beside : List ℕ
  pub of_other : IsReadOf other beside
  pub one : Retaker
  pub two : Retaker
  pub opened : HasOpened bytes one
  pub opened_beside : HasOpened bytes two
  pub parted : IsDivergence one two journal beside status text

-- what some work answers
abbrev pub IsRecordAnswer : RecordWork → Option (List ℕ) → Option (List ℕ) → Option (List ℕ) → Shown → Type 0
IsRecordAnswer (Steps asked) file record_bytes other shown = (shown.status ≡ 0) × IsStoryOf file record_bytes asked (string_bytes shown.text)
IsRecordAnswer Diverge file record_bytes other shown = IsDivergenceOf file record_bytes other shown.status (string_bytes shown.text)

-- the text that the work answers was printed, whole or up to where the output failed, or the work is refused
abbrev pub IsRecordViewed : RecordWork → Option (List ℕ) → Option (List ℕ) → Option (List ℕ) → ℕ → (Option (List ℕ) × Option (List ℕ)) → (Option (List ℕ) × Option (List ℕ)) → Type 0
IsRecordViewed work file record_bytes other status out faults =
    IsEnded (IsRecordAnswer work file record_bytes other) (λ (why : Told). ⊤) IsReported status out faults
