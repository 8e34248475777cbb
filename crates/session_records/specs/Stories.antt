-- A record as a story: its entries one after the other, and the worlds of what they ran.
use Rattle.std.specs.Prelude.{ℕ, ◌≡◌, ◌+◌, ◌-◌, ◌&&◌, max, not, nat_lt, Bool, true, cond, List, [], ◌∷◌, ◌++◌, codes, length, Option, Some, None, string_bytes}
use Rattle.std.specs.Fmt.{decimal}
use Rattle.findings.specs.Stories.{IsStory}
use Rattle.findings.specs.declared.stories.Story.{Story}
use Rattle.model.specs.shown.Outcome.{BodyMeaning}
use Rattle.program.specs.Setup.{script_means}
use Rattle.script.specs.declared.script_body.ScriptBody.{ScriptBody}
use Rattle.session.specs.Live.{Live, state_in}
use Rattle.session.specs.Records.{Entry, HasTakenAs, IsTaken, entries_text, head_line, line_of, traces_in, traces_of}
use Rattle.session.specs.declared.entry.Entry.{Entry as Read}
use Rattle.session.specs.declared.reply.Reply.{Reply}

-- ---- lines

-- whether an entry is shown that stands behind so many runs, and has this many: all where no run is named, else the one of the run, and those behind the
-- run before it
abbrev pub is_shown : Option ℕ → ℕ → ℕ → Bool
is_shown None before count = true
is_shown (Some run) before count = nat_lt before run && not (nat_lt (max count 1) (run - before))

-- the line of an entry, by its number
abbrev pub entry_line : ℕ → List ℕ → List ℕ
entry_line number line = codes "== entry " ++ (decimal number ++ (32 ∷ line ++ 10 ∷ []))

-- the same where it is shown
abbrev pub shown_line : Bool → ℕ → List ℕ → List ℕ
shown_line shown number line = cond shown (entry_line number line) []

-- the first line of a story, by the count of its entries and of their runs
abbrev pub first_line : ℕ → ℕ → List ℕ
first_line entries runs = codes "entries " ++ (decimal entries ++ (codes ", runs " ++ (decimal runs ++ 10 ∷ [])))

-- the last line of one where something of the record is left
abbrev pub cut_line : ℕ → List ℕ → List ℕ
cut_line entries [] = []
cut_line entries (byte ∷ bytes) = codes "== entry " ++ (decimal (entries + 1) ++ (codes " is cut short" ++ 10 ∷ []))

-- ---- entries

-- an entry, behind so many others and so many runs, was taken again, and adds its line and the worlds of its runs to a text
pub record IsToldEntry (bodies : List BodyMeaning) (asked : Option ℕ) (before runs : ℕ) (old : Live ScriptBody) (entry : Entry) (text more : List ℕ) (new : Live ScriptBody) : Type 0 where
  pub reply : Reply
  pub taken : IsTaken script_means bodies old entry reply new
  pub story : IsStory old.engine.schedule bodies asked runs (state_in old) (traces_of entry.act)
      (text ++ shown_line (is_shown asked runs (length (traces_of entry.act))) (before + 1) (line_of entry.act)) more

-- entries were taken again one by one, behind so many and so many runs, and told behind a text: this is the whole text then, and so many runs were told of
abbrev pub AreTold : List BodyMeaning → Option ℕ → ℕ → ℕ → Live ScriptBody → List Entry → List ℕ → List ℕ → ℕ → Live ScriptBody → Type 0
AreTold bodies asked before runs old [] text whole count new = (text ≡ whole) × (runs ≡ count) × (old ≡ new)
AreTold bodies asked before runs old (entry ∷ entries) text whole count new =
    (mid : Live ScriptBody) × (more : List ℕ) × IsToldEntry bodies asked before runs old entry text more mid
    × AreTold bodies asked (before + 1) (runs + length (traces_of entry.act)) mid entries more whole count new

-- what was read of an entry was taken again, and a story went on with it
pub record HasToldEntry (bodies : List BodyMeaning) (old new : Live ScriptBody) (read : Read) (before : ℕ) (begun told : Story) : Type 0 where
  pub words : List ℕ
  pub taken : HasTakenAs script_means bodies old new read words
  pub goes_on : IsStory old.engine.schedule bodies begun.asked begun.runs (state_in old) (traces_in read.deed)
      (string_bytes begun.text ++ shown_line (is_shown begun.asked begun.runs (length (traces_in read.deed))) (before + 1) read.line.now) (string_bytes told.text)
  pub runs : told.runs ≡ begun.runs + length (traces_in read.deed)
  pub asked : told.asked ≡ begun.asked

-- ---- a whole record

-- the entries of a record were taken again, what is left behind them is cut short if it is anything, and the text is their story
pub record IsRecordStory (bodies : List BodyMeaning) (asked : Option ℕ) (old new : Live ScriptBody) (journal text : List ℕ) : Type 0 where
  pub entries : List Entry
  pub rest : List ℕ
  pub spelled : journal ≡ head_line old.file ++ (entries_text entries ++ rest)
  pub body : List ℕ
  pub count : ℕ
  pub told : AreTold bodies asked 0 0 old entries [] body count new
  pub whole : text ≡ first_line (length entries) count ++ body ++ cut_line (length entries) rest
