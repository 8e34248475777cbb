-- The text with which a state leaves a session, and comes back: a line that names the program file by its digest, and the text of the state.
use Rattle.std.specs.Prelude.{ℕ, ◌≡◌, ◌≢◌, ◌≤◌, ◌+◌, ◌-◌, ◌^◌, min, ◌⊎◌, Bool, false, List, [], ◌∷◌, ◌++◌, length, codes, Result, Ok, Err}
use Rattle.std.specs.List.{AllByRecursion}
use Rattle.hex.specs.Hex.{encode_lower}
use Rattle.model.specs.state.State.{State}
use Rattle.engine.specs.EngineValue.{mended_with}
use Rattle.engine.specs.Meanings.{LacksMemories}
use Rattle.requests.specs.declared.load.Load.{Load}
use Rattle.std.specs.Str.{IsUtf8}
use Rattle.state_text.specs.Reading.{IsOfNoState}
use Rattle.state_text.specs.StateText.{state_text}
use Rattle.state_text.specs.declared.reading.fault.StateFault.{StateFault}
use Rattle.state_text.specs.declared.reading.fault.StateFault.TheVariants as state
use Rattle.session.specs.Live.{Live, clock_in, with_engine}
use Rattle.session.specs.Replies.{shown_text}
use Rattle.session.specs.declared.saving.LoadFault.{LoadFault}
use Rattle.session.specs.declared.saving.LoadFault.TheVariants as load
use Rattle.session.specs.declared.reply.Refusal.{Refusal}
use Rattle.session.specs.declared.reply.Refusal.TheVariants as refusal
use Rattle.session.specs.declared.reply.Reply.{Reply}
use Rattle.session.specs.declared.reply.Reply.TheVariants.{Done, Refused, Failed}

-- ---- the text

-- a lower-case hex digit, and the digits of a digest
abbrev pub IsDigit : ℕ → Type 0
IsDigit byte = ((48 ≤ byte) × (byte ≤ 57)) ⊎ ((97 ≤ byte) × (byte ≤ 102))

abbrev pub AreDigits : List ℕ → Type 0
AreDigits text = (length text ≡ 64) × AllByRecursion IsDigit text

-- lines behind the line of a file
abbrev pub behind_file : List ℕ → List ℕ → List ℕ
behind_file digits lines = codes "file " ++ digits ++ (10 ∷ lines)

-- the text of a state of the file with this digest
abbrev pub saved_text : List ℕ → State → List ℕ
saved_text file state = behind_file (encode_lower file) (state_text state)

-- the first line names a file by these digits, and these are the lines behind it
abbrev pub IsHead : List ℕ × List ℕ → List ℕ → Type 0
IsHead head text = AreDigits head.0 × (text ≡ behind_file head.0 head.1)

-- ---- what it is read as

-- a text is that of this state: of the file with this digest, or of any if any will do
pub record IsSavedAs (file : List ℕ) (anyway : Bool) (text : List ℕ) (state : State) : Type 0 where
  pub digits : List ℕ
  pub are : AreDigits digits
  pub spelled : text ≡ behind_file digits (state_text state)
  pub same : anyway ≡ false → digits ≡ encode_lower file

-- a text is of another file, and only this one will do
pub record IsOfOther (file : List ℕ) (anyway : Bool) (text : List ℕ) : Type 0 where
  pub only : anyway ≡ false
  pub digits : List ℕ
  pub lines : List ℕ
  pub head : IsHead (digits, lines) text
  pub other : digits ≢ encode_lower file

-- a text names no file, or what stands behind it is the text of no state. So is what is no UTF-8, as states are written in ASCII
abbrev pub IsOfNone : List ℕ → Type 0
IsOfNone text = IsUtf8 text → (digits lines : List ℕ) → IsHead (digits, lines) text → IsOfNoState lines

-- why a text is that of no state
abbrev pub IsUnsaved : List ℕ → Bool → List ℕ → Refusal → Type 0
IsUnsaved file anyway text refusal.OtherFile = IsOfOther file anyway text
IsUnsaved file anyway text (refusal.Outside line) = IsOfNone text
IsUnsaved file anyway text (refusal.NoState line) = IsOfNone text
IsUnsaved file anyway text _ = ⊥

-- what a text is read as. An allocation may fail at any time
abbrev pub IsReadAs : List ℕ → Bool → List ℕ → Result State LoadFault → Type 0
IsReadAs file anyway text (Ok state) = IsSavedAs file anyway text state
IsReadAs file anyway text (Err (load.Refused why)) = IsUnsaved file anyway text why
IsReadAs file anyway text (Err load.Memory) = Unit {0}

-- a fault of a text of a state, behind the line of the file
abbrev pub fault_of_state : StateFault → LoadFault
fault_of_state (state.Outside line) = load.Refused (refusal.Outside (min (line + 1) (2 ^ 64 - 1)))
fault_of_state (state.NoState line) = load.Refused (refusal.NoState (min (line + 1) (2 ^ 64 - 1)))
fault_of_state state.Memory = load.Memory

-- ---- the reply

-- a state is set, also where the one before was lost; or it hasn't the memories of the schedule
abbrev pub IsSet : {B : Type 0} → Live B → State → Reply → Live B → Type 0
IsSet old state (Done clock shown) new =
    (clock ≡ clock_in new) × (shown_text shown ≡ []) × (LacksMemories old.engine.schedule state → ⊥) × (new ≡ with_engine (mended_with state old.engine) old)
IsSet old state (Refused refusal.OtherMemories) new = (new ≡ old) × LacksMemories old.engine.schedule state
IsSet old state Failed new = new ≡ old
IsSet old state _ new = ⊥

-- what is replied to a `load` and the text that follows it, and what it leaves: its state is set, or it has none. An allocation may fail at any
-- time, and nothing has changed then
abbrev pub IsLoadAnswer : {B : Type 0} → Live B → Load → List ℕ → Reply → Live B → Type 0
IsLoadAnswer old load text Failed new = new ≡ old
IsLoadAnswer old load text reply new =
    ((state : State) × IsSavedAs old.file load.anyway text state × IsSet old state reply new)
    ⊎ ((why : Refusal) × (reply ≡ Refused why) × IsUnsaved old.file load.anyway text why × (new ≡ old))
