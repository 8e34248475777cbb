-- The texts of replies.
use Rattle.std.specs.Prelude.{ℕ, Bool, cond, ◌==◌, List, [], ◌∷◌, ◌++◌, length, filter, string_bytes, codes}
use Rattle.std.specs.Fmt.{decimal}
use Rattle.model.specs.declared.entities.Entity.{Entity}
use Rattle.engine.specs.declared.faults.RunFault.{RunFault}
use Rattle.engine.specs.declared.faults.RunFault.TheVariants as run
use Rattle.session.specs.declared.reply.Refusal.{Refusal}
use Rattle.session.specs.declared.reply.Refusal.TheVariants as refusal
use Rattle.session.specs.declared.reply.Shown.{Shown}
use Rattle.session.specs.declared.reply.Shown.TheVariants.{Nothing, Id, Changed, Lines}
use Rattle.session.specs.declared.reply.Reply.{Reply}
use Rattle.session.specs.declared.reply.Reply.TheVariants.{Done, Refused, Failed, Lost}

-- the code of a refusal, and the line that it names
abbrev pub refusal_code : Refusal → List ℕ
refusal_code refusal.Lost = codes "R1"
refusal_code refusal.ClockSpent = codes "E2"
refusal_code refusal.IdsSpent = codes "E3"
refusal_code refusal.NoMark = codes "M1"
refusal_code refusal.ManyMarks = codes "M2"
refusal_code refusal.Unknown = codes "Q1"
refusal_code refusal.TooLong = codes "Q2"
refusal_code refusal.Query = codes "Q3"
refusal_code (refusal.Outside line) = codes "T1 " ++ decimal line
refusal_code (refusal.NoState line) = codes "T2 " ++ decimal line
refusal_code refusal.LongText = codes "T3"
refusal_code refusal.OtherMemories = codes "T4"
refusal_code refusal.OtherFile = codes "T5"

-- the code of why a run failed
abbrev pub loss_code : RunFault → List ℕ
loss_code run.Memory = codes "memory"
loss_code run.ClockSpent = codes "E2"
loss_code run.IdsSpent = codes "E3"
loss_code run.Spoiled = codes "R1"
loss_code run.NoWorker = codes "worker"
loss_code (run.BodyFault n) = codes "E6"

-- the line of an id
abbrev pub id_line : Entity → List ℕ
id_line e = (decimal e.index ++ (118 ∷ decimal e.generation)) ++ 10 ∷ []

-- the line of an input that changed an entity, or was passed over
abbrev pub changed_line : Bool → List ℕ
changed_line changed = cond changed (codes "done\n") (codes "passed\n")

-- the lines that a request shows
abbrev pub shown_text : Shown → List ℕ
shown_text Nothing = []
shown_text (Id e) = id_line e
shown_text (Changed changed) = changed_line changed
shown_text (Lines text) = string_bytes text

-- how many lines a text has
abbrev pub lines_in : List ℕ → ℕ
lines_in text = length (filter (λ byte. byte == 10) text)

-- how many lines a request shows
abbrev pub line_count : Shown → ℕ
line_count Nothing = 0
line_count (Id e) = 1
line_count (Changed changed) = 1
line_count (Lines text) = lines_in (string_bytes text)

-- a reply as it is sent
abbrev pub reply_text : Reply → List ℕ
reply_text (Done clock shown) = codes "ok " ++ decimal (line_count shown) ++ (32 ∷ decimal clock) ++ (10 ∷ shown_text shown)
reply_text (Refused why) = codes "refused " ++ refusal_code why ++ 10 ∷ []
reply_text Failed = codes "error memory\n"
reply_text (Lost fault) = codes "lost " ++ loss_code fault ++ 10 ∷ []
