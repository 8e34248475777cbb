-- What a trace that was read from a reader says of the reader.
use Rattle.std.proofs.Common.{ℕ, ◌≡◌, List, Option, None, Some, IfSome, inl, inr, subst, sym}
use Rattle.std.specs.Prelude.{◌⊎◌}
use Rattle.model.specs.shown.Outcome.{BodyMeaning}
use Rattle.model.specs.state.State.{State}
use Rattle.model.specs.steps.Schedule.{Schedule}
use Rattle.program.specs.Refused.{IsTraceUnread, IsUnreplayed}
use Rattle.program.specs.declared.fault.Fault.{Fault}
use Rattle.program.specs.declared.fault.Fault.TheVariants.{TooLong, Content, Build, Script, TraceTooLong, TraceLine, TraceOrder, TraceLists, BadStep, UnfinishedRun, WrongAnswer, WrongSets, ClockSpent, IdsSpent, BodyRefused, File, Write, Memory, NoWorker}
use Rattle.std.specs.Prelude.{IfNone, Vec, map}
use Rattle.std.specs.declared.alloc.Global.{Global}
use Rattle.findings.specs.declared.loading.Loaded.{Loaded}
use Rattle.kinds.specs.declared.value.Value.{Value}
use Rattle.model.specs.state.Loaded.{loaded}
use Rattle.program.specs.Load.{entity_given}
use Rattle.ecsview.specs.Found.{meanings_of}
use Rattle.ecsview.specs.Traced.{IsReplayedOn}

-- of a reader of which nothing is known
unread_none : (text : List ℕ) (fault : Fault) → IsTraceUnread (Some text) fault → IsTraceUnread None fault
unread_none text TooLong h = h
unread_none text (Content f) h = h
unread_none text (Build f) h = h
unread_none text (Script cause system block instruction) h = h
unread_none text TraceTooLong h = tt
unread_none text (TraceLine line) h = (tt, tt)
unread_none text (TraceOrder line) h = (tt, tt)
unread_none text (TraceLists line) h = (tt, tt)
unread_none text (BadStep run step f) h = h
unread_none text (UnfinishedRun run) h = h
unread_none text (WrongAnswer run step) h = h
unread_none text (WrongSets run step) h = h
unread_none text ClockSpent h = h
unread_none text IdsSpent h = h
unread_none text BodyRefused h = h
unread_none text File h = tt
unread_none text Write h = h
unread_none text Memory h = tt
unread_none text NoWorker h = h

pub unreplayed_on : (s : Schedule) (bodies : List BodyMeaning) (start : State) (count : ℕ) (trace : Option (List ℕ)) (text : List ℕ) (fault : Fault) → IfSome trace (λ all. text ≡ all)
    → IsUnreplayed s bodies start count (Some text) fault → IsUnreplayed s bodies start count trace fault
unreplayed_on s bodies start count (Some all) text fault same h = subst (λ t. IsUnreplayed s bodies start count (Some t) fault) same h
unreplayed_on s bodies start count None text fault same (inl unread) = inl (unread_none text fault unread)
unreplayed_on s bodies start count None text fault same (inr (inl ungiven)) = inr (inl ungiven)
unreplayed_on s bodies start count None text fault same (inr (inr h)) = inr (inr (record { within = tt; runs = h.runs; fitting = h.fitting; read = tt; refused = h.refused }))

pub replayed_on : (s : Schedule) (bodies : List BodyMeaning) (start : State) (trace : Option (List ℕ)) (text : List ℕ) → IfSome trace (λ all. text ≡ all) → IsReplayedOn s bodies start (Some text) → IsReplayedOn s bodies start trace
replayed_on s bodies start (Some all) text same h = subst (λ t. IsReplayedOn s bodies start (Some t)) same h
replayed_on s bodies start None text same h =
    let told = h.1 in
    (h.0, record { within = tt; runs = told.runs; fitting = told.fitting; read = tt; final = told.final; replayed = told.replayed; same = told.same })

-- the entities are those of the file
pub replayed_as : (l : Loaded) (entities : List (Vec Value Global)) (trace : Option (List ℕ)) → entities ≡ l.file.entities.items
    → IsReplayedOn l.file.built (meanings_of l.file) (loaded l.file.built (map entity_given entities) l.file.resources) trace
    → IsReplayedOn l.file.built (meanings_of l.file) (loaded l.file.built (map entity_given l.file.entities.items) l.file.resources) trace
replayed_as l entities trace same h = subst (λ (es : List (Vec Value Global)). IsReplayedOn l.file.built (meanings_of l.file) (loaded l.file.built (map entity_given es) l.file.resources) trace) same h

pub if_none_weaker : {X P Q : Type 0} (o : Option X) → (P → Q) → IfNone o P → IfNone o Q
if_none_weaker None f h = f h
if_none_weaker (Some x) f h = tt

pub if_some_weaker : {X : Type 0} {P Q : X → Type 0} (o : Option X) → ((x : X) → P x → Q x) → IfSome o P → IfSome o Q
if_some_weaker None f h = tt
if_some_weaker (Some x) f h = f x h

-- none is there
pub none_says : {X P : Type 0} (o : Option X) → o ≡ None → IfNone o P → P
none_says None is h = h
none_says (Some x) is h = absurd (cc)
