-- Records that are taken again, entry by entry.
use Rattle.std.proofs.Common.{◌≡◌, ◌<◌, ℕ, ◌+◌, Bool, false, true, not, nat_eq, List, [], ◌∷◌, ◌++◌, length, take, drop, get_or, Option, arith, length-append, refl, sym, ap, ap₂, ◌∙◌, subst}
use lib.Pointwise.{pointwise}
use Rattle.std.specs.Cmp.Lexicographic.{same_text}
use Rattle.std.specs.Io.KnownBytes.{Appends}
use Rattle.std.proofs.lemmas.Bool.{false≢true}
use Rattle.std.proofs.KnownBytes.{Appends-nil, Appends-trans}
use Rattle.std.proofs.lemmas.Grind.{flat_map-append}
use Rattle.std.proofs.lemmas.List.{append_assoc, append-nil, take-append-drop}
use Rattle.model.specs.access.Access.{Params}
use Rattle.model.specs.shown.Outcome.{BodyMeaning}
use Rattle.model.specs.runs.Replays.{IsReplayed}
use Rattle.model.specs.sessions.Sessions.{AreReplayedRuns}
use Rattle.model.specs.state.State.{State}
use Rattle.model.specs.steps.Schedule.{Recorded, Schedule, recording}
use Rattle.model.proofs.lists.Turns.{seen_next}
use Rattle.engine.specs.EngineValue.{EngineValue}
use Rattle.engine.specs.Meanings.{AreFit, Suits}
use Rattle.requests.specs.Asked.{Asked, asked_of}
use Rattle.requests.specs.declared.load.Load.{Load}
use Rattle.trace_checker.specs.Grammar.{trace_text}
use Rattle.session.specs.Body.{ended}
use Rattle.session.specs.Entries as entries
use Rattle.session.specs.Live.{Live}
use Rattle.session.specs.Plays.{told_text}
use Rattle.session.specs.Records.{Act, AreTaken, Entry, HasRedone, HasTakenAs, HasTakenFirst, IsDoneAgain, IsReadAs, IsReadEntry, IsTaken, IsTakenAgain, IsTakenAs, entries_text, entry_text, head_line}
use Rattle.session.specs.Records.Act.{Does, Loads}
use Rattle.session.specs.Replies.{reply_text}
use Rattle.session.specs.Saved.{IsLoadAnswer}
use Rattle.session.specs.declared.entry.Deed.{Deed}
use Rattle.session.specs.declared.entry.Entry.{Entry as Read}
use Rattle.session.specs.declared.entry.Deed.TheVariants as deed
use Rattle.session.specs.declared.reply.Reply.{Reply}

-- texts that a test finds equal
yes : (b : Bool) → false ≡ not b → true ≡ b
yes true h = refl
yes false h = absurd (false≢true h)

pub told_same : (xs ys : List ℕ) → false ≡ not (pointwise nat_eq xs ys) → xs ≡ ys
told_same xs ys h = same_text xs ys (yes (pointwise nat_eq xs ys) h)

-- a text that is split has this front
pub split_behind : (n : ℕ) (text front rest head : List ℕ) → front ≡ take n text → rest ≡ drop n text → front ≡ head → text ≡ head ++ rest
split_behind n text front rest head is left same = sym (take-append-drop n text) ∙ ap₂ (λ (a b : List ℕ). a ++ b) (sym is ∙ same) (sym left)

-- what begins with a line is some bytes
pub some_entry : (line rest : List ℕ) (traces : List Recorded) (told : List ℕ) → entries.entry_text (ended line ++ rest) traces told ≡ (ended line ++ rest) ++ (trace_text traces ++ told)
some_entry [] rest traces told = refl
some_entry (b ∷ line) rest traces told = refl

-- the same of a line alone
pub line_entry : (line : List ℕ) (traces : List Recorded) (told : List ℕ) → entries.entry_text (ended line) traces told ≡ ended line ++ (trace_text traces ++ told)
line_entry [] traces told = refl
line_entry (b ∷ line) traces told = refl

-- a request is read with the traces behind it, and its reply
pub does_parted : (text line rest traces_text more told behind : List ℕ) (asked : Asked) (traces : List Recorded) → text ≡ ended line ++ rest → rest ≡ traces_text ++ more → traces_text ≡ trace_text traces → more ≡ told ++ behind →
    text ≡ entry_text (record { act = Does line asked traces; told = told }) ++ behind
does_parted text line rest traces_text more told behind asked traces is split spelled parted =
    is ∙ ap (λ t. ended line ++ t) (split ∙ ap₂ (λ (a b : List ℕ). a ++ b) spelled parted ∙ sym (append_assoc (trace_text traces) told behind)) ∙ sym (append_assoc (ended line) (trace_text traces ++ told) behind)
    ∙ ap (λ t. t ++ behind) (sym (line_entry line traces told))

-- and a request to load with its lines
pub loads_parted : (text line rest body more told behind : List ℕ) (load : Load) → text ≡ ended line ++ rest → rest ≡ body ++ more → more ≡ told ++ behind →
    text ≡ entry_text (record { act = Loads line load body; told = told }) ++ behind
loads_parted text line rest body more told behind load is split parted =
    is ∙ ap (λ t. ended line ++ t) (split ∙ ap (λ t. body ++ t) parted) ∙ sym (append_assoc (ended line) body (told ++ behind)) ∙ sym (append_assoc (ended line ++ body) told behind)
    ∙ ap (λ t. t ++ behind) (sym (some_entry line body [] told))

-- ---- runs

rerun_next : (s : Schedule) (bodies : List BodyMeaning) (start middle left : State) (runs : List Recorded) (r : Recorded) → AreReplayedRuns s bodies start runs middle → IsReplayed (recording s r.sets) bodies middle r.steps left →
    AreReplayedRuns s bodies start (runs ++ r ∷ []) left
rerun_next s bodies start middle left [] r ran next = (left, subst (λ w. IsReplayed (recording s r.sets) bodies w r.steps left) (sym ran) next, refl)
rerun_next s bodies start middle left (x ∷ runs) r ran next = (ran.0, ran.1, rerun_next s bodies ran.0 middle left runs r ran.2 next)

-- one run more is taken again, from the state that those before it leave
pub rerun_more : (s : Schedule) (bodies others : List BodyMeaning) (start middle left : State) (runs : List Recorded) (i : ℕ) (r : Recorded) → i < length runs → r ≡ get_or runs i r → others ≡ bodies → AreReplayedRuns s bodies start (take i runs) middle →
    IsReplayed (recording s r.sets) others middle r.steps left → AreReplayedRuns s bodies start (take (i + 1) runs) left
rerun_more s bodies others start middle left runs i r known at same ran next = subst (λ rs. AreReplayedRuns s bodies start rs left) (sym (seen_next runs i r known at))
    (rerun_next s bodies start middle left (take i runs) r ran (subst (λ bs. IsReplayed (recording s r.sets) bs middle r.steps left) same next))

-- an engine of these parts, which isn't spoiled
abbrev pub mended : {B : Type 0} → Schedule → List (Option B) → State → EngineValue B
mended s bodies state = record { schedule = s; bodies = bodies; state = state; spoiled = false }

-- bodies that fit suit a state whose memories are those of the schedule
pub suit : {B : Type 0} (fits : B → Params → Bool) (s : Schedule) (others bodies : List (Option B)) (state : State) → Suits fits s others state → AreFit fits s bodies → Suits fits s bodies state
suit fits s others bodies state suits are = record { body_count = are.body_count; memories = suits.memories; fit = are.fit }

-- ---- entries

-- an entry is no empty text
some_act : (act : Act) (told : List ℕ) → 0 < length (entry_text (record { act = act; told = told }))
some_act (Does [] asked traces) told = omega arith
some_act (Does (b ∷ line) asked traces) told = omega arith
some_act (Loads [] load text) told = omega arith
some_act (Loads (b ∷ line) load text) told = omega arith

-- so what stands behind one is shorter
pub shorter : (entry : Entry) (text behind : List ℕ) → text ≡ entry_text entry ++ behind → length behind < length text
shorter entry text behind same = let some = some_act entry.act entry.told in omega (arith, ap length same, length-append (entry_text entry) behind, some)

module _ {B : Type 0} (meaning : B → Params → BodyMeaning) where
  -- what was read was done again
  pub redone_as : (bodies : List BodyMeaning) (old new : Live B) (reply : Reply) (read : Deed) (act : Act) → IsReadAs read act → IsTakenAs meaning bodies old read reply new → IsDoneAgain meaning bodies old act reply new
  redone_as bodies old new reply (deed.Does request traces) (Does line asked runs) same h =
      subst (λ a. HasRedone meaning bodies old a runs reply new) same.0 (subst (λ rs. HasRedone meaning bodies old (asked_of request) rs reply new) same.1 h)
  redone_as bodies old new reply (deed.Loads loaded lines) (Loads line load text) same h =
      subst (λ (l : Load). IsLoadAnswer old l text reply new) same.0 (subst (λ t. IsLoadAnswer old loaded t reply new) same.1 h)
  redone_as bodies old new reply (deed.Does request traces) (Loads line load text) same h = absurd same
  redone_as bodies old new reply (deed.Loads loaded lines) (Does line asked runs) same h = absurd same

  -- the first entry of a text was read, and taken again
  pub first_taken : (bodies : List BodyMeaning) (old new : Live B) (text words behind : List ℕ) (read : Read) → IsReadEntry text read behind → HasTakenAs meaning bodies old new read words → HasTakenFirst meaning bodies old new text words behind
  first_taken bodies old new text words behind read is taken = record {
    entry = record { act = is.act; told = read.told.now };
    reply = taken.reply;
    spelled = is.parted;
    taken = record { spelled = is.spelled; redone = redone_as bodies old new taken.reply read.deed is.act is.is taken.taken; done = taken.done; told = taken.told };
    replied = taken.replied;
  }

  -- one more
  taken_more : (bodies : List BodyMeaning) (old mid new : Live B) (es : List Entry) (replies : List Reply) (entry : Entry) (reply : Reply) → AreTaken meaning bodies old es replies mid → IsTaken meaning bodies mid entry reply new →
      AreTaken meaning bodies old (es ++ entry ∷ []) (replies ++ reply ∷ []) new
  taken_more bodies old mid new [] [] entry reply taken is = (new, subst (λ (l : Live B). IsTaken meaning bodies l entry reply new) (sym taken) is, refl)
  taken_more bodies old mid new [] (r ∷ replies) entry reply taken is = absurd taken
  taken_more bodies old mid new (e ∷ es) [] entry reply taken is = absurd taken
  taken_more bodies old mid new (e ∷ es) (r ∷ replies) entry reply taken is = (taken.0, taken.1, taken_more bodies taken.0 mid new es replies entry reply taken.2 is)

  module _ (bodies : List BodyMeaning) (old : Live B) (record_text : List ℕ) (before : Option (List ℕ)) where
    -- nothing was taken yet
    pub taken_none : (rest : List ℕ) → record_text ≡ head_line old.file ++ rest → IsTakenAgain meaning bodies old old record_text rest before before
    taken_none rest head = record {
      entries = [];
      replies = [];
      taken = refl;
      spelled = head;
      told = Appends-nil before;
    }

    -- the first entry of what is left was
    pub taken_next : (others : List BodyMeaning) (mid new : Live B) (rest told behind : List ℕ) (middle after : Option (List ℕ)) → others ≡ bodies → IsTakenAgain meaning bodies old mid record_text rest before middle → HasTakenFirst meaning others mid new rest told behind →
        Appends middle after told → IsTakenAgain meaning bodies old new record_text behind before after
    taken_next others mid new rest told behind middle after same so_far first written = record {
      entries = so_far.entries ++ first.entry ∷ [];
      replies = so_far.replies ++ first.reply ∷ [];
      taken = taken_more bodies old mid new so_far.entries so_far.replies first.entry first.reply so_far.taken (subst (λ bs. IsTaken meaning bs mid first.entry first.reply new) same first.taken);
      spelled = so_far.spelled ∙ ap (λ t. head_line old.file ++ t) (ap (λ t. entries_text so_far.entries ++ t) first.spelled ∙ sym (append_assoc (entries_text so_far.entries) (entry_text first.entry) behind)
          ∙ ap (λ t. t ++ behind) (sym (flat_map-append entry_text so_far.entries (first.entry ∷ []) ∙ ap (λ t. entries_text so_far.entries ++ t) (append-nil (entry_text first.entry)))));
      told = subst (Appends before after) (sym (flat_map-append reply_text so_far.replies (first.reply ∷ []) ∙ ap (λ t. told_text so_far.replies ++ t) (append-nil (reply_text first.reply))))
          (Appends-trans before middle after (told_text so_far.replies) (reply_text first.reply) so_far.told (subst (Appends middle after) first.replied written));
    }
