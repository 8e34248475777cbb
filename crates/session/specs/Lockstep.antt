-- Lockstep: sessions of one schedule that agree, with room for however many running systems in each, reply the same to the same requests.
use Rattle.std.specs.Prelude.{ℕ, ◌≡◌, Bool, true, false, not, List, [], ◌∷◌, map}
use Rattle.std.specs.List.{AllByRecursion, list_any}
use Rattle.std.specs.Str.{IsUtf8}
use Rattle.model.specs.access.Access.{Params}
use Rattle.model.specs.access.Query.{is_filter}
use Rattle.model.specs.shown.Outcome.{BodyMeaning}
use Rattle.model.specs.state.Agreement.{Agrees}
use Rattle.model.specs.state.Shape.{BodiesKeepWithin, IsStateOf}
use Rattle.model.specs.state.State.{State}
use Rattle.model.specs.steps.Ambiguity.{Settled}
use Rattle.model.specs.steps.Built.{IsBuilt}
use Rattle.model.specs.steps.Schedule.{Schedule}
use Rattle.model.specs.sessions.Inputs.{KeepsAgreementIn}
use Rattle.kinds.specs.Components.{widths}
use Rattle.requests.specs.Asked.{Asked}
use Rattle.requests.specs.Asked.Asked.{Hello, Put, Query, Save}
use Rattle.requests.specs.Grammar.{IsRequest}
use Rattle.requests.specs.Widths.{AskedHasWidths}
use Rattle.session.specs.Answers.{IsAnswer}
use Rattle.session.specs.Live.{Live, is_lost, meant_in, state_in}
use Rattle.session.specs.Plays.{IsExchange, Plays, Sent}
use Rattle.session.specs.Plays.Sent.{Line, TooLong, Loads}
use Rattle.session.specs.Replies.{reply_text}
use Rattle.session.specs.declared.reply.Reply.{Reply}
use Rattle.session.specs.declared.reply.Reply.TheVariants.{Failed, Lost}

-- ---- sessions

-- a session is ready: its schedule is built, its bodies keep within their parameters, and its states, its own and those that it keeps, are of
-- the schedule. So is each that isn't lost
pub record IsReady {B : Type 0} (meaning : B → Params → BodyMeaning) (live : Live B) : Type 0 where
  pub built : IsBuilt live.engine.schedule
  pub within : BodiesKeepWithin widths live.engine.schedule (meant_in meaning live)
  pub state : IsStateOf widths live.engine.schedule (state_in live)
  pub kept : AllByRecursion (λ (mark : List ℕ × State). IsStateOf widths live.engine.schedule mark.1) live.marks

-- states that are kept under the same names in the same order, and agree one by one
abbrev pub MarksAgree : Schedule → List (List ℕ × State) → List (List ℕ × State) → Type 0
MarksAgree s [] [] = Unit {0}
MarksAgree s (mark ∷ marks) (other ∷ others) = (mark.0 ≡ other.0) × Agrees s mark.1 other.1 × MarksAgree s marks others
MarksAgree s _ _ = ⊥

-- two sessions, neither of them lost, are of one schedule, their bodies mean the same, and their states agree, and those that they keep
pub record AreAlike {B C : Type 0} (meaning : B → Params → BodyMeaning) (other_meaning : C → Params → BodyMeaning) (one : Live B) (other : Live C) : Type 0 where
  pub there : is_lost one ≡ false
  pub other_there : is_lost other ≡ false
  pub schedule : other.engine.schedule ≡ one.engine.schedule
  pub meant : meant_in other_meaning other ≡ meant_in meaning one
  pub states : Agrees one.engine.schedule (state_in one) (state_in other)
  pub marks : MarksAgree one.engine.schedule one.marks other.marks

-- two such sessions are in lockstep where both are ready
pub record AreInLockstep {B C : Type 0} (meaning : B → Params → BodyMeaning) (other_meaning : C → Params → BodyMeaning) (one : Live B) (other : Live C) : Type 0 where
  pub ready : IsReady meaning one
  pub other_ready : IsReady other_meaning other
  pub alike : AreAlike meaning other_meaning one other

-- ---- requests and replies

-- whether a request is replied the same where states agree. A greeting may name the workers, a whole state shows its stamps, and a query
-- with an `added` or `changed` term compares them
abbrev pub is_told_alike : Asked → Bool
is_told_alike Hello = false
is_told_alike Save = false
is_told_alike (Query since terms) = not (list_any is_filter terms)
is_told_alike _ = true

-- an input keeps agreement in a session, as it stands
abbrev pub KeepsLockstep : {B : Type 0} → Live B → Asked → Type 0
KeepsLockstep live (Put put) = KeepsAgreementIn live.engine.schedule put (state_in live)
KeepsLockstep live _ = Unit {0}

-- whether a reply is neither `error`, which comes where an allocation fails, nor `lost`, which comes where a run stops
abbrev pub is_undisturbed : Reply → Bool
is_undisturbed Failed = false
is_undisturbed (Lost fault) = false
is_undisturbed _ = true

-- ---- one request

-- in a settled schedule two sessions that are in lockstep reply the same to a request, and are in lockstep again, where neither is disturbed
abbrev pub OneReplyAgrees : {B C : Type 0} → (B → Params → BodyMeaning) → (C → Params → BodyMeaning) → Type 0
OneReplyAgrees {B} {C} meaning other_meaning = (scope other_scope : Bool) (width other_width : ℕ) (request : Asked)
    (one one' : Live B) (other other' : Live C) (reply other_reply : Reply) →
    Settled one.engine.schedule → AreInLockstep meaning other_meaning one other →
    is_told_alike request ≡ true → AskedHasWidths request → KeepsLockstep one request →
    is_undisturbed reply ≡ true → is_undisturbed other_reply ≡ true →
    IsAnswer meaning scope width one request reply one' → IsAnswer other_meaning other_scope other_width other request other_reply other' →
    (reply_text reply ≡ reply_text other_reply) × AreInLockstep meaning other_meaning one' other'

-- ---- requests

-- requests with their replies lead from one session to another
abbrev pub AreAnswers : {B : Type 0} → (B → Params → BodyMeaning) → Bool → ℕ → Live B → List Asked → List Reply → Live B → Type 0
AreAnswers meaning scope width old [] [] new = old ≡ new
AreAnswers {B} meaning scope width old (request ∷ requests) (reply ∷ replies) new =
    (mid : Live B) × IsAnswer meaning scope width old request reply mid × AreAnswers meaning scope width mid requests replies new
AreAnswers meaning scope width old _ _ new = ⊥

-- each input among them keeps agreement where it is put in
abbrev pub AllKeepLockstep : {B : Type 0} (meaning : B → Params → BodyMeaning) (scope : Bool) (width : ℕ) (old : Live B) (requests : List Asked) (replies : List Reply) (new : Live B) → AreAnswers meaning scope width old requests replies new → Type 0
AllKeepLockstep meaning scope width old (request ∷ requests) (reply ∷ replies) new are =
    KeepsLockstep old request × AllKeepLockstep meaning scope width are.0 requests replies new are.2
AllKeepLockstep meaning scope width old _ _ new are = Unit {0}

-- in a settled schedule two sessions that are in lockstep reply the same to the same requests, one by one, and are in lockstep in the end,
-- where neither is disturbed
abbrev pub RepliesAgree : {B C : Type 0} → (B → Params → BodyMeaning) → (C → Params → BodyMeaning) → Type 0
RepliesAgree {B} {C} meaning other_meaning = (scope other_scope : Bool) (width other_width : ℕ) (requests : List Asked)
    (one one' : Live B) (other other' : Live C) (replies other_replies : List Reply) →
    Settled one.engine.schedule → AreInLockstep meaning other_meaning one other →
    AllByRecursion (λ request. is_told_alike request ≡ true) requests → AllByRecursion AskedHasWidths requests →
    AllByRecursion (λ reply. is_undisturbed reply ≡ true) replies → AllByRecursion (λ reply. is_undisturbed reply ≡ true) other_replies →
    (are : AreAnswers meaning scope width one requests replies one') → AllKeepLockstep meaning scope width one requests replies one' are →
    AreAnswers other_meaning other_scope other_width other requests other_replies other' →
    (map reply_text replies ≡ map reply_text other_replies) × AreInLockstep meaning other_meaning one' other'

-- ---- lines

-- a line of text asks for nothing, or for what is told alike and keeps agreement in a session, as it stands
abbrev pub LineKeepsLockstep : {B : Type 0} → Live B → Sent → Type 0
LineKeepsLockstep live (Line line) = IsUtf8 line × ((asked : Asked) → IsRequest asked line → (is_told_alike asked ≡ true) × KeepsLockstep live asked)
LineKeepsLockstep live (TooLong line) = Unit {0}
LineKeepsLockstep live (Loads line text) = ⊥

-- each of these does where it is read
abbrev pub LinesKeepLockstep : {B : Type 0} (meaning : B → Params → BodyMeaning) (scope : Bool) (width : ℕ) (old : Live B) (lines : List Sent) (replies : List Reply) (new : Live B) → Plays meaning scope width old lines replies new → Type 0
LinesKeepLockstep meaning scope width old (line ∷ lines) (reply ∷ replies) new plays =
    LineKeepsLockstep old line × LinesKeepLockstep meaning scope width plays.0 lines replies new plays.2
LinesKeepLockstep meaning scope width old _ _ new plays = Unit {0}

-- two sessions that are in lockstep reply the same to a line, end by it or not, and are in lockstep again
abbrev pub OneLineAgrees : {B C : Type 0} → (B → Params → BodyMeaning) → (C → Params → BodyMeaning) → Type 0
OneLineAgrees {B} {C} meaning other_meaning = (scope other_scope : Bool) (width other_width : ℕ) (line : Sent)
    (one one' : Live B) (other other' : Live C) (reply other_reply : Reply) (last other_last : Bool) →
    Settled one.engine.schedule → AreInLockstep meaning other_meaning one other → LineKeepsLockstep one line →
    is_undisturbed reply ≡ true → is_undisturbed other_reply ≡ true →
    IsExchange meaning scope width one line reply last one' → IsExchange other_meaning other_scope other_width other line other_reply other_last other' →
    (reply_text reply ≡ reply_text other_reply) × (last ≡ other_last) × AreInLockstep meaning other_meaning one' other'

-- two sessions that are in lockstep reply the same to the same lines, one by one, and are in lockstep in the end
abbrev pub PlaysAgree : {B C : Type 0} → (B → Params → BodyMeaning) → (C → Params → BodyMeaning) → Type 0
PlaysAgree {B} {C} meaning other_meaning = (scope other_scope : Bool) (width other_width : ℕ) (lines : List Sent)
    (one one' : Live B) (other other' : Live C) (replies other_replies : List Reply) →
    Settled one.engine.schedule → AreInLockstep meaning other_meaning one other →
    AllByRecursion (λ reply. is_undisturbed reply ≡ true) replies → AllByRecursion (λ reply. is_undisturbed reply ≡ true) other_replies →
    (plays : Plays meaning scope width one lines replies one') → LinesKeepLockstep meaning scope width one lines replies one' plays →
    Plays other_meaning other_scope other_width other lines other_replies other' →
    (map reply_text replies ≡ map reply_text other_replies) × AreInLockstep meaning other_meaning one' other'
