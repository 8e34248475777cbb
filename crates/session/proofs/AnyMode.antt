-- The replies to requests that ask for no runs, in any mode.
use Rattle.std.proofs.Common.{◌≡◌, ℕ, Bool, true, false, List, [], subst, sym}
use Rattle.std.proofs.lemmas.Bool.{false≢true}
use Rattle.model.specs.access.Access.{Params}
use Rattle.model.specs.shown.Outcome.{BodyMeaning}
use Rattle.model.specs.steps.Schedule.{Recorded}
use Rattle.requests.specs.Asked.{Asked}
use Rattle.requests.specs.Asked.{Asked as asked}
use Rattle.session.specs.Answers.{IsAnswer, IsDone, IsLostBy}
use Rattle.session.specs.Entries.{AreRunsOf, is_run}
use Rattle.session.specs.Live.{Live}
use Rattle.session.specs.declared.reply.Reply.{Reply}
use Rattle.session.specs.declared.reply.Reply.TheVariants.{Done, Refused, Failed, Lost}

module _ {B : Type 0} (meaning : B → Params → BodyMeaning) (old new : Live B) where
  done_in : (width : ℕ) (request : Asked) (shown : List ℕ) → is_run request ≡ false → IsDone meaning 1 old request shown new → IsDone meaning width old request shown new
  done_in width (asked.Run times) shown still h = absurd (false≢true (sym still))
  done_in width asked.Hello shown still h = h
  done_in width (asked.Put put) shown still h = h
  done_in width asked.World shown still h = h
  done_in width (asked.Entity id) shown still h = h
  done_in width (asked.Query since terms) shown still h = h
  done_in width asked.Resources shown still h = h
  done_in width (asked.Events kind from) shown still h = h
  done_in width asked.Values shown still h = h
  done_in width asked.Save shown still h = h
  done_in width asked.Digest shown still h = h
  done_in width (asked.Mark name) shown still h = h
  done_in width (asked.Back name) shown still h = h
  done_in width (asked.Forget name) shown still h = h
  done_in width asked.Quit shown still h = h

  lost_in : (scope : Bool) (width : ℕ) (request : Asked) (reply : Reply) → is_run request ≡ false → IsAnswer meaning false 1 old request reply new → IsAnswer meaning scope width old request reply new
  lost_in scope width request (Done clock shown) still h = (h.0, done_in width request _ still h.1)
  lost_in scope width request (Refused why) still h = h
  lost_in scope width request Failed still h = h
  lost_in scope width (asked.Run times) (Lost fault) still h = absurd (false≢true (sym still))
  lost_in scope width asked.Hello (Lost fault) still h = h
  lost_in scope width (asked.Put put) (Lost fault) still h = h
  lost_in scope width asked.World (Lost fault) still h = h
  lost_in scope width (asked.Entity id) (Lost fault) still h = h
  lost_in scope width (asked.Query since terms) (Lost fault) still h = h
  lost_in scope width asked.Resources (Lost fault) still h = h
  lost_in scope width (asked.Events kind from) (Lost fault) still h = h
  lost_in scope width asked.Values (Lost fault) still h = h
  lost_in scope width asked.Save (Lost fault) still h = h
  lost_in scope width asked.Digest (Lost fault) still h = h
  lost_in scope width (asked.Mark name) (Lost fault) still h = h
  lost_in scope width (asked.Back name) (Lost fault) still h = h
  lost_in scope width (asked.Forget name) (Lost fault) still h = h
  lost_in scope width asked.Quit (Lost fault) still h = h

  -- what holds on one thread holds in any mode
  pub answer_in : (scope : Bool) (width : ℕ) (request : Asked) (reply told : Reply) → told ≡ reply → is_run request ≡ false → IsAnswer meaning false 1 old request reply new → IsAnswer meaning scope width old request told new
  answer_in scope width request reply told same still h = subst (λ (r : Reply). IsAnswer meaning scope width old request r new) (sym same) (lost_in scope width request reply still h)

  -- and nothing is run
  pub no_runs_of : (width : ℕ) (request : Asked) (reply : Reply) (traces : List Recorded) → is_run request ≡ false → traces ≡ [] → AreRunsOf meaning width old request reply traces new
  no_runs_of width (asked.Run times) reply traces still none = absurd (false≢true (sym still))
  no_runs_of width asked.Hello reply traces still none = none
  no_runs_of width (asked.Put put) reply traces still none = none
  no_runs_of width asked.World reply traces still none = none
  no_runs_of width (asked.Entity id) reply traces still none = none
  no_runs_of width (asked.Query since terms) reply traces still none = none
  no_runs_of width asked.Resources reply traces still none = none
  no_runs_of width (asked.Events kind from) reply traces still none = none
  no_runs_of width asked.Values reply traces still none = none
  no_runs_of width asked.Save reply traces still none = none
  no_runs_of width asked.Digest reply traces still none = none
  no_runs_of width (asked.Mark name) reply traces still none = none
  no_runs_of width (asked.Back name) reply traces still none = none
  no_runs_of width (asked.Forget name) reply traces still none = none
  no_runs_of width asked.Quit reply traces still none = none
