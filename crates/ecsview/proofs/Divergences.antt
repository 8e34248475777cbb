-- Where two records of a file part.
use Rattle.std.proofs.Common.{◌≡◌, ℕ, List, length, Option, IfSome, subst, sym}
use Rattle.findings.specs.Parting.{AreAllReplayed, IsDifferenceOf, IsParting}
use Rattle.findings.specs.Refusals.{IsUnparted, IsUntold}
use Rattle.findings.specs.Texts.{IsPartingText}
use Rattle.findings.specs.declared.diverging.Parting.{Parting}
use Rattle.findings.specs.declared.diverging.Place.{Place}
use Rattle.model.specs.shown.Outcome.{BodyMeaning}
use Rattle.model.specs.state.State.{State}
use Rattle.model.specs.steps.Schedule.{Recorded}
use Rattle.program.specs.Setup.{meanings_of_scripts}
use Rattle.program.specs.declared.loading.Loaded.{Loaded}
use Rattle.script.specs.declared.script_body.ScriptBody.{ScriptBody}
use Rattle.trace_checker.specs.Grammar.{trace_text}
use Rattle.program.specs.declared.fault.Fault.{Fault}
use Rattle.ecsview.specs.Found.{IsDivergeText, first_of, meanings_of, parting_status}
use Rattle.ecsview.specs.Refusals.{IsUncompared, IsUnshown}

-- what is known of these scripts and of these states is known of the scripts of a file, and of the state with which its first run begins
pub on_file : (l : Loaded) (P : List BodyMeaning → State → State → Type 0) (bodies : List ScriptBody) (first second : State) → bodies ≡ l.bodies.items → first ≡ first_of l → second ≡ first_of l
    → P (meanings_of_scripts l.built bodies) first second → P (meanings_of l) (first_of l) (first_of l)
on_file l P bodies first second is_bodies is_first is_second h =
    subst (λ (start : State). P (meanings_of l) (first_of l) start) is_second
    (subst (λ (start : State). P (meanings_of l) start second) is_first
    (subst (λ (bs : List ScriptBody). P (meanings_of_scripts l.built bs) first second) is_bodies h))

-- what is told of the runs that were read
pub diverge_of : (l : Loaded) (trace other : Option (List ℕ)) (runs others shown beside : List Recorded) (p : Parting) (place : Option Place) (status count beside_count : ℕ) (text : List ℕ)
    → IfSome trace (λ bytes. bytes ≡ trace_text runs) → IfSome other (λ bytes. bytes ≡ trace_text others) → shown ≡ runs → beside ≡ others
    → AreAllReplayed l.built (meanings_of l) (first_of l) shown → AreAllReplayed l.built (meanings_of l) (first_of l) beside
    → IsParting l.built (meanings_of l) 0 (first_of l) (first_of l) shown beside p → IsDifferenceOf shown beside place → status ≡ parting_status p → count ≡ length shown → beside_count ≡ length beside
    → IsPartingText p place count beside_count text → IsDivergeText l trace other status text
diverge_of l trace other runs others shown beside p place status count beside_count text read read_other is_shown is_beside replayed replayed_other parts differs counted is_count is_beside_count told = record {
  runs = shown;
  others = beside;
  read = subst (λ (rs : List Recorded). IfSome trace (λ bytes. bytes ≡ trace_text rs)) (sym is_shown) read;
  read_other = subst (λ (rs : List Recorded). IfSome other (λ bytes. bytes ≡ trace_text rs)) (sym is_beside) read_other;
  replayed = replayed;
  replayed_other = replayed_other;
  parting = p;
  parts = parts;
  place = place;
  differs = differs;
  counted = counted;
  told = subst (λ n. IsPartingText p place n (length beside) text) is_count (subst (λ n. IsPartingText p place count n text) is_beside_count told);
}

-- the runs that were read are not compared
pub uncompared_of : (l : Loaded) (trace other : Option (List ℕ)) (runs others shown beside : List Recorded) (fault : Fault)
    → IfSome trace (λ bytes. bytes ≡ trace_text runs) → IfSome other (λ bytes. bytes ≡ trace_text others) → shown ≡ runs → beside ≡ others
    → IsUnparted l.built (meanings_of l) (first_of l) (first_of l) shown beside fault → IsUncompared l trace other fault
uncompared_of l trace other runs others shown beside fault read read_other is_shown is_beside refused = record {
  runs = shown;
  others = beside;
  read = subst (λ (rs : List Recorded). IfSome trace (λ bytes. bytes ≡ trace_text rs)) (sym is_shown) read;
  read_other = subst (λ (rs : List Recorded). IfSome other (λ bytes. bytes ≡ trace_text rs)) (sym is_beside) read_other;
  refused = refused;
}

-- their story is not told
pub unshown_of : (l : Loaded) (trace : Option (List ℕ)) (runs shown : List Recorded) (fault : Fault) → IfSome trace (λ bytes. bytes ≡ trace_text runs) → shown ≡ runs
    → IsUntold l.built (meanings_of l) (first_of l) shown fault → IsUnshown l trace fault
unshown_of l trace runs shown fault read is_shown refused = record {
  runs = shown;
  read = subst (λ (rs : List Recorded). IfSome trace (λ bytes. bytes ≡ trace_text rs)) (sym is_shown) read;
  refused = refused;
}
