-- What is told of the pairs of a report, one more; and the text of a file.
use Rattle.std.proofs.Common.{◌≡◌, ◌<◌, ◌+◌, ℕ, zero, suc, List, [], ◌∷◌, ◌++◌, length, drop, get_or, map, Option, IfSome, ap, subst, ◌∙◌, arith}
use Rattle.ambiguity_report.specs.declared.report.Pair.{Pair}
use Rattle.findings.specs.Stories.{IsStory, count_text}
use Rattle.findings.specs.Texts.{pair_text}
use Rattle.findings.specs.Witness.{IsWitness}
use Rattle.findings.specs.declared.witness.Witness.{Witness}
use Rattle.model.specs.shown.Outcome.{BodyMeaning}
use Rattle.model.specs.state.State.{State}
use Rattle.model.specs.steps.Schedule.{Schedule, Recorded}
use Rattle.program.specs.Setup.{meanings_of_scripts}
use Rattle.program.specs.declared.loading.Loaded.{Loaded}
use Rattle.script.specs.declared.script_body.ScriptBody.{ScriptBody}
use Rattle.trace_checker.specs.Grammar.{trace_text}
use Rattle.ecsview.specs.Found.{AreRaces, IsFindingText, IsStepsText, first_of, meanings_of, races_line}

-- a pair that is told leads on to those behind it
races_from : (s : Schedule) (bodies : List BodyMeaning) (start : State) (number : ℕ) (names : List (List ℕ)) (pairs : List Pair) (i : ℕ) (d pair : Pair) (found : Option Witness) (more text later whole : List ℕ)
    → i < length pairs → pair ≡ get_or pairs i d → IfSome found (IsWitness s bodies start number pair) → IsFindingText names number pair found more → later ≡ text ++ pair_text names number pair ++ more
    → AreRaces s bodies start number names (drop (suc i) pairs) later whole → AreRaces s bodies start number names (drop i pairs) text whole
races_from s bodies start number names [] i d pair found more text later whole known at witness told is rest = absurd (omega arith)
races_from s bodies start number names (p ∷ pairs) zero d pair found more text later whole known at witness told is rest =
    let same : pair ≡ p = at in
    subst (λ (q : Pair). AreRaces s bodies start number names (q ∷ pairs) text whole) same (found, more, witness, told, subst (λ words. AreRaces s bodies start number names pairs words whole) is rest)
races_from s bodies start number names (p ∷ pairs) (suc i) d pair found more text later whole known at witness told is rest =
    races_from s bodies start number names pairs i d pair found more text later whole (omega arith) at witness told is rest

next : (i : ℕ) → i + 1 ≡ suc i
next i = omega arith

pub races_next : (s : Schedule) (bodies meant : List BodyMeaning) (start : State) (number : ℕ) (names : List (List ℕ)) (pairs : List Pair) (i : ℕ) (d pair : Pair) (found : Option Witness) (more text headed later whole : List ℕ)
    → i < length pairs → pair ≡ get_or pairs i d → meant ≡ bodies → IfSome found (IsWitness s meant start number pair) → IsFindingText names number pair found more → headed ≡ text ++ pair_text names number pair → later ≡ headed ++ more
    → AreRaces s bodies start number names (drop (i + 1) pairs) later whole → AreRaces s bodies start number names (drop i pairs) text whole
races_next s bodies meant start number names pairs i d pair found more text headed later whole known at means witness told head is rest =
    races_from s bodies start number names pairs i d pair found more text later whole known at (subst (λ (bs : List BodyMeaning). IfSome found (IsWitness s bs start number pair)) means witness) told
    (is ∙ ap (λ (words : List ℕ). words ++ more) head)
    (subst (λ n. AreRaces s bodies start number names (drop n pairs) later whole) (next i) rest)

-- what is told of these pairs, by these names and scripts, is told of those of a file
pub told_on_file : (l : Loaded) (number : ℕ) (start : State) (pairs shown : List Pair) (names : List (List ℕ)) (meant : List BodyMeaning) (text : List ℕ)
    → shown ≡ pairs → names ≡ map (λ name. name.now) l.names.items → meant ≡ meanings_of l → AreRaces l.built meant start number names shown (races_line (length shown)) text
    → AreRaces l.built (meanings_of l) start number (map (λ name. name.now) l.names.items) pairs (races_line (length pairs)) text
told_on_file l number start pairs shown names meant text is_shown is_names is_meant h =
    subst (λ (ms : List BodyMeaning). AreRaces l.built ms start number (map (λ name. name.now) l.names.items) pairs (races_line (length pairs)) text) is_meant
    (subst (λ (ns : List (List ℕ)). AreRaces l.built meant start number ns pairs (races_line (length pairs)) text) is_names
    (subst (λ (ps : List Pair). AreRaces l.built meant start number names ps (races_line (length ps)) text) is_shown h))

-- the story of the runs of a trace, on a file
pub steps_of : (l : Loaded) (trace : Option (List ℕ)) (asked : Option ℕ) (runs shown : List Recorded) (bodies : List ScriptBody) (start : State) (text : List ℕ) → IfSome trace (λ bytes. bytes ≡ trace_text runs) → shown ≡ runs
    → bodies ≡ l.bodies.items → start ≡ first_of l → IsStory l.built (meanings_of_scripts l.built bodies) asked 0 start shown (count_text (length shown)) text → IsStepsText l trace asked text
steps_of l trace asked runs shown bodies start text read is_shown is_bodies is_start story = record {
  runs = runs;
  read = read;
  story =
      subst (λ (rs : List Recorded). IsStory l.built (meanings_of_scripts l.built l.bodies.items) asked 0 (first_of l) rs (count_text (length rs)) text) is_shown
      (subst (λ (first : State). IsStory l.built (meanings_of_scripts l.built l.bodies.items) asked 0 first shown (count_text (length shown)) text) is_start
      (subst (λ (bs : List ScriptBody). IsStory l.built (meanings_of_scripts l.built bs) asked 0 start shown (count_text (length shown)) text) is_bodies story));
}
