-- The record of runs, one run after the other.
use Rattle.std.proofs.Common.{◌≡◌, ◌≤◌, ◌<◌, ℕ, ◌+◌, Bool, true, false, List, [], ◌∷◌, ◌++◌, length, Option, Some, None, IsSome, string_bytes, refl, sym, ap, ◌∙◌, subst, arith, length-append}
use Rattle.std.proofs.lemmas.Bool.{false≢true}
use Rattle.std.specs.declared.alloc.Global.{Global}
use Rattle.std.specs.declared.string.String.{String}
use Rattle.model.specs.shown.Outcome.{BodyMeaning}
use Rattle.model.specs.steps.Schedule.{Schedule, Recorded}
use Rattle.model.specs.state.State.{State}
use Rattle.trace_checker.specs.Grammar.{lines_text, run_lines, lines_from, trace_text}
use Rattle.trace_checker.proofs.Lines.{lines_append}
use Rattle.trace_checker.proofs.Adding.{lines_from_pushed}
use Rattle.program.specs.Recorded.{HaveKept, HaveRun, HaveNoted, IsKeptOf, IsRecordOf, IsRecordTooLong}
use Rattle.program.proofs.Times.{none-run, next-run}

-- the text of a run more
text-more : (rs : List Recorded) (r : Recorded) → trace_text (rs ++ r ∷ []) ≡ trace_text rs ++ lines_text (run_lines (length rs + 1) r)
text-more rs r =
    let count : 1 + length rs ≡ length rs + 1 = omega arith in
    ap lines_text (lines_from_pushed 1 rs r ∙ ap (λ k. lines_from 1 rs ++ run_lines k r) count) ∙ lines_append (lines_from 1 rs) (run_lines (length rs + 1) r)

-- the record of runs, with one more
length-more : (rs : List Recorded) (r : Recorded) → length (trace_text rs) ≤ length (trace_text (rs ++ r ∷ []))
length-more rs r =
    let more = ap length (text-more rs r) in
    omega (arith, more, length-append (trace_text rs) (lines_text (run_lines (length rs + 1) r)))

-- a record that is too long already
pub beyond-more : (rs : List Recorded) (r : Recorded) → 67108864 < length (trace_text rs) → 67108864 < length (trace_text (rs ++ r ∷ []))
beyond-more rs r beyond = omega (arith, beyond, length-more rs r)

-- a run more behind a record that was kept
module _ (rs : List Recorded) (number : ℕ) (r : Recorded) (old new : List ℕ) (many : length rs + 1 ≡ number) (kept : IsRecordOf rs old) (pushed : new ≡ old ++ lines_text (run_lines number r)) where
  record-more : new ≡ trace_text (rs ++ r ∷ [])
  record-more =
      pushed ∙ (ap (λ l. l ++ lines_text (run_lines number r)) kept.same
      ∙ (ap (λ k. trace_text rs ++ lines_text (run_lines k r)) (sym many) ∙ sym (text-more rs r)))

  -- it is kept
  pub kept-more : length new ≤ 67108864 → IsRecordOf (rs ++ r ∷ []) new
  kept-more within = record { same = record-more; within = within }

  -- or too long
  pub full-more : 67108864 < length new → 67108864 < length (trace_text (rs ++ r ∷ []))
  full-more beyond = subst (λ text. 67108864 < length text) record-more beyond

-- nothing is recorded yet
pub none-noted : (width : ℕ) (s : Schedule) (bodies : List BodyMeaning) (w : State) (recorded : Bool) (text : String Global) → string_bytes text ≡ []
    → HaveKept width s bodies w 0 recorded w (Some text)
none-noted width s bodies w recorded text none = record {
  traces = [];
  many = refl;
  runs = none-run width s bodies w;
  kept = λ asked. record { same = none; within = omega (arith, ap length none) };
  there = λ unasked. refl;
}

-- more runs of the same schedule with bodies that mean the same
pub next-noted : (width : ℕ) (s z : Schedule) (bodies others : List BodyMeaning) (w middle w' : State) (m n k : ℕ) (recorded : Bool) (old new : Option (String Global)) (gs : List Recorded)
    → z ≡ s → others ≡ bodies → length gs ≡ n → k ≡ m + n → HaveKept width s bodies w m recorded middle old → HaveRun width z others middle gs w'
    → ((hs : List Recorded) → length hs ≡ m → (recorded ≡ true → IsKeptOf hs old) → recorded ≡ true → IsKeptOf (hs ++ gs) new) → ((recorded ≡ true → ⊥) → IsSome new)
    → HaveKept width s bodies w k recorded w' new
next-noted width s z bodies others w middle w' m n k recorded old new gs same_schedule same_bodies count e noted more kept there = record {
  traces = noted.traces ++ gs;
  many = omega (arith, e, count, length-append noted.traces gs, noted.many);
  runs = next-run width s z bodies others w middle w' noted.traces gs same_schedule same_bodies noted.runs more;
  kept = kept noted.traces noted.many noted.kept;
  there = there;
}

-- all runs ended, and their record may be written
pub noted_all : (width : ℕ) (s : Schedule) (bodies : List BodyMeaning) (w w' : State) (k times : ℕ) (recorded : Bool) (text : String Global) → k ≡ times → HaveKept width s bodies w k recorded w' (Some text)
    → HaveNoted width s bodies w times recorded w' (string_bytes text)
noted_all width s bodies w w' k times recorded text all kept = record { traces = kept.traces; many = kept.many ∙ all; runs = kept.runs; kept = kept.kept }

-- or it is too long, as it is recorded
pub noted_long : (width : ℕ) (s : Schedule) (bodies : List BodyMeaning) (w w' : State) (k times : ℕ) (recorded : Bool) → k ≡ times → HaveKept width s bodies w k recorded w' None
    → (recorded ≡ true) × IsRecordTooLong width s bodies w times
noted_long width s bodies w w' k times true all kept = (refl, record { traces = kept.traces; many = kept.many ∙ all; final = w'; runs = kept.runs; beyond = kept.kept refl })
noted_long width s bodies w w' k times false all kept = absurd (false≢true (kept.there false≢true))
