-- What a text that is read so far can be the text of.
use Rattle.std.proofs.Common.{◌≡◌, ◌≢◌, ℕ, ◌*◌, ◌<◌, ◌≤◌, ◌+◌, Bool, true, false, List, [], ◌∷◌, ◌++◌, length, get_or, refl, sym, ap, subst, ◌∙◌, inl, inr, ◌⊎◌, arith}
use Rattle.std.specs.Prelude.{nat_eq}
use Rattle.std.proofs.lemmas.List.{append_assoc, append-nil, length-append}
use Rattle.std.proofs.lemmas.Bool.{false≢true}
use Rattle.std.specs.List.{AllByRecursion}
use Rattle.model.specs.declared.steps.Step.TheVariants.{Cond, Start, Skip, Finish, Sync}
use Rattle.model.specs.steps.Schedule.{Recorded}
use Rattle.parsing.specs.Reads.{SpellsNone}
use Rattle.trace_checker.specs.declared.line.Line.{Line}
use Rattle.trace_checker.specs.declared.line.Line.TheVariants.{Begin, Take, There}
use Rattle.trace_checker.specs.declared.read.Due.{Due}
use Rattle.trace_checker.specs.declared.read.Due.TheVariants.{Nothing, Opening, After}
use Rattle.trace_checker.specs.Grammar.{line_text, lines_text, lines_from, history_lines, trace_text, IsFitting, AreRecording, AreFitting, IsLineBefore}
use Rattle.trace_checker.specs.TextFaults.{is_listed, lines_so_far, begun_runs, is_due, is_told, is_misplaced, IsOutOfOrder, AreBegun, IsFront}
use Rattle.trace_checker.proofs.Lines.{line_lacks, same_cut, same_line, lines_first, lines_append}
use Rattle.trace_checker.proofs.Ends.{listed_behind}
use Rattle.trace_checker.proofs.Runs.{IsToldTo, told_runs, same_runs, in_order, in_place, none_due}

-- a line and its end are something
ends-somewhere : (a rest : List ℕ) → a ++ 10 ∷ rest ≡ [] → ⊥
ends-somewhere [] rest e = omega (arith, ap length e)
ends-somewhere (b ∷ a) rest e = omega (arith, ap length e)

-- and a line is
some_text : (line : Line) → 0 < length (line_text line)
some_text (Begin n) = omega arith
some_text (Take (Cond c answer)) = omega arith
some_text (Take (Start n)) = omega arith
some_text (Take (Skip n)) = omega arith
some_text (Take (Finish n)) = omega arith
some_text (Take (Sync k)) = omega arith
some_text (There ns) = omega arith

-- all of two lists
all_append : (a b : List Line) → AllByRecursion IsFitting a → AllByRecursion IsFitting b → AllByRecursion IsFitting (a ++ b)
all_append [] b h k = k
all_append (l ∷ a) b h k = (h.0, all_append a b h.1 k)

-- ---- whether a text tells kind sets is whether its runs record them

first-byte : (line : Line) (rest : List ℕ) → nat_eq (get_or (line_text line ++ rest) 0 0) 65 ≡ is_told line
first-byte (Begin n) rest = refl
first-byte (Take (Cond c answer)) rest = refl
first-byte (Take (Start n)) rest = refl
first-byte (Take (Skip n)) rest = refl
first-byte (Take (Finish n)) rest = refl
first-byte (Take (Sync k)) rest = refl
first-byte (There ns) rest = refl

-- behind the first line
first-told : (lists : Bool) (lines : List Line) → IsToldTo lists lists lines false → nat_eq (get_or (lines_text lines) 0 0) 65 ≡ lists
first-told lists [] told = sym told
first-told lists (Begin n ∷ lines) told = first-byte (Begin n) (10 ∷ lines_text lines) ∙ sym told.0
first-told lists (Take step ∷ lines) told = first-byte (Take step) (10 ∷ lines_text lines) ∙ sym told.0
first-told lists (There ns ∷ lines) told = sym told.0

told-text : (lists : Bool) (runs : List Recorded) → AreFitting runs → AreRecording lists runs → AreRecording (is_listed (trace_text runs)) runs
told-text lists [] fits alike = tt
told-text lists (run ∷ runs) fits alike =
    let told = told_runs lists 1 (run ∷ runs) alike in
    let rest = history_lines run.sets run.steps ++ lines_from 2 runs in
    let e : is_listed (trace_text (run ∷ runs)) ≡ lists = listed_behind (line_text (Begin 1)) (lines_text rest) (line_lacks (Begin 1) (fits.lines).0) ∙ first-told lists rest told.1 in
    subst (λ b. AreRecording b (run ∷ runs)) (sym e) alike

pub text_tells : (runs : List Recorded) → AreFitting runs → AreRecording (is_listed (trace_text runs)) runs
text_tells runs fits = told-text (fits.alike).0 runs fits (fits.alike).1

-- ---- what stands behind the lines that are read

-- the lines behind those that are read
record Behind (rest : List ℕ) (front : List Line) (others : List Recorded) : Type 0 where
  more : List Line
  lines : lines_from 1 others ≡ front ++ more
  text : rest ≡ lines_text more
  fitting : AllByRecursion IsFitting more

module _ (text rest : List ℕ) (runs : List Recorded) (due : Due) (front : IsFront text runs due rest) where
  behind-of : (others : List Recorded) → AreFitting others → text ≡ trace_text others → Behind rest (lines_so_far runs due) others
  behind-of others theirs e =
      let k = lines_first (lines_from 1 others) (lines_so_far runs due) rest theirs.lines front.fitting (sym e ∙ front.whole) in
      record { more = k.0; lines = k.1; text = k.2; fitting = k.3 }

  recording : (others : List Recorded) → AreFitting others → text ≡ trace_text others → AreRecording (is_listed text) others
  recording others theirs e = subst (λ t. AreRecording (is_listed t) others) (sym e) (text_tells others theirs)

  -- where no line is in front of the rest, it is that of no runs
  pub no_line : rest ≢ [] → SpellsNone IsLineBefore rest → (others : List Recorded) → AreFitting others → text ≡ trace_text others → ⊥
  no_line filled none others theirs e = let k = behind-of others theirs e in starts k.more k.text k.fitting where
    starts : (more : List Line) → rest ≡ lines_text more → AllByRecursion IsFitting more → ⊥
    starts [] f g = filled f
    starts (l ∷ more) f g = none (l, lines_text more) (g.0, f)

  -- the line in front of it is the next of any runs
  next-is : (line : Line) (behind : List ℕ) → IsLineBefore (line, behind) rest → (others : List Recorded) → AreFitting others → text ≡ trace_text others
      → (more : List Line) × (lines_from 1 others ≡ lines_so_far runs due ++ line ∷ more)
  next-is line behind here others theirs e = let k = behind-of others theirs e in starts k.more k.lines k.text k.fitting where
    starts : (more : List Line) → lines_from 1 others ≡ lines_so_far runs due ++ more → rest ≡ lines_text more → AllByRecursion IsFitting more
        → (after : List Line) × (lines_from 1 others ≡ lines_so_far runs due ++ line ∷ after)
    starts [] d f g = absurd (ends-somewhere (line_text line) behind (sym here.1 ∙ f))
    starts (l ∷ more) d f g =
        let cut = same_cut 10 (line_text l) (line_text line) (lines_text more) behind (line_lacks l g.0) (line_lacks line here.0) (sym f ∙ here.1) in
        let same : l ≡ line = same_line l line g.0 here.0 cut.0 in
        (more, d ∙ ap (λ x. lines_so_far runs due ++ x ∷ more) same)

  -- where a line out of order is in front of it, neither
  pub no_order : (line : Line) (behind : List ℕ) → IsLineBefore (line, behind) rest → IsOutOfOrder (begun_runs runs due) line → (others : List Recorded) → AreFitting others → text ≡ trace_text others → ⊥
  no_order line behind here out others theirs e =
      let k = next-is line behind here others theirs e in
      in_order (is_listed text) others runs due line k.0 (front.begun).waits k.1 out

  -- and where a misplaced one is
  pub no_place : (line : Line) (behind : List ℕ) → IsLineBefore (line, behind) rest → is_misplaced due line ≡ true → (others : List Recorded) → AreFitting others → text ≡ trace_text others → ⊥
  no_place line behind here wrong others theirs e =
      let k = next-is line behind here others theirs e in
      in_place (is_listed text) others runs due line k.0 (recording others theirs e) (front.begun).alike (front.begun).waits k.1 wrong

  -- where nothing follows, no more lines do
  ended : rest ≡ [] → (others : List Recorded) → AreFitting others → text ≡ trace_text others → lines_from 1 others ≡ lines_so_far runs due
  ended over others theirs e = let k = behind-of others theirs e in ends k.more k.lines k.text where
    ends : (more : List Line) → lines_from 1 others ≡ lines_so_far runs due ++ more → rest ≡ lines_text more → lines_from 1 others ≡ lines_so_far runs due
    ends [] d f = d ∙ append-nil (lines_so_far runs due)
    ends (l ∷ more) d f = absurd (ends-somewhere (line_text l) (lines_text more) (sym f ∙ over))

  -- so no kind sets are due
  pub no_end : rest ≡ [] → is_due due ≡ true → (others : List Recorded) → AreFitting others → text ≡ trace_text others → ⊥
  no_end over wants others theirs e =
      false≢true (sym (none_due (is_listed text) others runs due (recording others theirs e) (front.begun).alike (front.begun).waits (ended over others theirs e)) ∙ wants)

  -- and it is that of the runs that were read
  pub these_runs : rest ≡ [] → due ≡ Nothing → (others : List Recorded) → AreFitting others → text ≡ trace_text others → runs ≡ others
  these_runs over none others theirs e =
      same_runs 1 runs others (front.begun).listed theirs.listed
      (sym (append-nil (lines_from 1 runs)) ∙ (ap (lines_so_far runs) (sym none) ∙ sym (ended over others theirs e)))

  -- a line more
  module _ (line : Line) (behind : List ℕ) (here : IsLineBefore (line, behind) rest) (longer : List Recorded) (next : Due) (begun : AreBegun (is_listed text) longer next)
      (added : lines_so_far longer next ≡ lines_so_far runs due ++ line ∷ []) where
    pub still_front : IsFront text longer next behind
    still_front = record {
      whole = front.whole ∙ sym grown;
      fitting = subst (λ l. AllByRecursion IsFitting l) (sym added) (all_append (lines_so_far runs due) (line ∷ []) front.fitting (here.0, tt));
      begun = begun;
    } where
      grown : lines_text (lines_so_far longer next) ++ behind ≡ lines_text (lines_so_far runs due) ++ rest
      grown =
          ap (λ l. lines_text l ++ behind) added ∙ (ap (λ t. t ++ behind) (lines_append (lines_so_far runs due) (line ∷ []))
          ∙ (append_assoc (lines_text (lines_so_far runs due)) (lines_text (line ∷ [])) behind
          ∙ ap (λ t. lines_text (lines_so_far runs due) ++ t) (append_assoc (line_text line) (10 ∷ []) behind ∙ sym here.1)))

    pub still_counted : (n : ℕ) → n ≡ length (lines_so_far runs due) → n + 1 ≡ length (lines_so_far longer next)
    still_counted n e = omega (arith, e, ap length added, length-append (lines_so_far runs due) (line ∷ []))

  pub still_bound : (line : Line) (behind : List ℕ) → IsLineBefore (line, behind) rest → (n : ℕ) → 2 * n + length rest ≤ length text → 2 * (n + 1) + length behind ≤ length text
  still_bound line behind here n e = omega (arith, e, ap length here.1, length-append (line_text line) (10 ∷ behind), some_text line)

-- kind sets are due
pub due_by : {due : Due} → (due ≡ Opening) ⊎ ((k : ℕ) × (due ≡ After k)) → is_due due ≡ true
due_by (inl e) = ap is_due e
due_by (inr (k, e)) = ap is_due e
