-- Places: what was done, and the run state that it left. In a settled schedule all ends that are reached from alike places are
-- alike.
use Rattle.std.proofs.Common.{ℕ, Bool, true, false, ◌||◌, ◌≡◌, ◌⊎◌, inl, inr, List, refl, sym, ap, ◌∙◌, subst, subst₂}
use Rattle.model.specs.declared.steps.Step.{Step}
use Rattle.model.specs.declared.steps.Step.TheVariants.{Cond}
use Rattle.model.specs.state.State.{State}
use Rattle.model.specs.shown.Outcome.{BodyMeaning}
use Rattle.model.specs.steps.Schedule.{Schedule}
use Rattle.model.specs.steps.Lawful.{is_cond, is_answer, is_sync}
use Rattle.model.specs.steps.Ambiguity.{Settled}
use Rattle.model.specs.runs.RunState.{RunState}
use Rattle.model.proofs.agreement.Ends.{Moves, Way, ends_alike}
use Rattle.model.proofs.agreement.Marks.{Marks, mark, begins, Can, IsOrderly, IsOver, orderly-mark, none_can}
use Rattle.model.proofs.agreement.Swaps.{ConditionsRead, CanSwap, same_or_swap, steps_apart_swap}
use Rattle.model.proofs.agreement.Stamps.{IsTimed}
use Rattle.model.proofs.agreement.Levels.{RunsAlike, IsQuiet, alike_refl, alike_sym, alike_trans}
use Rattle.model.proofs.agreement.SerialSteps.{after, Tells, timed-after, quiet-after, alike-after, tells-agree, tells-after, after-swap}

-- what was done, and the run state
pub record Place (s : Schedule) : Type 0 where
  pub marks : Marks
  pub run : RunState
  pub orderly : IsOrderly s marks
  pub timed : IsTimed s run.state
  pub quiet : IsQuiet s run

-- a move makes one step that is allowed, with a true answer
pub record Move (s : Schedule) (bodies : List BodyMeaning) (p q : Place s) : Type 0 where
  pub step : Step
  pub can : Can s p.marks step
  pub tells : Tells s step p.run.state
  pub marks : q.marks ≡ mark step p.marks
  pub run : q.run ≡ after s bodies step p.run

-- the same was done, and the run states are alike
pub record IsAlike (s : Schedule) (p q : Place s) : Type 0 where
  pub marks : p.marks ≡ q.marks
  pub runs : RunsAlike s p.run q.run

-- everything is done
abbrev pub IsEnd : (s : Schedule) → Place s → Type 0
IsEnd s p = IsOver s p.marks

-- the place after a step
abbrev pub next_place : (s : Schedule) (bodies : List BodyMeaning) (p : Place s) (x : Step) → Can s p.marks x → Place s
next_place s bodies p x can = record {
  marks = mark x p.marks;
  run = after s bodies x p.run;
  orderly = orderly-mark s p.marks x p.orderly can;
  timed = timed-after s bodies p.marks x p.run can p.timed;
  quiet = quiet-after s bodies x p.run p.quiet;
}

-- the move to it
abbrev pub next_move : (s : Schedule) (bodies : List BodyMeaning) (p : Place s) (x : Step) (can : Can s p.marks x) → Tells s x p.run.state
    → Move s bodies p (next_place s bodies p x can)
next_move s bodies p x can told = record { step = x; can = can; tells = told; marks = refl; run = refl }

-- three tests, the first two swapped
pub or-swap : (a b c : Bool) → (a || (b || c)) ≡ (b || (a || c))
or-swap true true c = refl
or-swap true false c = refl
or-swap false true c = refl
or-swap false false c = refl

-- two marks in either order
pub mark-swap : (m : Marks) (x y : Step) → mark y (mark x m) ≡ mark x (mark y m)
mark-swap m x y = λ i. record {
  begun = λ n. or-swap (begins n y) (begins n x) (m.begun n) i;
  asked = λ c. or-swap (is_cond c y) (is_cond c x) (m.asked c) i;
  answered = λ c a. or-swap (is_answer c a y) (is_answer c a x) (m.answered c a) i;
  synced = λ k. or-swap (is_sync k y) (is_sync k x) (m.synced k) i;
}

-- a move can be made from an alike place
carried : (s : Schedule) (bodies : List BodyMeaning) → Settled s → (p q r : Place s) → IsAlike s p q → Move s bodies p r
    → (l : Place s) × Move s bodies q l × IsAlike s r l
carried s bodies settled p q r alike move =
    let can : Can s q.marks move.step = subst (λ m. Can s m move.step) alike.marks move.can in
    let told : Tells s move.step q.run.state = tells-agree s move.step p.run.state q.run.state alike.runs.states move.tells in (
      next_place s bodies q move.step can,
      next_move s bodies q move.step can told,
      record {
        marks = move.marks ∙ ap (mark move.step) alike.marks;
        runs = subst (λ v. RunsAlike s v (after s bodies move.step q.run)) (sym move.run)
            (alike-after s bodies p.marks move.step p.run q.run settled move.can p.timed q.timed p.quiet q.quiet alike.runs);
      },
    )

-- a condition has one answer in a state
one-told : (s : Schedule) (x y : Step) (w : State) → Tells s x w → Tells s y w → (c : ℕ) (a b : Bool) → x ≡ Cond c a → y ≡ Cond c b → a ≡ b
one-told s x y w told other c a b e f =
    let first : Tells s (Cond c a) w = subst (λ z. Tells s z w) e told in
    let second : Tells s (Cond c b) w = subst (λ z. Tells s z w) f other in
    first ∙ sym second

-- places that one step leads to are alike
same-move : (s : Schedule) (bodies : List BodyMeaning) (p q r : Place s) (f : Move s bodies p q) (g : Move s bodies p r) → f.step ≡ g.step → IsAlike s q r
same-move s bodies p q r f g e = record {
  marks = f.marks ∙ (ap (λ x. mark x p.marks) e ∙ sym g.marks);
  runs = subst (RunsAlike s q.run) (f.run ∙ (ap (λ x. after s bodies x p.run) e ∙ sym g.run)) (alike_refl s q.run);
}

-- two moves that can be swapped are followed by moves to alike places
swapped : (s : Schedule) (bodies : List BodyMeaning) (p q r : Place s) (f : Move s bodies p q) (g : Move s bodies p r)
    → CanSwap s p.marks f.step g.step → (k : Place s) × (l : Place s) × Move s bodies q k × Move s bodies r l × IsAlike s k l
swapped s bodies p q r f g h =
    let can : Can s q.marks g.step = subst (λ m. Can s m g.step) (sym f.marks) h.second_after in
    let could : Can s r.marks f.step = subst (λ m. Can s m f.step) (sym g.marks) h.first_after in
    let told : Tells s g.step q.run.state = subst (λ (x : RunState). Tells s g.step x.state) (sym f.run) (tells-after s bodies f.step g.step p.run h.apart g.tells) in
    let other : Tells s f.step r.run.state = subst (λ (x : RunState). Tells s f.step x.state) (sym g.run)
    (tells-after s bodies g.step f.step p.run (steps_apart_swap s f.step g.step h.apart) f.tells) in (
      next_place s bodies q g.step can,
      next_place s bodies r f.step could,
      next_move s bodies q g.step can told,
      next_move s bodies r f.step could other,
      record {
        marks = ap (mark g.step) f.marks ∙ (mark-swap p.marks f.step g.step ∙ sym (ap (mark f.step) g.marks));
        runs = subst₂ (RunsAlike s) (ap (after s bodies g.step) (sym f.run)) (ap (after s bodies f.step) (sym g.run))
            (after-swap s bodies p.marks f.step g.step p.run f.can g.can h.apart p.timed);
      },
    )

-- two moves from one place lead to alike places, or are each followed by a move to alike places
joined : (s : Schedule) (bodies : List BodyMeaning) → Settled s → ConditionsRead s → (p q r : Place s) → Move s bodies p q → Move s bodies p r
    → IsAlike s q r ⊎ ((k : Place s) × (l : Place s) × Move s bodies q k × Move s bodies r l × IsAlike s k l)
joined s bodies settled read p q r f g =
    go (same_or_swap s p.marks f.step g.step settled read p.orderly f.can g.can (one-told s f.step g.step p.run.state f.tells g.tells))
  where
    go : (f.step ≡ g.step) ⊎ CanSwap s p.marks f.step g.step
        → IsAlike s q r ⊎ ((k : Place s) × (l : Place s) × Move s bodies q k × Move s bodies r l × IsAlike s k l)
    go (inl e) = inl (same-move s bodies p q r f g e)
    go (inr h) = inr (swapped s bodies p q r f g h)

-- the places of a settled schedule
pub places : (s : Schedule) (bodies : List BodyMeaning) → Settled s → ConditionsRead s → Moves (Place s)
places s bodies settled read = record {
  Move = Move s bodies;
  Alike = IsAlike s;
  IsEnd = IsEnd s;
  alike_sym = λ p q h. record { marks = sym h.marks; runs = alike_sym s p.run q.run h.runs };
  alike_trans = λ p q r h g. record { marks = h.marks ∙ g.marks; runs = alike_trans s p.run q.run r.run h.runs g.runs };
  end_alike = λ p q h. subst (IsOver s) h.marks;
  none_from_end = λ p q done move. none_can s p.marks move.step done move.can;
  carried = carried s bodies settled;
  joined = joined s bodies settled read;
}

-- two ends that are reached from alike places are alike
pub places_end_alike : (s : Schedule) (bodies : List BodyMeaning) → Settled s → ConditionsRead s → (p e q f : Place s)
    → Way (Move s bodies) p e → IsEnd s e → Way (Move s bodies) q f → IsEnd s f → IsAlike s p q → IsAlike s e f
unfolding places
places_end_alike s bodies settled read p e q f way end other over alike = ends_alike (places s bodies settled read) p e way end q f other over alike
