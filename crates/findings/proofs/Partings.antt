-- Where two traces part: one run of each more.
use Rattle.std.proofs.Common.{◌≡◌, ◌<◌, ◌≤◌, ◌+◌, ◌⊎◌, ◌∙◌, ℕ, zero, suc, max, min, List, [], ◌∷◌, length, take, drop, get_or, slice_get, Option, Some, None, unwrap_or, inl, inr, refl, sym, ap, subst, arith}
use Rattle.std.specs.Prelude.{IsSome, IsSomeAnd, MatchOption}
use Rattle.std.proofs.Math.Nat.{le-max_left, le-max_right, le-min, max-le, min-le_left, min-le_right}
use Rattle.std.proofs.lemmas.List.{take_all}
use Rattle.std.proofs.lemmas.Option.{get_or_from_slice_get, slice_get_cases, slice_get_within}
use Rattle.model.specs.runs.Replays.{IsReplayed}
use Rattle.model.specs.shown.Outcome.{BodyMeaning}
use Rattle.model.specs.state.State.{State}
use Rattle.model.specs.steps.Schedule.{Schedule, Recorded, recording}
use Rattle.state_lines.specs.WorldText.{world_text}
use Rattle.findings.specs.declared.diverging.Parting.{Parting}
use Rattle.findings.specs.declared.diverging.Parting.TheVariants as parting
use Rattle.program.specs.Replayed.{AreReplayed, IsRefusedAmong, IsRefusedRun}
use Rattle.program.specs.declared.fault.Fault.{Fault}
use Rattle.program.proofs.Replays.{refused-next, replayed-more}
use Rattle.findings.specs.Parting.{AreAllReplayed, IsPartingAt, IsPartingBy, IsRunTo}

-- a list from a place on begins with what stands there
cut_next : {X : Type 0} (runs : List X) (i : ℕ) (r : X) → i < length runs → r ≡ get_or runs i r → r ∷ drop (suc i) runs ≡ drop i runs
cut_next [] i r known at = absurd (omega arith)
cut_next (x ∷ runs) zero r known at = ap (λ y. y ∷ runs) at
cut_next (x ∷ runs) (suc i) r known at = cut_next runs i r (omega arith) at

next : (i : ℕ) → suc i ≡ i + 1
next i = omega arith

cut : {X : Type 0} (runs : List X) (i : ℕ) (r : X) → i < length runs → r ≡ get_or runs i r → r ∷ drop (i + 1) runs ≡ drop i runs
cut runs i r known at = subst (λ n. r ∷ drop n runs ≡ drop i runs) (next i) (cut_next runs i r known at)

-- past its end nothing stands
past : {X : Type 0} (runs : List X) (i : ℕ) → length runs ≤ i → drop i runs ≡ []
past [] zero over = refl
past [] (suc i) over = refl
past (x ∷ runs) zero over = absurd (omega arith)
past (x ∷ runs) (suc i) over = past runs i (omega arith)

-- before its end something does
longer : {X : Type 0} (runs : List X) (i : ℕ) → i < length runs → (q : X) × (rest : List X) × (q ∷ rest ≡ drop i runs)
longer [] i known = absurd (omega arith)
longer (x ∷ runs) zero known = (x, runs, refl)
longer (x ∷ runs) (suc i) known = longer runs i (omega arith)

module _ {X S : Type 0} (Takes TakesBeside : S → X → S → Type 0) (state : S → State) (count : ℕ) (start beginning : S) (one other : List X) (i : ℕ) (p : Parting) where
  -- a run of each that is replayed, and what it leads to
  pub parting_next : (left beside : S) (r q : X) → i < length one → r ≡ get_or one i r → slice_get other i ≡ Some q
      → Takes start r left → TakesBeside beginning q beside
      → IsPartingAt (count + 1) (state left) (state beside) p ⊎ ((world_text (count + 1) (state left) ≡ world_text (count + 1) (state beside)) × IsPartingBy Takes TakesBeside state (count + 1) left beside (drop (i + 1) one) (drop (i + 1) other) p)
      → IsPartingBy Takes TakesBeside state count start beginning (drop i one) (drop i other) p
  parting_next left beside r q known at there first second rest =
      let within = slice_get_within other i q there in
      let here : q ≡ get_or other i q = sym (get_or_from_slice_get other i q q there) in
      subst (λ runs. IsPartingBy Takes TakesBeside state count start beginning runs (drop i other) p) (cut one i r known at)
      (subst (λ runs. IsPartingBy Takes TakesBeside state count start beginning (r ∷ drop (i + 1) one) runs p) (cut other i q within here) (left, beside, first, second, rest))

  -- the second trace has ended
  pub parting_short : (r : X) → i < length one → r ≡ get_or one i r → length other ≤ i → p ≡ parting.Longer count → IsPartingBy Takes TakesBeside state count start beginning (drop i one) (drop i other) p
  parting_short r known at over e =
      subst (λ runs. IsPartingBy Takes TakesBeside state count start beginning runs (drop i other) p) (cut one i r known at)
      (subst (λ runs. IsPartingBy Takes TakesBeside state count start beginning (r ∷ drop (i + 1) one) runs p) (sym (past other i over)) e)

  -- the first trace has ended, and the second has more
  pub parting_long : length one ≤ i → i < length other → p ≡ parting.Longer count → IsPartingBy Takes TakesBeside state count start beginning (drop i one) (drop i other) p
  parting_long over more e =
      let left = longer other i more in
      subst (λ runs. IsPartingBy Takes TakesBeside state count start beginning runs (drop i other) p) (sym (past one i over))
      (subst (λ runs. IsPartingBy Takes TakesBeside state count start beginning [] runs p) left.2 e)

  -- both have ended
  pub parting_none : length one ≤ i → length other ≤ i → p ≡ parting.None count → IsPartingBy Takes TakesBeside state count start beginning (drop i one) (drop i other) p
  parting_none over beside e =
      subst (λ runs. IsPartingBy Takes TakesBeside state count start beginning runs (drop i other) p) (sym (past one i over))
      (subst (λ runs. IsPartingBy Takes TakesBeside state count start beginning [] runs p) (sym (past other i beside)) e)

-- what is known behind so many runs of each: where the two part, or that both have these runs and that what is behind them decides
abbrev pub IsSoFar : {X S : Type 0} → (S → X → S → Type 0) → (S → X → S → Type 0) → (S → State) → S → S → List X → List X → ℕ → S → S → Option Parting → Type 0
IsSoFar Takes TakesBeside state first second one other i start beginning None =
    (i ≤ length one) × (i ≤ length other) × ((p : Parting) → IsPartingBy Takes TakesBeside state i start beginning (drop i one) (drop i other) p → IsPartingBy Takes TakesBeside state 0 first second one other p)
IsSoFar Takes TakesBeside state first second one other i start beginning (Some p) = IsPartingBy Takes TakesBeside state 0 first second one other p

-- what a state becomes by the run at a place: that is replayed, and where there is none nothing happens
abbrev pub IsTaken : {X S : Type 0} → (S → X → S → Type 0) → S → Option X → S → Type 0
IsTaken Takes start run left = MatchOption run (left ≡ start) (λ r. Takes start r left)

-- what is told behind one run more of each, from what was told before it: this, else that one of them has no such run, else how the worlds differ
pub record IsTold (both i : ℕ) (left beside : State) (told now : Option Parting) : Type 0 where
  pub kept : IsSome told → now ≡ told
  pub longer : told ≡ None → both ≤ i → now ≡ Some (parting.Longer i)
  pub after : told ≡ None → i < both → MatchOption now (world_text (i + 1) left ≡ world_text (i + 1) beside) (IsPartingAt (i + 1) left beside)

module _ {X S : Type 0} (Takes TakesBeside : S → X → S → Type 0) (state : S → State) (first second : S) (one other : List X) where
  -- both have the run
  after_both : (i : ℕ) (start beginning left beside : S) (r q : X) (now : Option Parting) → i < length one → slice_get one i ≡ Some r → slice_get other i ≡ Some q
      → Takes start r left → TakesBeside beginning q beside
      → ((p : Parting) → IsPartingBy Takes TakesBeside state i start beginning (drop i one) (drop i other) p → IsPartingBy Takes TakesBeside state 0 first second one other p)
      → MatchOption now (world_text (i + 1) (state left) ≡ world_text (i + 1) (state beside)) (IsPartingAt (i + 1) (state left) (state beside)) → IsSoFar Takes TakesBeside state first second one other (i + 1) left beside now
  after_both i start beginning left beside r q None known here there ran ran_beside rest same = (
    omega (arith, known),
    let more = slice_get_within other i q there in omega (arith, more),
    λ p h. rest p (parting_next Takes TakesBeside state i start beginning one other i p left beside r q known (sym (get_or_from_slice_get one i r r here)) there ran ran_beside (inr (same, h))),
  )
  after_both i start beginning left beside r q (Some p) known here there ran ran_beside rest apart =
      rest p (parting_next Takes TakesBeside state i start beginning one other i p left beside r q known (sym (get_or_from_slice_get one i r r here)) there ran ran_beside (inl apart))

  -- one of them has not
  ended : (i : ℕ) (start beginning : S) → i < max (length one) (length other) → min (length one) (length other) ≤ i
      → ((p : Parting) → IsPartingBy Takes TakesBeside state i start beginning (drop i one) (drop i other) p → IsPartingBy Takes TakesBeside state 0 first second one other p) → IsPartingBy Takes TakesBeside state 0 first second one other (parting.Longer i)
  ended i start beginning known short rest = elim (slice_get_cases one i).1 [
    | inl (r, here, at, same) ↦ elim (slice_get_cases other i).1 [
      | inl (q, more, there, _) ↦ absurd (let both : i + 1 ≤ min (length one) (length other) = le-min (omega (arith, here)) (omega (arith, more)) in omega (arith, both, short))
      | inr (over, _) ↦ rest _ (parting_short Takes TakesBeside state i start beginning one other i _ r here (sym (get_or_from_slice_get one i r r at)) over refl)
    ]
    | inr (past_one, _) ↦ elim (slice_get_cases other i).1 [
      | inl (q, more, there, _) ↦ rest _ (parting_long Takes TakesBeside state i start beginning one other i _ past_one more refl)
      | inr (over, _) ↦ absurd (let all : max (length one) (length other) ≤ i = max-le past_one over in omega (arith, all, known))
    ]
  ]

  -- the runs of both at a place are taken
  pub so-far-next : (i : ℕ) (start beginning left beside : S) (told now : Option Parting) → i < max (length one) (length other)
      → IsTaken Takes start (slice_get one i) left → IsTaken TakesBeside beginning (slice_get other i) beside
      → IsTold (min (length one) (length other)) i (state left) (state beside) told now → IsSoFar Takes TakesBeside state first second one other i start beginning told
      → IsSoFar Takes TakesBeside state first second one other (i + 1) left beside now
  so-far-next i start beginning left beside (Some p) now known ran ran_beside is so_far = subst (IsSoFar Takes TakesBeside state first second one other (i + 1) left beside) (sym (is.kept refl)) so_far
  so-far-next i start beginning left beside None now known ran ran_beside is so_far = elim (slice_get_cases one i).1 [
    | inl (r, here, at, _) ↦ elim (slice_get_cases other i).1 [
      | inl (q, more, there, _) ↦ after_both i start beginning left beside r q now here at there (subst (λ o. IsTaken Takes start o left) at ran) (subst (λ o. IsTaken TakesBeside beginning o beside) there ran_beside)
          so_far.2 (is.after refl (le-min (omega (arith, here)) (omega (arith, more))))
      | inr (over, _) ↦ by_end (let less = min-le_right (length one) (length other) in omega (arith, less, over))
    ]
    | inr (past_one, _) ↦ by_end (let less = min-le_left (length one) (length other) in omega (arith, less, past_one))
  ]
    where
      by_end : min (length one) (length other) ≤ i → IsSoFar Takes TakesBeside state first second one other (i + 1) left beside now
      by_end short = subst (IsSoFar Takes TakesBeside state first second one other (i + 1) left beside) (sym (is.longer refl short)) (ended i start beginning known short so_far.2)

  -- all runs of both are taken
  pub so-far-all : (i : ℕ) (start beginning : S) (told : Option Parting) → max (length one) (length other) ≤ i → IsSoFar Takes TakesBeside state first second one other i start beginning told
      → IsPartingBy Takes TakesBeside state 0 first second one other (unwrap_or told (parting.None (length one)))
  so-far-all i start beginning (Some p) all so_far = so_far
  so-far-all i start beginning None all so_far =
      let over : length one ≤ i = let h = le-max_left (length one) (length other) in omega (arith, h, all) in
      let over_beside : length other ≤ i = let h = le-max_right (length one) (length other) in omega (arith, h, all) in
      so_far.2 (parting.None (length one)) (parting_none Takes TakesBeside state i start beginning one other i _ over over_beside (ap parting.None (let within = so_far.0 in omega (arith, within, over))))

-- the run at a place is taken behind those before it
pub taken-more : (s : Schedule) (bodies others : List BodyMeaning) (start middle left : State) (runs : List Recorded) (i : ℕ) → others ≡ bodies
    → AreReplayed s bodies start (take i runs) middle → IsTaken (IsRunTo s others) middle (slice_get runs i) left → AreReplayed s bodies start (take (i + 1) runs) left
taken-more s bodies others start middle left runs i meant ran next = elim (slice_get_cases runs i).1 [
  | inl (r, known, there, _) ↦ replayed-more s bodies others start middle left runs i r known (sym (get_or_from_slice_get runs i r r there)) meant ran (subst (λ o. IsTaken (IsRunTo s others) middle o left) there next)
  | inr (over, gone) ↦
      let stays : left ≡ middle = subst (λ o. IsTaken (IsRunTo s others) middle o left) gone next in
      subst (λ rs. AreReplayed s bodies start rs left) (take_all i runs over ∙ sym (take_all (i + 1) runs (omega (arith, over)))) (subst (AreReplayed s bodies start (take i runs)) (sym stays) ran)
]

-- or it is refused
pub refused-more : (s : Schedule) (bodies others : List BodyMeaning) (start middle : State) (runs : List Recorded) (i : ℕ) (fault : Fault) → others ≡ bodies
    → AreReplayed s bodies start (take i runs) middle → IsSomeAnd (slice_get runs i) (λ r. IsRefusedRun s others middle r (i + 1) fault) → IsRefusedAmong s bodies start runs fault
refused-more s bodies others start middle runs i fault meant ran refused = elim (slice_get_cases runs i).1 [
  | inl (r, known, there, _) ↦ refused-next s bodies others start middle runs i (i + 1) r fault known (sym (get_or_from_slice_get runs i r r there)) meant refl ran
      (subst (λ o. IsSomeAnd o (λ x. IsRefusedRun s others middle x (i + 1) fault)) there refused)
  | inr (over, gone) ↦ absurd (subst (λ o. IsSomeAnd o (λ x. IsRefusedRun s others middle x (i + 1) fault)) gone refused)
]

-- all are taken
pub taken-all : (s : Schedule) (bodies : List BodyMeaning) (start left : State) (runs : List Recorded) (i : ℕ) → length runs ≤ i → AreReplayed s bodies start (take i runs) left → AreAllReplayed s bodies start runs
taken-all s bodies start left runs i over ran = (left, subst (λ rs. AreReplayed s bodies start rs left) (take_all i runs over) ran)
