-- What each step that hands a job on may do, and what it tells its seat.
use Rattle.std.proofs.Common.{◌≡◌, ℕ, suc, ◌<◌, true, List, [], ◌∷◌, length, get_or, set, sym, refl, ap, ◌∙◌, subst, ⊎_elim, arith, Some}
use mathlib.Core.Option.{none, some}
use lib.ListN.{get_elem?}
use prog.Atomic.{either}
use Rattle.std.proofs.Common.{eqb}
use Rattle.atomic_table.specs.Table.{State, Act, step, keeps, takes, gives, rest, Valid, homes_after, carried_after, stepped, Allows}
use Rattle.atomic_table.proofs.Lists.{exchanged}
use Rattle.job_board.specs.declared.view.View.{View}
use Rattle.job_board.specs.declared.view.Content.TheVariants.{Job, Outcome}
use Rattle.job_board.specs.Words.{posted_word, taken_word, finished_word}
use Rattle.job_board.specs.Views.{having_read, after_post, after_take, after_done, after_collect, HasJob, HasPosted, Uncollected}
use Rattle.job_board.specs.HandsOff.{posted_of, collected_of, done_of}
use Rattle.job_board.specs.Board.{Slot, waiting, running, finished, IsKept, IsBoard}
use Rattle.job_board.specs.Plays.{Seated, IsNew, gave_job, took_job, gave_outcome, took_outcome}
use Rattle.job_board.proofs.Places.{mine}
use Rattle.job_board.proofs.Stays.{word_waiting, at_phase, whole}
use Rattle.job_board.proofs.Contents.{one_job, one_top}
use Rattle.job_board.proofs.Looks.{look_keeps}
use Rattle.job_board.proofs.Steps.{post_keeps, take_keeps, done_keeps, collect_keeps, was_busy}

module _ {J O : Type 0} (answers : J → O → Type 0) where
  near_slot : (s : State (Slot J O) (View J O)) (r : IsKept answers s) (n k : ℕ) → length s.homes ≡ n → k < n → k < r.slots
  near_slot s r n k deep near = subst (λ (z : ℕ). k < z) (sym deep ∙ r.deep) near

  pub gives_job : (n id : ℕ) (me : Seated J O) (k new m : ℕ) (j : J) → me.0.leads ≡ true → new ≡ posted_word m → m ≡ suc (length me.0.posted) → get_elem? me.0.free 0 ≡ some k → me.1 ≡ (k, Some (Job j)) ∷ rest me.1
      → Allows (IsBoard answers) n id me k (λ _. new) (gave_job (step n k new 0 none) me)
  gives_job n id me k new m j lead shows next top has s h deep here small =
      let r = h.1 in let first : id ≡ 0 = r.leads id me.0 here lead in let here0 : get_elem? s.views 0 ≡ some me.0 = subst (λ (z : ℕ). get_elem? s.views z ≡ some me.0) first here in
      let w : View J O = after_post me.0 m j in let inside : k < r.slots = (r.free 0 0 k (me.0, here0, top)).1 in (
        w,
        gives,
        tt,
        subst (λ (c : List (ℕ × Slot J O)). IsBoard answers record { words = set s.words k new; homes = homes_after s.homes c gives; views = set s.views id w }) (sym has)
            (subst (λ (z : ℕ). IsBoard answers record { words = set s.words k new; homes = set s.homes k (some (Some (Job j))); views = set s.views z w }) (sym first)
            (whole answers _ (post_keeps answers s r k new inside me.0 here0 m j next top shows))),
        λ m' j' shows' has'. let mm : m ≡ m' = omega arith in let jj : j ≡ j' = one_job j j' (Some (Job j)) refl (one_top me.1 (rest me.1) (rest me.1) k k (Some (Job j)) (Some (Job j')) has has') in
            ap {B = Seated J O} (λ (z : ℕ). (after_post me.0 z j, rest me.1)) mm ∙ ap {B = Seated J O} (λ (z : J). (after_post me.0 m' z, rest me.1)) jj,
      )

  abbrev Turn : State (Slot J O) (View J O) → ℕ → ℕ → Seated J O → (ℕ → Seated J O → Type 0) → ℕ → Type 0
  Turn s id k me then x = (w : View J O) × (a : Act (Slot J O)) × Valid s.homes me.1 a × IsBoard answers (stepped s k x id me.1 w a) × then (get_or s.words k 0) (w, carried_after me.1 a)

  pub takes_job : (n id : ℕ) (me : Seated J O) (k old new m : ℕ) → k < n → old ≡ posted_word m → new ≡ taken_word m
      → Allows (IsBoard answers) n id me k (λ x. either (eqb x old) new x) (took_job (step n k old new none) me)
  takes_job n id me k old new m near was shows s h deep here small = let r = h.1 in let found : ℕ = get_or s.words k 0 in let inside = near_slot s r n k deep near in
      exchanged found old new (Turn s id k me (took_job (step n k old new none) me))
      (λ hit. let p = word_waiting s.views answers found k (get_elem? s.homes k) m (r.phase k) (r.each_slot k inside) (hit ∙ was) in let j : J = p.0 in let f = at_phase answers s r k inside (waiting m j) p.1 in
      let new_here : IsNew me.0 m k = (
        (λ at q i e. f.4 id at q i (me.0, here, e)),
        (λ at e. let d = r.done id at m (me.0, here, e) in f.4 id d.0 d.1 d.2 d.3),
        λ m' i has. ⊎_elim (λ t. let c : waiting m j ≡ running m' i id = sym p.1 ∙ t.1 in (cc)) (λ t. has.1 t.0 (mine s.views id me.0 me.0 here done_of t.0 m' t.1)) (r.taken id has.0.0 m' k i (me.0, here, has.0.1)).1,
      ) in (
        after_take me.0 m k j,
        takes k (Some (Job j)),
        f.1,
        whole answers _ (take_keeps answers s r k new inside id me.0 here m j p.1 shows),
        λ m' was'. let mm : m ≡ m' = omega arith in (
          (λ _. (j, ap {B = Seated J O} (λ (z : ℕ). (after_take me.0 z k j, (k, Some (Job j)) ∷ me.1)) mm, subst (λ (z : ℕ). IsNew me.0 z k) mm new_here)),
          λ miss. absurd (miss hit),
        ),
      ))
      (λ miss. (having_read me.0 ((k, found) ∷ []), keeps, tt, whole answers _ (look_keeps answers s r k id me.0 here), λ m' _. ((λ hit. absurd (miss hit)), λ _. refl)))

  pub gives_outcome : (n id : ℕ) (me : Seated J O) (k new m : ℕ) (j : J) (o : O) → HasJob me.0 m k j → answers j o → new ≡ finished_word m → me.1 ≡ (k, Some (Outcome o)) ∷ rest me.1
      → Allows (IsBoard answers) n id me k (λ _. new) (gave_outcome (step n k new 0 none) me)
  gives_outcome n id me k new m j o mine_is answered shows has s h deep here small =
      let r = h.1 in let w : View J O = after_done me.0 m in let at : ℕ = mine_is.0.0 in
      let runs : (k < r.slots) × (r.phase k ≡ running m j id) = ⊎_elim (λ t. t) (λ t. absurd (mine_is.1 t.0 (mine s.views id me.0 me.0 here done_of t.0 m t.1))) (r.taken id at m k j (me.0, here, mine_is.0.1)).1 in (
        w,
        gives,
        tt,
        subst (λ (c : List (ℕ × Slot J O)). IsBoard answers record { words = set s.words k new; homes = homes_after s.homes c gives; views = set s.views id w }) (sym has)
            (whole answers _ (done_keeps answers s r k new runs.0 id me.0 here m j o runs.1 answered shows mine_is.0)),
        λ m' shows'. let mm : m ≡ m' = omega arith in ap {B = Seated J O} (λ (z : ℕ). (after_done me.0 z, rest me.1)) mm,
      )

  pub takes_outcome : (n id : ℕ) (me : Seated J O) (k old new m : ℕ) → k < n → me.0.leads ≡ true → ((at : ℕ) × (get_elem? me.0.read at ≡ some (k, finished_word m))) → Uncollected me.0 m → old ≡ finished_word m → new ≡ 0
      → Allows (IsBoard answers) n id me k (λ x. either (eqb x old) new x) (took_outcome answers (step n k old new none) me)
  takes_outcome n id me k old new m near lead seen open_ was shows s h deep here small = let r = h.1 in let found : ℕ = get_or s.words k 0 in let inside = near_slot s r n k deep near in
      let first : id ≡ 0 = r.leads id me.0 here lead in let here0 : get_elem? s.views 0 ≡ some me.0 = subst (λ (z : ℕ). get_elem? s.views z ≡ some me.0) first here in
      let p : (j : J) × (o : O) × (r.phase k ≡ finished m j o) = ⊎_elim (λ t. t) (λ t. absurd (open_ t.0 t.1 (mine s.views 0 me.0 me.0 here0 collected_of t.0 (m, t.1) t.2))) (r.read id seen.0 k m (me.0, here, seen.1) inside) in
      let j : J = p.0 in let o : O = p.1 in let f = at_phase answers s r k inside (finished m j o) p.2 in
      exchanged found old new (Turn s id k me (took_outcome answers (step n k old new none) me))
      (λ hit. (
        after_collect me.0 m o k,
        takes k (Some (Outcome o)),
        f.1,
        subst (λ (z : ℕ). IsBoard answers record { words = set s.words k new; homes = set s.homes k none; views = set s.views z (after_collect me.0 m o k) }) (sym first)
            (whole answers _ (collect_keeps answers s r k new inside me.0 here0 m j o p.2 shows)),
        λ m' was'. let mm : m ≡ m' = omega arith in (
          hit,
          (
            o,
            ap {B = Seated J O} (λ (z : ℕ). (after_collect me.0 z o k, (k, Some (Outcome o)) ∷ me.1)) mm,
            (j, subst (λ (z : ℕ). HasPosted me.0 z j) mm (f.2.0, mine s.views 0 me.0 me.0 here0 posted_of f.2.0 (m, j) f.2.2), f.5),
          ),
          was_busy answers s r k new inside me.0 here0 m j o p.2 shows,
        ),
      ))
      (λ miss. absurd (miss (f.0 ∙ sym was)))
