-- What stays of the rule while the views of seats grow and one slot goes on.
use Rattle.std.proofs.Common.{◌≡◌, ◌≢◌, ℕ, suc, ◌<◌, ◌⊎◌, Bool, true, false, cond, List, [], ◌∷◌, ◌++◌, get_or, set, length, sym, refl, ap, ◌∙◌, subst, inl, inr, ⊎_elim, arith, eqb, eq-eqb, ne_eqb, get_or-set_other}
use mathlib.Core.Option.{some, some-injective}
use mathlib.Core.Option as maybe
use mathlib.Core.Logic.{dite}
use native.Mathlib.Decide.{ℕ_discrete}
use lib.ListN.{get_elem?}
use Rattle.atomic_table.specs.Table.{State}
use Rattle.job_board.specs.declared.view.View.{View}
use Rattle.job_board.specs.Words.{posted_word, taken_word, finished_word, closing_word}
use Rattle.job_board.specs.HandsOff.{posted_of, collected_of, free_of, taken_of, done_of, read_of, Stands, Once, IsClosed, HandsOff}
use Rattle.job_board.specs.Board.{Slot, Phase, idle, waiting, running, finished, number, Posts, IsDone, IsCollected, IsSpare, NotCollected, NotTaken, SlotFits, PostedFits, DoneFits, CollectedFits, TakenFits, ReadFits, FreeFits, FreeOnce, LeadsFits, ClosesFits, ClosingFits, SeenFits, Apart, IsKept, IsBoard}
use Rattle.job_board.proofs.Places.{Goes, one_entry, set_there, before, one_more}
use Rattle.atomic_table.proofs.Lists.{at_set, set_else}

module _ {P : Type 0} where
  -- a function with another value at one number
  pub put : (ℕ → P) → ℕ → P → ℕ → P
  put f k c i = cond (eqb i k) c (f i)

  pub at_put : (f : ℕ → P) (k : ℕ) (c : P) (F : ℕ → P → Type 0) (i : ℕ) → F k c → (i ≢ k → F i (f i)) → F i (put f k c i)
  unfolding put
  at_put f k c F i here other = dite (ℕ_discrete i k)
      (λ e. subst (λ (b : Bool). F i (cond b c (f i))) (sym (eq-eqb i k e)) (subst (λ (h : ℕ). F h c) (sym e) here))
      (λ n. subst (λ (b : Bool). F i (cond b c (f i))) (sym (ne_eqb i k n)) (other n))

  pub put_here : (f : ℕ → P) (k : ℕ) (c : P) → put f k c k ≡ c
  put_here f k c = at_put f k c (λ i p. i ≡ k → p ≡ c) k (λ _. refl) (λ n e. absurd (n e)) refl

  pub put_else : (f : ℕ → P) (k : ℕ) (c : P) (i : ℕ) → i ≢ k → put f k c i ≡ f i
  put_else f k c i ne = at_put f k c (λ h p. h ≢ k → p ≡ f h) i (λ n. absurd (n refl)) (λ _ _. refl) ne

-- the lists of the views have what they had
pub record Grown {J O : Type 0} (views after : List (View J O)) : Type 0 where
  pub posted : Goes posted_of views after
  pub taken : Goes taken_of views after
  pub done : Goes done_of views after
  pub collected : Goes collected_of views after

module _ {J O : Type 0} (views after : List (View J O)) (g : Grown views after) where
  pub posts : (n : ℕ) (j : J) → Posts views n j → Posts after n j
  posts n j p = (p.0, p.1, g.posted 0 p.0 (n, j) p.2)

  pub dones : (n : ℕ) → IsDone views n → IsDone after n
  dones n d = (d.0, d.1, g.done d.0 d.1 n d.2)

  pub collects : (n : ℕ) → IsCollected views n → IsCollected after n
  collects n c = (c.0, c.1, g.collected 0 c.0 (n, c.1) c.2)

  positive : (n : ℕ) (j : J) → Posts views n j → n ≢ 0
  positive n j p = λ z. let e : n ≡ suc p.0 = p.1 in omega arith

  -- a slot that a step leaves as it is
  pub slot_stays : (answers : J → O → Type 0) (word slot : ℕ) (home : maybe.Option (maybe.Option (Slot J O))) (p : Phase J O)
      → (number p ≢ 0 → NotCollected views (number p) → NotCollected after (number p)) → (number p ≢ 0 → NotTaken views (number p) → NotTaken after (number p))
      → (IsSpare views slot → IsSpare after slot) → SlotFits views answers word slot home p → SlotFits after answers word slot home p
  slot_stays answers word slot home idle nc nt sp f = (f.0, ⊎_elim (λ t. inl (sp t)) (λ t. inr t) f.1)
  slot_stays answers word slot home (waiting n j) nc nt sp f = (f.0, f.1, posts n j f.2, nc (positive n j f.2) f.3, nt (positive n j f.2) f.4)
  slot_stays answers word slot home (running n j hand) nc nt sp f = (f.0, posts n j f.1, nc (positive n j f.1) f.2)
  slot_stays answers word slot home (finished n j o) nc nt sp f = (f.0, f.1, posts n j f.2, nc (positive n j f.2) f.3, dones n f.4, f.5)

module _ {J O : Type 0} (views : List (View J O)) (answers : J → O → Type 0) (word slot : ℕ) (home : maybe.Option (maybe.Option (Slot J O))) where
  abbrev Fits : Phase J O → Type 0
  Fits = SlotFits views answers word slot home

  pub word_waiting : (n : ℕ) (p : Phase J O) → Fits p → word ≡ posted_word n → (j : J) × (p ≡ waiting n j)
  word_waiting n idle f e = let a : word ≡ 0 = f.0 in absurd (omega arith)
  word_waiting n (waiting m j) f e = let a : word ≡ posted_word m = f.0 in let same : m ≡ n = omega arith in (j, ap (λ (z : ℕ). waiting z j) same)
  word_waiting n (running m j hand) f e = let a : word ≡ taken_word m = f.0 in absurd (omega arith)
  word_waiting n (finished m j o) f e = let a : word ≡ finished_word m = f.0 in absurd (omega arith)

  pub word_finished : (n : ℕ) (p : Phase J O) → Fits p → word ≡ finished_word n → (j : J) × (o : O) × (p ≡ finished n j o)
  word_finished n idle f e = let a : word ≡ 0 = f.0 in absurd (omega arith)
  word_finished n (waiting m j) f e = let a : word ≡ posted_word m = f.0 in absurd (omega arith)
  word_finished n (running m j hand) f e = let a : word ≡ taken_word m = f.0 in absurd (omega arith)
  word_finished n (finished m j o) f e = let a : word ≡ finished_word m = f.0 in let same : m ≡ n = omega arith in (j, o, ap (λ (z : ℕ). finished z j o) same)

  -- a slot of a board on which nothing was posted
  pub bare : ((n : ℕ) (j : J) → Posts views n j → ⊥) → (p : Phase J O) → Fits p → (p ≡ idle) × Fits idle
  bare none idle f = (refl, f)
  bare none (waiting n j) f = absurd (none n j f.2)
  bare none (running n j hand) f = absurd (none n j f.1)
  bare none (finished n j o) f = absurd (none n j f.2)

  pub slot_posts : (p : Phase J O) → Fits p → number p ≢ 0 → (j : J) × Posts views (number p) j
  slot_posts idle f nz = absurd (nz refl)
  slot_posts (waiting n j) f nz = (j, f.2)
  slot_posts (running n j hand) f nz = (j, f.1)
  slot_posts (finished n j o) f nz = (j, f.2)

module _ {J O : Type 0} (answers : J → O → Type 0) (s : State (Slot J O) (View J O)) (r : IsKept answers s) where
  pub at_phase : (slot : ℕ) → slot < r.slots → (p : Phase J O) → r.phase slot ≡ p → SlotFits s.views answers (get_or s.words slot 0) slot (get_elem? s.homes slot) p
  at_phase slot inside p e = subst (SlotFits s.views answers (get_or s.words slot 0) slot (get_elem? s.homes slot)) e (r.each_slot slot inside)

  -- what is kept tells how jobs are handed on
  pub told : HandsOff answers (length s.homes) s.views
  told = record {
    posted_once = λ a p b q n x y st su. let f = r.posted a p n x st in let h = r.posted b q n y su in let e : n ≡ suc p = f.1 in let d : n ≡ suc q = h.1 in (f.0 ∙ sym h.0, (let same : p ≡ q = omega arith in same));
    taken_once = r.taken_once;
    collected_once = r.collected_once;
    taken_posted = λ hand place n slot j st. let p = (r.taken hand place n slot j st).0 in (0, p.0, p.2);
    done_taken = r.done;
    collected_done = λ lead place n o st. (r.collected lead place n o st).1;
    answered = λ lead place n o st lead' place' j su. let c = (r.collected lead place n o st).2 in let f = r.posted lead' place' n j su in let p = c.1 in
        let a : n ≡ suc p.0 = p.1 in let b : n ≡ suc place' = f.1 in let same : place' ≡ p.0 = omega arith in
        let su0 : Stands posted_of s.views 0 p.0 (n, j) = subst (λ (z : ℕ). Stands posted_of s.views 0 z (n, j)) same (subst (λ (z : ℕ). Stands posted_of s.views z place' (n, j)) f.0 su) in
        subst (λ (z : J). answers z o) (ap (λ (z : ℕ × J). z.1) (one_entry posted_of s.views 0 p.0 (n, c.0) (n, j) p.2 su0)) c.2;
    one_lead = λ seat seat' v v' e e' lead lead'. r.leads seat v e lead ∙ sym (r.leads seat' v' e' lead');
    lead_closes = r.closes;
    seen_closed = subst (SeenFits s.views) (sym r.deep) r.seen;
  }

  pub whole : IsBoard answers s
  whole = (told, r)

module _ {J O : Type 0} (answers : J → O → Type 0) (s : State (Slot J O) (View J O)) (r : IsKept answers s) (after : List (View J O)) (g : Grown s.views after) where
  abbrev PostsAfter : ℕ → J → Type 0
  PostsAfter = Posts after

  module _ (phase : ℕ → Phase J O) where
    -- what ran runs on, or is done by now
    abbrev pub RunsOn : Type 0
    RunsOn = (slot n : ℕ) (j : J) (hand : ℕ) → r.phase slot ≡ running n j hand → (phase slot ≡ running n j hand) ⊎ ((at : ℕ) × Stands done_of after hand at n)

    -- what was finished is there still, or is collected
    abbrev pub StaysFinished : Type 0
    StaysFinished = (slot n : ℕ) (j : J) (o : O) → r.phase slot ≡ finished n j o → (phase slot ≡ finished n j o) ⊎ IsCollected after n

    pub taken_old : RunsOn → (seat place n slot : ℕ) (j : J) → Stands taken_of s.views seat place (n, (slot, j)) → Posts after n j × (((slot < r.slots) × (phase slot ≡ running n j seat)) ⊎ ((at : ℕ) × Stands done_of after seat at n))
    taken_old runs seat place n slot j st = let f = r.taken seat place n slot j st in (
      posts s.views after g n j f.0,
      ⊎_elim (λ t. ⊎_elim (λ e. inl (t.0, e)) (λ d. inr d) (runs slot n j seat t.1)) (λ d. inr (d.0, g.done seat d.0 n d.1)) f.1,
    )

    pub taken_stays : Goes taken_of after s.views → RunsOn → TakenFits after r.slots phase
    taken_stays back runs seat place n slot j st = taken_old runs seat place n slot j (back seat place (n, (slot, j)) st)

    pub read_old : StaysFinished → (seat place slot n : ℕ) → Stands read_of s.views seat place (slot, finished_word n) → slot < r.slots → ((j : J) × (o : O) × (phase slot ≡ finished n j o)) ⊎ IsCollected after n
    read_old stays seat place slot n st inside = ⊎_elim (λ t. ⊎_elim (λ e. inl (t.0, t.1, e)) (λ c. inr c) (stays slot n t.0 t.1 t.2)) (λ c. inr (collects s.views after g n c)) (r.read seat place slot n st inside)

    pub read_stays : Goes read_of after s.views → StaysFinished → ReadFits after r.slots phase
    read_stays back stays seat place slot n st inside = read_old stays seat place slot n (back seat place (slot, finished_word n) st) inside

    pub free_stays : Goes free_of after s.views → ((slot : ℕ) → r.phase slot ≡ idle → phase slot ≡ idle) → FreeFits after r.slots phase
    free_stays back idles seat place slot st = let f = r.free seat place slot (back seat place slot st) in (f.0, f.1, idles slot f.2)

  pub posted_stays : Goes posted_of after s.views → PostedFits after
  posted_stays back seat place n j st = r.posted seat place n j (back seat place (n, j) st)

  pub done_old : (seat place n : ℕ) → Stands done_of s.views seat place n → (at : ℕ) × (slot : ℕ) × (j : J) × Stands taken_of after seat at (n, (slot, j))
  done_old seat place n st = let f = r.done seat place n st in (f.0, f.1, f.2, g.taken seat f.0 (n, (f.1, f.2)) f.3)

  pub done_stays : Goes done_of after s.views → DoneFits after
  done_stays back seat place n st = done_old seat place n (back seat place n st)

  pub collected_old : (seat place n : ℕ) (o : O) → Stands collected_of s.views seat place (n, o) → (seat ≡ 0) × IsDone after n × ((j : J) × Posts after n j × answers j o)
  collected_old seat place n o st = let f = r.collected seat place n o st in (f.0, dones s.views after g n f.1, (f.2.0, posts s.views after g n f.2.0 f.2.1, f.2.2))

  pub collected_stays : Goes collected_of after s.views → CollectedFits after answers
  collected_stays back seat place n o st = collected_old seat place n o (back seat place (n, o) st)

  pub free_once_stays : Goes free_of after s.views → FreeOnce after
  free_once_stays back seat place place' slot st su = r.free_once seat place place' slot (back seat place slot st) (back seat place' slot su)

  -- every slot, where one of them is at c
  pub each_put : (k x : ℕ) (c : Phase J O) (homes : List (maybe.Option (Slot J O))) → k < r.slots → ((i : ℕ) → i ≢ k → get_elem? homes i ≡ get_elem? s.homes i)
      → ((n : ℕ) → n ≢ number (r.phase k) → NotCollected s.views n → NotCollected after n) → ((n : ℕ) → n ≢ number (r.phase k) → NotTaken s.views n → NotTaken after n)
      → ((i : ℕ) → i ≢ k → IsSpare s.views i → IsSpare after i) → SlotFits after answers (get_or (set s.words k x) k 0) k (get_elem? homes k) c
      → (i : ℕ) → i < r.slots → SlotFits after answers (get_or (set s.words k x) i 0) i (get_elem? homes i) (put r.phase k c i)
  each_put k x c homes inside home nc nt sp here i =
      at_put r.phase k c (λ h p. h < r.slots → SlotFits after answers (get_or (set s.words k x) h 0) h (get_elem? homes h) p) i (λ _. here) (λ other near.
      let away : number (r.phase i) ≢ 0 → number (r.phase i) ≢ number (r.phase k) = λ nz e. other (r.apart i k near inside e nz) in
      subst (λ (z : ℕ). SlotFits after answers z i (get_elem? homes i) (r.phase i)) (sym (get_or-set_other s.words k i x 0 other))
      (subst (λ (z : maybe.Option (maybe.Option (Slot J O))). SlotFits after answers (get_or s.words i 0) i z (r.phase i)) (sym (home i other))
      (slot_stays s.views after g answers (get_or s.words i 0) i (get_elem? s.homes i) (r.phase i) (λ nz. nc (number (r.phase i)) (away nz)) (λ nz. nt (number (r.phase i)) (away nz)) (sp i other) (r.each_slot i near))))

  pub apart_put : (k : ℕ) (c : Phase J O) → ((i : ℕ) → i < r.slots → i ≢ k → number c ≢ 0 → number (r.phase i) ≢ number c) → Apart r.slots (put r.phase k c)
  apart_put k c sole a b near near' =
      at_put r.phase k c (λ h p. h < r.slots → number p ≡ number (put r.phase k c b) → number p ≢ 0 → h ≡ b) a
      (λ _. at_put r.phase k c (λ h p. h < r.slots → number c ≡ number p → number c ≢ 0 → k ≡ h) b (λ _ _ _. refl) (λ other lt e nz. absurd (sole b lt other nz (sym e))) near')
      (λ one lt. at_put r.phase k c (λ h p. h < r.slots → number (r.phase a) ≡ number p → number (r.phase a) ≢ 0 → a ≡ h) b
      (λ _ e nz. absurd (sole a lt one (λ z. nz (e ∙ z)) e)) (λ other lt' e nz. r.apart a b lt lt' e nz) near') near

module _ {J O : Type 0} (views : List (View J O)) (id : ℕ) (v w : View J O) (here : get_elem? views id ≡ some v) where
  pub once_stays : {X : Type 0} (list : View J O → List (ℕ × X)) → list w ≡ list v → Once list views → Once list (set views id w)
  once_stays list same once a p b q n x y st su = once a p b q n x y (before views id v w here list same a p (n, x) st) (before views id v w here list same b q (n, y) su)

  pub leads_stay : w.leads ≡ v.leads → LeadsFits views → LeadsFits (set views id w)
  leads_stay same fits seat u e lead = ⊎_elim (λ t. t.0 ∙ fits id v here (sym same ∙ ap (λ (z : View J O). z.leads) t.1 ∙ lead)) (λ t. fits seat u t.1 lead) (at_set views id seat w u e)

  pub closes_stay : (w.closed ≡ true → w.leads ≡ true) → ClosesFits views → ClosesFits (set views id w)
  closes_stay new fits seat u e shut = ⊎_elim (λ t. ap (λ (z : View J O). z.leads) (sym t.1) ∙ new (ap (λ (z : View J O). z.closed) t.1 ∙ shut)) (λ t. fits seat u t.1 shut) (at_set views id seat w u e)

  pub closed_stays : (v.closed ≡ true → w.closed ≡ true) → IsClosed views → IsClosed (set views id w)
  closed_stays more c = dite (ℕ_discrete c.0 id)
      (λ e. (id, w, set_there views id v w here, more (ap (λ (z : View J O). z.closed) (some-injective v c.1 (sym here ∙ ap (get_elem? views) (sym e) ∙ c.2)) ∙ c.3)))
      (λ n. (c.0, c.1, set_else views id c.0 w n ∙ c.2, c.3))

  -- a step that closes nothing
  module _ (words after : List ℕ) (slots : ℕ) (role : w.leads ≡ v.leads) (same : w.closed ≡ v.closed) where
    pub closing_stays : get_or after slots 0 ≡ get_or words slots 0 → ClosingFits views words slots → ClosingFits (set views id w) after slots
    closing_stays word c = dite (ℕ_discrete 0 id)
        (λ e. let is : c.0 ≡ v = some-injective c.0 v (sym c.1 ∙ ap (get_elem? views) e ∙ here) in (
          w,
          subst (λ (h : ℕ). get_elem? (set views id w) h ≡ some w) (sym e) (set_there views id v w here),
          role ∙ ap (λ (z : View J O). z.leads) (sym is) ∙ c.2,
          word ∙ c.3 ∙ ap (λ (z : View J O). closing_word z.closed) is ∙ ap closing_word (sym same),
        ))
        (λ n. (c.0, set_else views id 0 w n ∙ c.1, c.2, word ∙ c.3))

    pub seen_stays : w.read ≡ v.read → SeenFits views slots → SeenFits (set views id w) slots
    seen_stays reads fits seat place st = closed_stays (λ e. same ∙ e) (fits seat place (before views id v w here read_of reads seat place (slots, 1) st))

  -- a number stands once more, where no seat's list had it
  pub once_more : {X : Type 0} (list : View J O → List (ℕ × X)) (m : ℕ) (y : X) → list w ≡ list v ++ (m, y) ∷ [] → ((seat place : ℕ) (x : X) → Stands list views seat place (m, x) → ⊥) → Once list views → Once list (set views id w)
  once_more {X} list m y more new once a p b q n x z st su = let first : ℕ × X → ℕ = λ t. t.0 in
      ⊎_elim (λ old. ⊎_elim (λ old'. once a p b q n x z old old') (λ t. absurd (new a p x (subst (λ (k : ℕ). Stands list views a p (k, x)) (sym (ap first t.2)) old))) (one_more views id v w here list (m, y) more b q (n, z) su))
      (λ t. ⊎_elim (λ old'. absurd (new b q z (subst (λ (k : ℕ). Stands list views b q (k, z)) (sym (ap first t.2)) old'))) (λ t'. (t.0 ∙ sym t'.0, t.1 ∙ sym t'.1)) (one_more views id v w here list (m, y) more b q (n, z) su))
      (one_more views id v w here list (m, y) more a p (n, x) st)

-- a closing word of 1 says that the lead has closed
says_closed : (b : Bool) → closing_word b ≡ 1 → b ≡ true
says_closed true e = refl
says_closed false e = absurd (omega arith)

pub is_closed : {J O : Type 0} (views : List (View J O)) (words : List ℕ) (slots : ℕ) → ClosingFits views words slots → get_or words slots 0 ≡ 1 → IsClosed views
is_closed views words slots c one = (0, c.0, c.1, says_closed c.0.closed (sym c.3 ∙ one))
