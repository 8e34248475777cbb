-- Looks keep the rule, also the lead's first ones, and so do closing and coming to the board.
use Rattle.std.proofs.Common.{◌≡◌, ◌≢◌, ℕ, suc, ◌<◌, true, List, [], ◌∷◌, ◌++◌, length, get_or, set, sym, refl, ap, ◌∙◌, subst, inl, ⊎_elim, arith, length-set, get_or-set_same, get_or-set_other, None}
use Rattle.std.proofs.lemmas.List.{set-get_or}
use mathlib.Core.Option.{none, some, some-injective, some-ne-none}
use mathlib.Core.Option as maybe
use mathlib.Core.Logic.{dite}
use native.Mathlib.Decide.{ℕ_discrete}
use lib.ListN.{get_elem?}
use Rattle.atomic_table.specs.Table.{State, step, keeps, takes, Allows}
use Rattle.atomic_table.proofs.Lists.{set_else}
use Rattle.job_board.specs.declared.view.View.{View}
use Rattle.job_board.specs.Words.{finished_word}
use Rattle.job_board.specs.Views.{having_read, after_close, after_claim}
use Rattle.job_board.specs.HandsOff.{posted_of, collected_of, free_of, taken_of, done_of, read_of}
use Rattle.job_board.specs.Board.{Slot, idle, finished, number, Posts, IsSpare, SlotFits, FreeFits, FreeOnce, ReadFits, ClosesFits, ClosingFits, SeenFits, IsKept, IsBoard}
use Rattle.job_board.specs.Plays.{Seated, looked, sought, claimed, shut}
use Rattle.job_board.proofs.Places.{mine, set_there, before, still, one_more}
use Rattle.job_board.proofs.Frees.{longer_free, longer_once, longer_spare, first_spare}
use Rattle.job_board.proofs.Stays.{Grown, once_stays, leads_stay, closes_stay, closed_stays, closing_stays, is_closed, slot_stays, bare, word_finished, at_phase, whole, read_old, taken_stays, read_stays, free_stays, posted_stays, done_stays, collected_stays, free_once_stays}

module _ {J O : Type 0} (answers : J → O → Type 0) (s : State (Slot J O) (View J O)) (r : IsKept answers s) where
  -- a view that says the same of jobs
  module _ (id : ℕ) (v w : View J O) (here : get_elem? s.views id ≡ some v) (same_posted : w.posted ≡ v.posted) (same_collected : w.collected ≡ v.collected) (same_taken : w.taken ≡ v.taken) (same_done : w.done ≡ v.done) where
    pub grown : Grown s.views (set s.views id w)
    grown = record {
      posted = still s.views id v w here posted_of same_posted;
      taken = still s.views id v w here taken_of same_taken;
      done = still s.views id v w here done_of same_done;
      collected = still s.views id v w here collected_of same_collected;
    }

    -- a slot whose word and home are as they were
    pub slot_same : (words : List ℕ) (homes : List (maybe.Option (Slot J O))) (i : ℕ) → i < r.slots → get_or words i 0 ≡ get_or s.words i 0 → get_elem? homes i ≡ get_elem? s.homes i
        → (IsSpare s.views i → IsSpare (set s.views id w) i) → SlotFits (set s.views id w) answers (get_or words i 0) i (get_elem? homes i) (r.phase i)
    slot_same words homes i near word home sp =
        subst (λ (z : ℕ). SlotFits (set s.views id w) answers z i (get_elem? homes i) (r.phase i)) (sym word)
        (subst (λ (z : maybe.Option (maybe.Option (Slot J O))). SlotFits (set s.views id w) answers (get_or s.words i 0) i z (r.phase i)) (sym home)
        (slot_stays s.views (set s.views id w) grown answers (get_or s.words i 0) i (get_elem? s.homes i) (r.phase i)
        (λ _ not h p o st. not h p o (before s.views id v w here collected_of same_collected h p (number (r.phase i), o) st))
        (λ _ not h p k j st. not h p k j (before s.views id v w here taken_of same_taken h p (number (r.phase i), (k, j)) st)) sp (r.each_slot i near)))

  -- what is read of a word below the count of slots is there, or collected
  seen_finished : (i n : ℕ) → get_or s.words i 0 ≡ finished_word n → i < r.slots → (j : J) × (o : O) × (r.phase i ≡ finished n j o)
  seen_finished i n e near = word_finished s.views answers (get_or s.words i 0) i (get_elem? s.homes i) n (r.phase i) (r.each_slot i near) e

  -- a list that says what was read, with one entry more, the word i as it is
  module _ (i id : ℕ) (v w : View J O) (here : get_elem? s.views id ≡ some v) (more : w.read ≡ v.read ++ (i, get_or s.words i 0) ∷ []) (g : Grown s.views (set s.views id w)) where
    pub read_more : ReadFits (set s.views id w) r.slots r.phase
    read_more seat place slot n st near = ⊎_elim (λ old. read_old answers s r (set s.views id w) g r.phase (λ _ _ _ _ e. inl e) seat place slot n old near)
        (λ t. inl (seen_finished slot n (ap (λ (z : ℕ). get_or s.words z 0) (sym (ap (λ (z : ℕ × ℕ). z.0) t.2)) ∙ ap (λ (z : ℕ × ℕ). z.1) t.2) near))
        (one_more s.views id v w here read_of (i, get_or s.words i 0) more seat place (slot, finished_word n) st)

    pub seen_more : w.closed ≡ v.closed → SeenFits (set s.views id w) r.slots
    seen_more same seat place st = closed_stays s.views id v w here (λ e. same ∙ e) (⊎_elim (λ old. r.seen seat place old)
        (λ t. is_closed s.views s.words r.slots r.closing (ap (λ (z : ℕ). get_or s.words z 0) (sym (ap (λ (z : ℕ × ℕ). z.0) t.2)) ∙ ap (λ (z : ℕ × ℕ). z.1) t.2))
        (one_more s.views id v w here read_of (i, get_or s.words i 0) more seat place (r.slots, 1) st))

    -- a look, which leaves the words as they are
    closing_seen : w.leads ≡ v.leads → w.closed ≡ v.closed → ClosesFits (set s.views id w) × ClosingFits (set s.views id w) (set s.words i (get_or s.words i 0)) r.slots × SeenFits (set s.views id w) r.slots
    closing_seen role same = (
      closes_stay s.views id v w here (λ e. role ∙ r.closes id v here (sym same ∙ e)) r.closes,
      closing_stays s.views id v w here s.words (set s.words i (get_or s.words i 0)) r.slots role same (ap (λ (l : List ℕ). get_or l r.slots 0) (set-get_or s.words i 0)) r.closing,
      seen_more same,
    )

  -- a step that changes no list of jobs
  module _ (id : ℕ) (v w : View J O) (here : get_elem? s.views id ≡ some v) (same_posted : w.posted ≡ v.posted) (same_collected : w.collected ≡ v.collected) (same_taken : w.taken ≡ v.taken) (same_done : w.done ≡ v.done) (same_role : w.leads ≡ v.leads) where
    view_keeps : (words : List ℕ) (homes : List (maybe.Option (Slot J O))) → length words ≡ length s.words → length homes ≡ length s.homes
        → ((i : ℕ) → i < r.slots → SlotFits (set s.views id w) answers (get_or words i 0) i (get_elem? homes i) (r.phase i))
        → ReadFits (set s.views id w) r.slots r.phase → FreeFits (set s.views id w) r.slots r.phase → FreeOnce (set s.views id w)
        → ClosesFits (set s.views id w) × ClosingFits (set s.views id w) words r.slots × SeenFits (set s.views id w) r.slots
        → IsKept answers record { words = words; homes = homes; views = set s.views id w }
    view_keeps words homes wide deep each read free once shut = let g = grown id v w here same_posted same_collected same_taken same_done in let after : List (View J O) = set s.views id w in record {
      slots = r.slots;
      phase = r.phase;
      wide = wide ∙ r.wide;
      deep = deep ∙ r.deep;
      each_slot = each;
      apart = r.apart;
      posted = posted_stays answers s r after g (before s.views id v w here posted_of same_posted);
      taken = taken_stays answers s r after g r.phase (before s.views id v w here taken_of same_taken) (λ _ _ _ _ e. inl e);
      taken_once = once_stays s.views id v w here taken_of same_taken r.taken_once;
      done = done_stays answers s r after g (before s.views id v w here done_of same_done);
      collected = collected_stays answers s r after g (before s.views id v w here collected_of same_collected);
      collected_once = once_stays s.views id v w here collected_of same_collected r.collected_once;
      read = read;
      free = free;
      free_once = once;
      leads = leads_stay s.views id v w here same_role r.leads;
      closes = shut.0;
      closing = shut.1;
      seen = shut.2;
    }

  pub look_keeps : (i id : ℕ) (v : View J O) → get_elem? s.views id ≡ some v
      → IsKept answers record { words = set s.words i (get_or s.words i 0); homes = s.homes; views = set s.views id (having_read v ((i, get_or s.words i 0) ∷ [])) }
  look_keeps i id v here = let w : View J O = having_read v ((i, get_or s.words i 0) ∷ []) in let g = grown id v w here refl refl refl refl in
      view_keeps id v w here refl refl refl refl refl (set s.words i (get_or s.words i 0)) s.homes (length-set s.words i (get_or s.words i 0)) refl
      (λ k near. slot_same id v w here refl refl refl refl (set s.words i (get_or s.words i 0)) s.homes k near (ap (λ (l : List ℕ). get_or l k 0) (set-get_or s.words i 0)) refl (λ t. (t.0, still s.views id v w here free_of refl 0 t.0 k t.1)))
      (read_more i id v w here refl g)
      (free_stays answers s r (set s.views id w) g r.phase (before s.views id v w here free_of refl) (λ _ e. e))
      (free_once_stays answers s r (set s.views id w) g (before s.views id v w here free_of refl))
      (closing_seen i id v w here refl g refl refl)

  -- the lead closes: the closing word is 1 from now on
  closing_now : (i x id : ℕ) (v : View J O) (here : get_elem? s.views id ≡ some v) → v.leads ≡ true → i ≡ r.slots → x ≡ 1 → ClosingFits (set s.views id (after_close v)) (set s.words i x) r.slots
  closing_now i x id v here lead last one = let w : View J O = after_close v in let first : id ≡ 0 = r.leads id v here lead in let wide : length s.words ≡ suc r.slots = r.wide in (
    w,
    subst (λ (h : ℕ). get_elem? (set s.views id w) h ≡ some w) first (set_there s.views id v w here),
    lead,
    subst (λ (z : ℕ). get_or (set s.words z x) r.slots 0 ≡ 1) (sym last) (get_or-set_same s.words r.slots x 0 (omega arith) ∙ one),
  )

  close_keeps : (i x id : ℕ) (v : View J O) → get_elem? s.views id ≡ some v → v.leads ≡ true → i ≡ r.slots → x ≡ 1 → IsKept answers record { words = set s.words i x; homes = s.homes; views = set s.views id (after_close v) }
  close_keeps i x id v here lead last one = let w : View J O = after_close v in let g = grown id v w here refl refl refl refl in
      view_keeps id v w here refl refl refl refl refl (set s.words i x) s.homes (length-set s.words i x) refl
      (λ k near. slot_same id v w here refl refl refl refl (set s.words i x) s.homes k near (get_or-set_other s.words i k x 0 (λ e. omega arith)) refl (λ t. (t.0, still s.views id v w here free_of refl 0 t.0 k t.1)))
      (read_stays answers s r (set s.views id w) g r.phase (before s.views id v w here read_of refl) (λ _ _ _ _ e. inl e))
      (free_stays answers s r (set s.views id w) g r.phase (before s.views id v w here free_of refl) (λ _ e. e))
      (free_once_stays answers s r (set s.views id w) g (before s.views id v w here free_of refl)) (
        closes_stay s.views id v w here (λ _. lead) r.closes,
        closing_now i x id v here lead last one,
        λ seat place st. closed_stays s.views id v w here (λ _. refl) (r.seen seat place (before s.views id v w here read_of refl seat place (r.slots, 1) st)),
      )

  -- a slot of a board on which nothing was posted, and which the lead has not claimed yet
  module _ (k : ℕ) (v : View J O) (here : get_elem? s.views 0 ≡ some v) (none_posted : v.posted ≡ []) (inside : k < r.slots) (new : (at : ℕ) → get_elem? v.free at ≢ some k) where
    unclaimed : (r.phase k ≡ idle) × (get_or s.words k 0 ≡ 0) × (get_elem? s.homes k ≡ some (some None))
    unclaimed =
        let none : (n : ℕ) (j : J) → Posts s.views n j → ⊥ = λ n j p. some-ne-none (n, j) (sym (subst (λ (l : List (ℕ × J)). get_elem? l p.0 ≡ some (n, j)) none_posted (mine s.views 0 v v here posted_of p.0 (n, j) p.2))) in
        let b = bare s.views answers (get_or s.words k 0) k (get_elem? s.homes k) none (r.phase k) (r.each_slot k inside) in
        (b.0, b.1.0, ⊎_elim (λ sp. absurd (new sp.0 (mine s.views 0 v v here free_of sp.0 k sp.1))) (λ h. h) b.1.1)

    claim_keeps : IsKept answers record { words = set s.words k (get_or s.words k 0); homes = set s.homes k none; views = set s.views 0 (after_claim v k (get_or s.words k 0)) }
    claim_keeps = let w : View J O = after_claim v k (get_or s.words k 0) in let g = grown 0 v w here refl refl refl refl in let u = unclaimed in
        view_keeps 0 v w here refl refl refl refl refl (set s.words k (get_or s.words k 0)) (set s.homes k none) (length-set s.words k (get_or s.words k 0)) (length-set s.homes k none)
        (λ i near. let word : get_or (set s.words k (get_or s.words k 0)) i 0 ≡ get_or s.words i 0 = ap (λ (l : List ℕ). get_or l i 0) (set-get_or s.words k 0) in
        dite (ℕ_discrete i k)
        (λ e. subst (SlotFits (set s.views 0 w) answers (get_or (set s.words k (get_or s.words k 0)) i 0) i (get_elem? (set s.homes k none) i)) (sym (ap r.phase e ∙ u.0))
        (word ∙ ap (λ (z : ℕ). get_or s.words z 0) e ∙ u.1, inl (subst (IsSpare (set s.views 0 w)) (sym e) (first_spare s.views v w here r.slots r.phase r.phase k refl))))
        (λ other. slot_same 0 v w here refl refl refl refl (set s.words k (get_or s.words k 0)) (set s.homes k none) i near word (set_else s.homes k i none other) (longer_spare s.views v w here r.slots r.phase r.phase k refl i)))
        (read_more k 0 v w here refl g)
        (longer_free s.views v w here r.slots r.phase r.phase k refl inside u.0 (λ _ e. e) r.free)
        (longer_once s.views v w here r.slots r.phase r.phase k refl new r.free_once)
        (closing_seen k 0 v w here refl g refl refl)

module _ {J O : Type 0} (answers : J → O → Type 0) where
  pub looks : (n id : ℕ) (me : Seated J O) (i : ℕ) → Allows (IsBoard answers) n id me i (λ x. x) (looked (step n i 0 0 none) me)
  looks n id me i s h deep here small = (having_read me.0 ((i, get_or s.words i 0) ∷ []), keeps, tt, whole answers _ (look_keeps answers s h.1 i id me.0 here), refl)

  pub seeks : (n id : ℕ) (me : Seated J O) (i : ℕ) → Allows (IsBoard answers) n id me i (λ x. x) (sought (step n i 0 0 none) me)
  seeks n id me i s h deep here small = let r = h.1 in (
    having_read me.0 ((i, get_or s.words i 0) ∷ []),
    keeps,
    tt,
    whole answers _ (look_keeps answers s r i id me.0 here),
    (
      refl,
      λ m e near. let inside : i < r.slots = subst (λ (z : ℕ). i < z) (sym deep ∙ r.deep) near in
          let p = word_finished s.views answers (get_or s.words i 0) i (get_elem? s.homes i) m (r.phase i) (r.each_slot i inside) e in
          let f = at_phase answers s r i inside (finished m p.0 p.1) p.2 in λ at o c. f.3 id at o (me.0, here, c),
    ),
  )

  pub closes : (n id : ℕ) (me : Seated J O) (i x : ℕ) → me.0.leads ≡ true → i ≡ n → x ≡ 1 → Allows (IsBoard answers) n id me i (λ _. x) (shut (step n i x 0 none) me)
  closes n id me i x lead last one s h deep here small = (after_close me.0, keeps, tt, whole answers _ (close_keeps answers s h.1 i x id me.0 here lead (last ∙ sym deep ∙ h.1.deep) one), refl)

  pub claims : (n id : ℕ) (me : Seated J O) (k : ℕ) → me.0.leads ≡ true → me.0.posted ≡ [] → k < n → ((at : ℕ) → get_elem? me.0.free at ≢ some k) → Allows (IsBoard answers) n id me k (λ x. x) (claimed (step n k 0 0 none) me)
  claims n id me k lead none_posted inside new s h deep here small = let r = h.1 in let first : id ≡ 0 = r.leads id me.0 here lead in let near : k < r.slots = subst (λ (z : ℕ). k < z) (sym deep ∙ r.deep) inside in
      let here0 : get_elem? s.views 0 ≡ some me.0 = subst (λ (z : ℕ). get_elem? s.views z ≡ some me.0) first here in let found : ℕ = get_or s.words k 0 in (
        after_claim me.0 k found,
        takes k None,
        (unclaimed answers s r k me.0 here0 none_posted near new).2,
        subst (λ (z : ℕ). IsBoard answers record { words = set s.words k found; homes = set s.homes k none; views = set s.views z (after_claim me.0 k found) }) (sym first)
            (whole answers _ (claim_keeps answers s r k me.0 here0 none_posted near new)),
        refl,
      )
