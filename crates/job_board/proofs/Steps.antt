-- The steps that hand a job on keep the rule.
use Rattle.std.proofs.Common.{◌≡◌, ◌≢◌, ℕ, suc, ◌<◌, ◌⊎◌, List, length, get_or, set, sym, refl, ap, ◌∙◌, subst, inl, inr, ⊎_elim, arith, length-set, get_or-set_same, get_or-set_other, Some}
use mathlib.Core.Option.{none, some}
use mathlib.Core.Option as maybe
use mathlib.Core.Logic.{dite}
use native.Mathlib.Decide.{ℕ_discrete}
use lib.ListN.{get_elem?}
use Rattle.atomic_table.specs.Table.{State}
use Rattle.atomic_table.proofs.Lists.{set_else, set_here}
use Rattle.job_board.specs.declared.view.View.{View}
use Rattle.job_board.specs.declared.view.Content.TheVariants.{Job, Outcome}
use Rattle.job_board.specs.Words.{posted_word, taken_word, finished_word}
use Rattle.job_board.specs.Views.{after_post, after_take, after_done, after_collect}
use Rattle.job_board.specs.HandsOff.{posted_of, collected_of, free_of, taken_of, done_of, read_of, Stands}
use Rattle.job_board.specs.Board.{Slot, Phase, idle, waiting, running, finished, number, Posts, IsDone, ClosesFits, ClosingFits, SeenFits, SlotFits, IsKept}
use Rattle.job_board.proofs.Places.{within, mine, before, still, longer, one_more, last_there}
use Rattle.job_board.proofs.Stays.{put, at_put, put_here, put_else, Grown, posts, dones, slot_posts, at_phase, each_put, apart_put, taken_old, taken_stays, read_stays, free_stays, posted_stays, done_old, done_stays, collected_old, collected_stays, free_once_stays, once_stays, once_more, leads_stay, closes_stay, closing_stays, seen_stays}
use Rattle.job_board.proofs.Frees.{longer_free, longer_once, longer_spare, first_spare, shorter_free, shorter_once, shorter_spare}

-- where a slot is at another phase than this, it is another slot
elsewhere : {P : Type 0} (phase : ℕ → P) (k : ℕ) (c c' : P) → phase k ≡ c → (c ≡ c' → ⊥) → (i : ℕ) → phase i ≡ c' → i ≢ k
elsewhere phase k c c' is apart i e same = apart (sym is ∙ ap phase (sym same) ∙ e)

abbrev hand_of : {J O : Type 0} → Phase J O → ℕ
hand_of idle = 0
hand_of (waiting n j) = 0
hand_of (running n j hand) = hand
hand_of (finished n j o) = 0

module _ {J O : Type 0} (answers : J → O → Type 0) (s : State (Slot J O) (View J O)) (r : IsKept answers s) (k x : ℕ) (inside : k < r.slots) where
  word_here : get_or (set s.words k x) k 0 ≡ x
  word_here = let wide : length s.words ≡ suc r.slots = r.wide in let near : k < r.slots = inside in get_or-set_same s.words k x 0 (omega arith)

  home_here : (y : maybe.Option (Slot J O)) → get_elem? (set s.homes k y) k ≡ some y
  home_here y = set_here s.homes k y (subst (λ (z : ℕ). k < z) (sym r.deep) inside)

  -- the closing word is another, and no view says that the board is closed that did not
  module _ (id : ℕ) (v w : View J O) (here : get_elem? s.views id ≡ some v) (role : w.leads ≡ v.leads) (same : w.closed ≡ v.closed) (reads : w.read ≡ v.read) where
    closing_too : ClosesFits (set s.views id w) × ClosingFits (set s.views id w) (set s.words k x) r.slots × SeenFits (set s.views id w) r.slots
    closing_too = let near : k < r.slots = inside in (
      closes_stay s.views id v w here (λ e. role ∙ r.closes id v here (sym same ∙ e)) r.closes,
      closing_stays s.views id v w here s.words (set s.words k x) r.slots role same (get_or-set_other s.words k r.slots x 0 (λ e. omega arith)) r.closing,
      seen_stays s.views id v w here s.words (set s.words k x) r.slots role same reads r.seen,
    )

  -- the lead posts a job in its first free slot
  module _ (v : View J O) (here : get_elem? s.views 0 ≡ some v) (n : ℕ) (j : J) (next : n ≡ suc (length v.posted)) (top : get_elem? v.free 0 ≡ some k) (shows : x ≡ posted_word n) where
    abbrev P : View J O
    P = after_post v n j

    below : (m : ℕ) (i : J) → Posts s.views m i → m < n
    below m i p = let near : p.0 < length v.posted = within v.posted p.0 (m, i) (mine s.views 0 v v here posted_of p.0 (m, i) p.2) in let e : m ≡ suc p.0 = p.1 in let d : n ≡ suc (length v.posted) = next in omega arith

    was_idle : r.phase k ≡ idle
    was_idle = (r.free 0 0 k (v, here, top)).2

    other_kind : (c : Phase J O) → (idle ≡ c → ⊥) → (i : ℕ) → r.phase i ≡ c → put r.phase k (waiting n j) i ≡ c
    other_kind c apart i e = put_else r.phase k (waiting n j) i (elsewhere r.phase k idle c was_idle apart i e) ∙ e

    pub post_keeps : IsKept answers record { words = set s.words k x; homes = set s.homes k (some (Some (Job j))); views = set s.views 0 (after_post v n j) }
    post_keeps = let after : List (View J O) = set s.views 0 P in let shut = closing_too 0 v P here refl refl refl in
        let g : Grown s.views after = record { posted = longer s.views 0 v P here posted_of (n, j) refl; taken = still s.views 0 v P here taken_of refl; done = still s.views 0 v P here done_of refl; collected = still s.views 0 v P here collected_of refl } in
        let now : Posts after n j = (length v.posted, next, last_there s.views 0 v P here posted_of (n, j) refl) in record {
          slots = r.slots;
          phase = put r.phase k (waiting n j);
          wide = length-set s.words k x ∙ r.wide;
          deep = length-set s.homes k (some (Some (Job j))) ∙ r.deep;
          each_slot = each_put answers s r after g k x (waiting n j) (set s.homes k (some (Some (Job j)))) inside (λ i other. set_else s.homes k i (some (Some (Job j))) other)
              (λ m _ not h p o st. not h p o (before s.views 0 v P here collected_of refl h p (m, o) st)) (λ m _ not h p q i st. not h p q i (before s.views 0 v P here taken_of refl h p (m, (q, i)) st))
              (shorter_spare s.views v P here r.slots r.phase r.phase k refl top) (
                word_here ∙ shows,
                home_here (some (Some (Job j))),
                now,
                (λ h p o st. let c = r.collected h p n o (before s.views 0 v P here collected_of refl h p (n, o) st) in let lt : n < n = below n c.2.0 c.2.1 in absurd (omega arith)),
                (λ h p q i st. let t = r.taken h p n q i (before s.views 0 v P here taken_of refl h p (n, (q, i)) st) in let lt : n < n = below n i t.0 in absurd (omega arith)),
              );
          apart = apart_put answers s r after g k (waiting n j) (λ i near _ nz e.
              let p = slot_posts s.views answers (get_or s.words i 0) i (get_elem? s.homes i) (r.phase i) (r.each_slot i near) (λ z. nz (sym e ∙ z)) in let lt : number (r.phase i) < n = below (number (r.phase i)) p.0 p.1 in omega (arith, e));
          posted = λ seat place m i st. ⊎_elim (λ old. r.posted seat place m i old) (λ t. (t.0, sym (ap (λ (z : ℕ × J). z.0) t.2) ∙ next ∙ ap suc (sym t.1))) (one_more s.views 0 v P here posted_of (n, j) refl seat place (m, i) st);
          taken = taken_stays answers s r after g (put r.phase k (waiting n j)) (before s.views 0 v P here taken_of refl) (λ i m y h e. inl (other_kind (running m y h) (λ c. (cc)) i e));
          taken_once = once_stays s.views 0 v P here taken_of refl r.taken_once;
          done = done_stays answers s r after g (before s.views 0 v P here done_of refl);
          collected = collected_stays answers s r after g (before s.views 0 v P here collected_of refl);
          collected_once = once_stays s.views 0 v P here collected_of refl r.collected_once;
          read = read_stays answers s r after g (put r.phase k (waiting n j)) (before s.views 0 v P here read_of refl) (λ i m y o e. inl (other_kind (finished m y o) (λ c. (cc)) i e));
          free = shorter_free s.views v P here r.slots r.phase (put r.phase k (waiting n j)) k refl top (λ i other e. put_else r.phase k (waiting n j) i other ∙ e) r.free r.free_once;
          free_once = shorter_once s.views v P here r.slots r.phase r.phase k refl top r.free_once;
          leads = leads_stay s.views 0 v P here refl r.leads;
          closes = shut.0;
          closing = shut.1;
          seen = shut.2;
        }

  -- a hand takes the job that waits in the slot
  module _ (id : ℕ) (v : View J O) (here : get_elem? s.views id ≡ some v) (n : ℕ) (j : J) (was : r.phase k ≡ waiting n j) (shows : x ≡ taken_word n) where
    abbrev T : View J O
    T = after_take v n k j

    fits_waiting : SlotFits s.views answers (get_or s.words k 0) k (get_elem? s.homes k) (waiting n j)
    fits_waiting = at_phase answers s r k inside (waiting n j) was

    taken_kind : (c : Phase J O) → (waiting n j ≡ c → ⊥) → (i : ℕ) → r.phase i ≡ c → put r.phase k (running n j id) i ≡ c
    taken_kind c apart i e = put_else r.phase k (running n j id) i (elsewhere r.phase k (waiting n j) c was apart i e) ∙ e

    pub take_keeps : IsKept answers record { words = set s.words k x; homes = set s.homes k none; views = set s.views id (after_take v n k j) }
    take_keeps = let after : List (View J O) = set s.views id T in let shut = closing_too id v T here refl refl refl in let f = fits_waiting in
        let g : Grown s.views after = record { posted = still s.views id v T here posted_of refl; taken = longer s.views id v T here taken_of (n, (k, j)) refl; done = still s.views id v T here done_of refl; collected = still s.views id v T here collected_of refl } in
        let runs = λ (i m : ℕ) (y : J) (h : ℕ) (e : r.phase i ≡ running m y h). inl (taken_kind (running m y h) (λ c. (cc)) i e) in record {
          slots = r.slots;
          phase = put r.phase k (running n j id);
          wide = length-set s.words k x ∙ r.wide;
          deep = length-set s.homes k none ∙ r.deep;
          each_slot = each_put answers s r after g k x (running n j id) (set s.homes k none) inside (λ i other. set_else s.homes k i none other)
              (λ m _ not h p o st. not h p o (before s.views id v T here collected_of refl h p (m, o) st))
              (λ m other not h p q i st. ⊎_elim (λ old. not h p q i old) (λ t. other (sym (ap (λ (z : ℕ × (ℕ × J)). z.0) t.2) ∙ ap number (sym was))) (one_more s.views id v T here taken_of (n, (k, j)) refl h p (m, (q, i)) st))
              (λ i _ t. (t.0, still s.views id v T here free_of refl 0 t.0 i t.1))
              (word_here ∙ shows, posts s.views after g n j f.2, λ h p o st. f.3 h p o (before s.views id v T here collected_of refl h p (n, o) st));
          apart = apart_put answers s r after g k (running n j id) (λ i near other nz e. other (r.apart i k near inside (e ∙ ap number (sym was)) (λ z. nz (sym e ∙ z))));
          posted = posted_stays answers s r after g (before s.views id v T here posted_of refl);
          taken = λ seat place m slot i st. ⊎_elim (λ old. taken_old answers s r after g (put r.phase k (running n j id)) runs seat place m slot i old)
              (λ t. subst (λ (z : ℕ × (ℕ × J)). Posts after z.0 z.1.1 × (((z.1.0 < r.slots) × (put r.phase k (running n j id) z.1.0 ≡ running z.0 z.1.1 seat)) ⊎ ((at : ℕ) × Stands done_of after seat at z.0))) t.2
              (posts s.views after g n j f.2, inl (inside, put_here r.phase k (running n j id) ∙ ap (running n j) (sym t.0)))) (one_more s.views id v T here taken_of (n, (k, j)) refl seat place (m, (slot, i)) st);
          taken_once = once_more s.views id v T here taken_of n (k, j) refl (λ seat place y st. f.4 seat place y.0 y.1 st) r.taken_once;
          done = done_stays answers s r after g (before s.views id v T here done_of refl);
          collected = collected_stays answers s r after g (before s.views id v T here collected_of refl);
          collected_once = once_stays s.views id v T here collected_of refl r.collected_once;
          read = read_stays answers s r after g (put r.phase k (running n j id)) (before s.views id v T here read_of refl) (λ i m y o e. inl (taken_kind (finished m y o) (λ c. (cc)) i e));
          free = free_stays answers s r after g (put r.phase k (running n j id)) (before s.views id v T here free_of refl) (taken_kind idle (λ c. (cc)));
          free_once = free_once_stays answers s r after g (before s.views id v T here free_of refl);
          leads = leads_stay s.views id v T here refl r.leads;
          closes = shut.0;
          closing = shut.1;
          seen = shut.2;
        }

  -- the hand gives the outcome of the job that it runs there
  module _ (id : ℕ) (v : View J O) (here : get_elem? s.views id ≡ some v) (n : ℕ) (j : J) (o : O) (was : r.phase k ≡ running n j id) (answered : answers j o) (shows : x ≡ finished_word n) (took : (at : ℕ) × (get_elem? v.taken at ≡ some (n, (k, j)))) where
    abbrev D : View J O
    D = after_done v n

    fits_running : SlotFits s.views answers (get_or s.words k 0) k (get_elem? s.homes k) (running n j id)
    fits_running = at_phase answers s r k inside (running n j id) was

    done_kind : (c : Phase J O) → (running n j id ≡ c → ⊥) → (i : ℕ) → r.phase i ≡ c → put r.phase k (finished n j o) i ≡ c
    done_kind c apart i e = put_else r.phase k (finished n j o) i (elsewhere r.phase k (running n j id) c was apart i e) ∙ e

    pub done_keeps : IsKept answers record { words = set s.words k x; homes = set s.homes k (some (Some (Outcome o))); views = set s.views id (after_done v n) }
    done_keeps = let after : List (View J O) = set s.views id D in let shut = closing_too id v D here refl refl refl in let f = fits_running in
        let g : Grown s.views after = record { posted = still s.views id v D here posted_of refl; taken = still s.views id v D here taken_of refl; done = longer s.views id v D here done_of n refl; collected = still s.views id v D here collected_of refl } in
        let now : Stands done_of after id (length v.done) n = last_there s.views id v D here done_of n refl in record {
          slots = r.slots;
          phase = put r.phase k (finished n j o);
          wide = length-set s.words k x ∙ r.wide;
          deep = length-set s.homes k (some (Some (Outcome o))) ∙ r.deep;
          each_slot = each_put answers s r after g k x (finished n j o) (set s.homes k (some (Some (Outcome o)))) inside (λ i other. set_else s.homes k i (some (Some (Outcome o))) other)
              (λ m _ not h p y st. not h p y (before s.views id v D here collected_of refl h p (m, y) st))
              (λ m _ not h p q i st. not h p q i (before s.views id v D here taken_of refl h p (m, (q, i)) st))
              (λ i _ t. (t.0, still s.views id v D here free_of refl 0 t.0 i t.1))
              (word_here ∙ shows, home_here (some (Some (Outcome o))), posts s.views after g n j f.1, (λ h p y st. f.2 h p y (before s.views id v D here collected_of refl h p (n, y) st)), (id, length v.done, now), answered);
          apart = apart_put answers s r after g k (finished n j o) (λ i near other nz e. other (r.apart i k near inside (e ∙ ap number (sym was)) (λ z. nz (sym e ∙ z))));
          posted = posted_stays answers s r after g (before s.views id v D here posted_of refl);
          taken = taken_stays answers s r after g (put r.phase k (finished n j o)) (before s.views id v D here taken_of refl) (λ i m y h e. dite (ℕ_discrete i k)
              (λ same. let q : running n j id ≡ running m y h = sym was ∙ ap r.phase (sym same) ∙ e in let mn : n ≡ m = ap number q in let hh : id ≡ h = ap hand_of q in
              inr (length v.done, subst (λ (z : ℕ). Stands done_of after z (length v.done) m) hh (subst (λ (z : ℕ). Stands done_of after id (length v.done) z) mn now)))
              (λ other. inl (put_else r.phase k (finished n j o) i other ∙ e)));
          taken_once = once_stays s.views id v D here taken_of refl r.taken_once;
          done = λ seat place m st. ⊎_elim (λ old. done_old answers s r after g seat place m old)
              (λ t. (took.0, k, j, subst (λ (z : ℕ). Stands taken_of after z took.0 (m, (k, j))) (sym t.0) (subst (λ (z : ℕ). Stands taken_of after id took.0 (z, (k, j))) t.2 (still s.views id v D here taken_of refl id took.0 (n, (k, j)) (v, here, took.1)))))
              (one_more s.views id v D here done_of n refl seat place m st);
          collected = collected_stays answers s r after g (before s.views id v D here collected_of refl);
          collected_once = once_stays s.views id v D here collected_of refl r.collected_once;
          read = read_stays answers s r after g (put r.phase k (finished n j o)) (before s.views id v D here read_of refl) (λ i m y z e. inl (done_kind (finished m y z) (λ c. (cc)) i e));
          free = free_stays answers s r after g (put r.phase k (finished n j o)) (before s.views id v D here free_of refl) (done_kind idle (λ c. (cc)));
          free_once = free_once_stays answers s r after g (before s.views id v D here free_of refl);
          leads = leads_stay s.views id v D here refl r.leads;
          closes = shut.0;
          closing = shut.1;
          seen = shut.2;
        }

  -- the lead collects the outcome that lies in the slot
  module _ (v : View J O) (here : get_elem? s.views 0 ≡ some v) (n : ℕ) (j : J) (o : O) (was : r.phase k ≡ finished n j o) (shows : x ≡ 0) where
    abbrev C : View J O
    C = after_collect v n o k

    fits_finished : SlotFits s.views answers (get_or s.words k 0) k (get_elem? s.homes k) (finished n j o)
    fits_finished = at_phase answers s r k inside (finished n j o) was

    collected_kind : (c : Phase J O) → (finished n j o ≡ c → ⊥) → (i : ℕ) → r.phase i ≡ c → put r.phase k idle i ≡ c
    collected_kind c apart i e = put_else r.phase k idle i (elsewhere r.phase k (finished n j o) c was apart i e) ∙ e

    -- the slot was not the lead's
    pub was_busy : (at : ℕ) → get_elem? v.free at ≢ some k
    was_busy at e = let is : finished n j o ≡ idle = sym was ∙ (r.free 0 at k (v, here, e)).2 in (cc)

    pub collect_keeps : IsKept answers record { words = set s.words k x; homes = set s.homes k none; views = set s.views 0 (after_collect v n o k) }
    collect_keeps = let after : List (View J O) = set s.views 0 C in let shut = closing_too 0 v C here refl refl refl in let f = fits_finished in
        let g : Grown s.views after = record { posted = still s.views 0 v C here posted_of refl; taken = still s.views 0 v C here taken_of refl; done = still s.views 0 v C here done_of refl; collected = longer s.views 0 v C here collected_of (n, o) refl } in
        let now : Stands collected_of after 0 (length v.collected) (n, o) = last_there s.views 0 v C here collected_of (n, o) refl in record {
          slots = r.slots;
          phase = put r.phase k idle;
          wide = length-set s.words k x ∙ r.wide;
          deep = length-set s.homes k none ∙ r.deep;
          each_slot = each_put answers s r after g k x idle (set s.homes k none) inside (λ i other. set_else s.homes k i none other)
              (λ m other not h p y st. ⊎_elim (λ old. not h p y old) (λ t. other (sym (ap (λ (z : ℕ × O). z.0) t.2) ∙ ap number (sym was))) (one_more s.views 0 v C here collected_of (n, o) refl h p (m, y) st))
              (λ m _ not h p q i st. not h p q i (before s.views 0 v C here taken_of refl h p (m, (q, i)) st))
              (λ i _. longer_spare s.views v C here r.slots r.phase r.phase k refl i)
              (word_here ∙ shows, inl (first_spare s.views v C here r.slots r.phase r.phase k refl));
          apart = apart_put answers s r after g k idle (λ i near other nz e. nz refl);
          posted = posted_stays answers s r after g (before s.views 0 v C here posted_of refl);
          taken = taken_stays answers s r after g (put r.phase k idle) (before s.views 0 v C here taken_of refl) (λ i m y h e. inl (collected_kind (running m y h) (λ c. (cc)) i e));
          taken_once = once_stays s.views 0 v C here taken_of refl r.taken_once;
          done = done_stays answers s r after g (before s.views 0 v C here done_of refl);
          collected = λ seat place m y st. ⊎_elim (λ old. collected_old answers s r after g seat place m y old)
              (λ t. subst (λ (z : ℕ × O). (seat ≡ 0) × IsDone after z.0 × ((i : J) × Posts after z.0 i × answers i z.1)) t.2 (t.0, dones s.views after g n f.4, (j, posts s.views after g n j f.2, f.5)))
              (one_more s.views 0 v C here collected_of (n, o) refl seat place (m, y) st);
          collected_once = once_more s.views 0 v C here collected_of n o refl f.3 r.collected_once;
          read = read_stays answers s r after g (put r.phase k idle) (before s.views 0 v C here read_of refl) (λ i m y z e. dite (ℕ_discrete i k)
              (λ same. let q : finished n j o ≡ finished m y z = sym was ∙ ap r.phase (sym same) ∙ e in let mn : n ≡ m = ap number q in
              inr (length v.collected, o, subst (λ (a : ℕ). Stands collected_of after 0 (length v.collected) (a, o)) mn now))
              (λ other. inl (put_else r.phase k idle i other ∙ e)));
          free = longer_free s.views v C here r.slots r.phase (put r.phase k idle) k refl inside (put_here r.phase k idle) (λ i e. at_put r.phase k idle (λ h p. r.phase h ≡ idle → p ≡ idle) i (λ _. refl) (λ _ d. d) e) r.free;
          free_once = longer_once s.views v C here r.slots r.phase r.phase k refl was_busy r.free_once;
          leads = leads_stay s.views 0 v C here refl r.leads;
          closes = shut.0;
          closing = shut.1;
          seen = shut.2;
        }
